-- The rules of a well-formed model, tried in order.
use Rattle.std.specs.Prelude.{◌≡◌, ⊤, ℕ, List, [], ◌∷◌, Option, Some, None, Result, Ok, Err}
use Rattle.std.specs.Option.{option_map, option_or}
use Rattle.use_text.specs.declared.code.Family.TheVariants.{M}
use Rattle.use_text.specs.declared.place.Place.{Place}
use Rattle.use_text.specs.declared.refusal.Refusal.{Refusal}
use Rattle.use_text.specs.Refusals.{refusal_at}
use Rattle.class_decls.specs.declared.decls.Decls.{Decls}
use Rattle.class_rules.specs.declared.rules.RuleFault.{RuleFault}
use Rattle.class_rules.specs.declared.rules.RuleFault.TheVariants.{Memory, Refused}
use Rattle.class_decls.specs.Names.{name_declared_twice, operation_declared_twice, parent_named_twice}
use Rattle.class_decls.specs.References.{unknown_type}
use Rattle.class_rules.specs.Numbering.{inheritance_cycle}
use Rattle.class_decls.specs.Limits.{bad_multiplicity, too_many_assocs, too_many_classes, too_many_invariants, too_many_literals}
use Rattle.class_rules.specs.declared.by_class.ClassRule.TheVariants as r
use Rattle.class_rules.specs.ClassRules.{first_broken}
use Rattle.class_rules.specs.Operations.{no_such_operation}

-- the rule of a number is broken at a place, if there is one
abbrev pub broken_at : ℕ → Option Place → Option Refusal
broken_at number place = option_map (refusal_at (record { family = M; number = number })) place

-- the first of some refusals
abbrev pub first_refusal : List (Option Refusal) → Option Refusal
first_refusal [] = None
first_refusal (o ∷ os) = option_or o (first_refusal os)

-- names that are declared twice, unknown ones, and parents
abbrev pub broken_names : Decls → Option Refusal
broken_names ds =
    first_refusal (broken_at 1 (name_declared_twice ds) ∷ broken_at 2 (unknown_type ds) ∷ broken_at 3 (parent_named_twice ds) ∷ [])

-- attributes, roles and operations of one name
abbrev pub broken_features : Decls → Option Refusal
broken_features ds =
    first_refusal
    (broken_at 5 (first_broken r.AttributeMetTwice ds) ∷ broken_at 6 (first_broken r.RoleClashes ds) ∷ broken_at 7 (operation_declared_twice ds) ∷ [])

-- operations that override others
abbrev pub broken_overriding : Decls → Option Refusal
broken_overriding ds =
    first_refusal
    (broken_at 8 (first_broken r.SignatureChanges ds) ∷ broken_at 9 (first_broken r.OperationAmbiguous ds) ∷ broken_at 10 (first_broken r.BodiesMixed ds) ∷ [])

-- multiplicities, heads of contexts, and how many classes there are
abbrev pub broken_parts : Decls → Option Refusal
broken_parts ds =
    first_refusal
    (broken_at 11 (bad_multiplicity ds) ∷ broken_at 12 (no_such_operation ds) ∷ broken_at 13 (too_many_classes ds) ∷ [])

-- how much else there is
abbrev pub broken_sizes : Decls → Option Refusal
broken_sizes ds =
    first_refusal
    (broken_at 14 (first_broken r.TooManyFeatures ds) ∷ broken_at 15 (too_many_assocs ds) ∷ broken_at 16 (too_many_invariants ds) ∷ [])

abbrev pub broken_counts : Decls → Option Refusal
broken_counts ds =
    first_refusal
    (broken_at 17 (first_broken r.TooManyContracts ds) ∷ broken_at 18 (too_many_literals ds) ∷ [])

-- the least rule that the declarations break, at its first place; none where they are well formed
abbrev pub broken_rule : Decls → Option Refusal
broken_rule ds =
    first_refusal
    (broken_names ds ∷ broken_at 4 (inheritance_cycle ds) ∷ broken_features ds ∷ broken_overriding ds ∷ broken_parts ds
    ∷ broken_sizes ds ∷ broken_counts ds ∷ [])

-- a judgement tells a refusal, or that there is none
abbrev pub Tells : Option Refusal → Result (Unit {0}) RuleFault → Type 0
Tells o (Ok done) = o ≡ None
Tells o (Err Memory) = ⊤
Tells o (Err (Refused r)) = o ≡ Some r
