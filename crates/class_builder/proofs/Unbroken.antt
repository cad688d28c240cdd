-- What is so of declarations that break no rule.
use Rattle.std.proofs.Common.{◌≡◌, ℕ, Bool, false, List, [], ◌∷◌, Option, Some, None, refl}
use Rattle.std.specs.List.{AllByRecursion}
use Rattle.std.specs.Option.{option_map, option_or}
use Rattle.use_text.specs.declared.place.Place.{Place}
use Rattle.use_text.specs.declared.refusal.Refusal.{Refusal}
use Rattle.class_decls.specs.declared.decls.Decls.{Decls}
use Rattle.class_decls.specs.Limits.{bad_multiplicity, too_many_assocs, too_many_classes, too_many_invariants, too_many_literals}
use Rattle.class_decls.specs.Names.{name_declared_twice, operation_declared_twice, parent_named_twice}
use Rattle.class_decls.specs.References.{unknown_type}
use Rattle.class_rules.specs.declared.by_class.ClassRule.TheVariants as r
use Rattle.class_rules.specs.ClassRules.{first_broken}
use Rattle.class_rules.specs.Numbering.{inheritance_cycle}
use Rattle.class_rules.specs.Operations.{no_such_operation}
use Rattle.class_rules.specs.WellFormed.{broken_at, broken_counts, broken_features, broken_names, broken_overriding, broken_parts, broken_rule, broken_sizes, first_refusal}

pub none_left : {B : Type 0} (o p : Option B) → option_or o p ≡ None → o ≡ None
none_left None p e = refl
none_left (Some b) p e = e

pub none_right : {B : Type 0} (o p : Option B) → option_or o p ≡ None → p ≡ None
none_right None p e = e
none_right (Some b) p e = cc

pub map_none : {A B : Type 0} (f : A → B) (o : Option A) → option_map f o ≡ None → o ≡ None
map_none f None e = refl
map_none f (Some x) e = cc

all_none : (os : List (Option Refusal)) → first_refusal os ≡ None → AllByRecursion (λ o. o ≡ None) os
all_none [] e = tt
all_none (o ∷ os) e = (none_left o (first_refusal os) e, all_none os (none_right o (first_refusal os) e))

unbroken : (n : ℕ) (o : Option Place) → broken_at n o ≡ None → o ≡ None
unbroken n None e = refl
unbroken n (Some p) e = cc

module _ (ds : Decls) (ok : broken_rule ds ≡ None) where
  all : AllByRecursion (λ o. o ≡ None)
      (broken_names ds ∷ broken_at 4 (inheritance_cycle ds) ∷ broken_features ds ∷ broken_overriding ds ∷ broken_parts ds ∷ broken_sizes ds ∷ broken_counts ds
      ∷ [])
  all = all_none (broken_names ds ∷ broken_at 4 (inheritance_cycle ds) ∷ broken_features ds ∷ broken_overriding ds ∷ broken_parts ds ∷ broken_sizes ds ∷
      broken_counts ds ∷ []) ok

  pub known : unknown_type ds ≡ None
  known = unbroken 2 (unknown_type ds) (all_none (broken_at 1 (name_declared_twice ds) ∷ broken_at 2 (unknown_type ds) ∷ broken_at 3 (parent_named_twice ds) ∷
      []) all.0).1.0

  pub acyclic : inheritance_cycle ds ≡ None
  acyclic = unbroken 4 (inheritance_cycle ds) all.1.0

  pub operations_differ : operation_declared_twice ds ≡ None
  operations_differ =
      unbroken 7 (operation_declared_twice ds)
      (all_none (broken_at 5 (first_broken r.AttributeMetTwice ds) ∷ broken_at 6 (first_broken r.RoleClashes ds) ∷ broken_at 7 (operation_declared_twice ds) ∷
      []) all.1.1.0).1.1.0

  pub few_classes : too_many_classes ds ≡ None
  few_classes =
      unbroken 13 (too_many_classes ds)
      (all_none (broken_at 11 (bad_multiplicity ds) ∷ broken_at 12 (no_such_operation ds) ∷ broken_at 13 (too_many_classes ds) ∷ []) all.1.1.1.1.0).1.1.0

  sizes : AllByRecursion (λ o. o ≡ None) (broken_at 14 (first_broken r.TooManyFeatures ds) ∷ broken_at 15 (too_many_assocs ds) ∷ broken_at 16
      (too_many_invariants ds) ∷ [])
  sizes = all_none (broken_at 14 (first_broken r.TooManyFeatures ds) ∷ broken_at 15 (too_many_assocs ds) ∷ broken_at 16 (too_many_invariants ds) ∷
      []) all.1.1.1.1.1.0

  pub few_features : first_broken r.TooManyFeatures ds ≡ None
  few_features = unbroken 14 (first_broken r.TooManyFeatures ds) sizes.0

  pub few_assocs : too_many_assocs ds ≡ None
  few_assocs = unbroken 15 (too_many_assocs ds) sizes.1.0

  pub few_literals : too_many_literals ds ≡ None
  few_literals =
      unbroken 18 (too_many_literals ds)
      (all_none (broken_at 17 (first_broken r.TooManyContracts ds) ∷ broken_at 18 (too_many_literals ds) ∷ []) all.1.1.1.1.1.1.0).1.0
