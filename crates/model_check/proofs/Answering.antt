-- What is answered where a rule is broken, and where none is.
use Rattle.std.proofs.Common.{◌≡◌, ℕ, ◌<◌, ◌≤◌, ◌^◌, Bool, true, false, cond, nat_lt, List, length, map, Option, None, Result, Err, ap, arith, subst, sym, ◌∙◌}
use Rattle.std.proofs.lemmas.Bool.{le-ltb, lt-ltb}
use Rattle.std.proofs.lemmas.List.{length-map}
use Rattle.use_text.specs.Codes.{code_of}
use Rattle.use_text.specs.Refusals.{refusal_at}
use Rattle.use_text.specs.declared.code.Family.TheVariants.{M}
use Rattle.grammar_core.specs.Trees.{ParseTree}
use Rattle.use_decls.specs.Names.{LexedText}
use Rattle.class_decls.specs.declared.decls.Decls.{Decls}
use Rattle.class_rules.specs.WellFormed.{broken_rule}
use Rattle.class_rules.specs.declared.rules.RuleFault.{RuleFault}
use Rattle.class_rules.specs.declared.rules.RuleFault.TheVariants as rule
use Rattle.class_model.specs.declared.object_model.ObjectModel.{ObjectModel}
use Rattle.class_builder.specs.Building.{Builds}
use Rattle.class_builder.specs.Models.{model_of}
use Rattle.ocl_core.specs.declared.program.ProgramParts.{ProgramParts}
use Rattle.ocl_rules.specs.Typings.{Tells, Typing, then_typed}
use Rattle.ocl_rules.specs.declared.fault.TypeFault.{TypeFault}
use Rattle.ocl_rules.specs.declared.fault.TypeFault.TheVariants as typing
use Rattle.model_check.specs.Faults.{of_rules, of_types}
use Rattle.model_check.specs.Programs.{Checks, checked, checked_by, checked_if_few, checked_unless, program_by}
use Rattle.model_check.specs.declared.fault.ModelFault.{ModelFault}

pub rules_told : (l : LexedText) (ds : Decls) (t : ParseTree) (f : RuleFault) → Builds ds (Err f) → Checks (program_by l ds t) (Err (of_rules f))
rules_told l ds t rule.Memory h = tt
rules_told l ds t (rule.Refused r) h = ap (λ o. checked_unless o l ds t) h

pub types_told : {A : Type 0} (given : Typing A) (next : A → Typing ProgramParts) (f : TypeFault) → Tells given (Err f) →
    Checks (then_typed given next) (Err (of_types f))
types_told given next typing.Memory h = tt
types_told given next (typing.Refused r) h = ap (λ t. then_typed t next) h

-- declarations that are well formed
module _ (l : LexedText) (ds : Decls) (t : ParseTree) (ok : broken_rule ds ≡ None) where
  judged : (b : Bool) → nat_lt (length ds.conds) (2 ^ 32) ≡ b →
      program_by l ds t ≡ cond b (checked l ds t) (Err (refusal_at (code_of M 17) ds.name.place))
  judged b e =
      ap (λ o. checked_unless o l ds t) ok
      ∙ ap (λ c. cond c (checked l ds t) (Err (refusal_at (code_of M 17) ds.name.place))) e

  pub many_told : 2 ^ 32 ≤ length ds.conds → program_by l ds t ≡ Err (refusal_at (code_of M 17) ds.name.place)
  many_told h = judged false (le-ltb (length ds.conds) (2 ^ 32) h)

  few_told : length ds.conds < 2 ^ 32 → program_by l ds t ≡ checked l ds t
  few_told h = judged true (lt-ltb (length ds.conds) (2 ^ 32) h)

  pub program_told : (m : ObjectModel) (names : List (List ℕ)) (r : Result ProgramParts ModelFault) → m ≡ model_of ds →
      names ≡ map (λ c. c.name.text) ds.conds → length names < 2 ^ 32 → Checks (checked_by m l names t) r → Checks (program_by l ds t) r
  program_told m names r model named few h =
      let count = length-map ds.conds (λ c. c.name.text) in
      let same = ap (λ (ns : List (List ℕ)). length ns) named in
      subst (λ (g : Typing ProgramParts). Checks g r)
      (ap (λ m. checked_by m l names t) model ∙ ap (λ ns. checked_by (model_of ds) l ns t) named ∙ sym (few_told (omega (arith, few, count, same)))) h
