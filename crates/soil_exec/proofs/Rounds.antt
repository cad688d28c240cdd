-- Rounds of a `while`, and turns of a `for`, one by one.
use Rattle.std.proofs.Common.{◌≡◌, ℕ, ◌-◌, ◌<◌, suc, true, false, Bool, List, Ok, ap, ◌∙◌, arith}
use Rattle.std.specs.Prelude.{if◌then◌else◌, replicate, Option, Some}
use Rattle.use_text.specs.declared.place.Place.{Place}
use Rattle.soil_exec.specs.declared.fault.ExecFault.{ExecFault}
use Rattle.ocl_values.specs.declared.value.Value.TheVariants.{Null}
use Rattle.ocl_core.specs.declared.expression.Expr.{Expr}
use Rattle.ocl_core.specs.declared.program.ProgramParts.{ProgramParts}
use Rattle.ocl_core.specs.declared.statement.Stmt.{Stmt}
use Rattle.soil_changes.specs.Acts.{Outcome, each, nothing, then_act}
use Rattle.soil_exec.specs.Machine.{Execution, Machine, push, scoped}
use Rattle.soil_exec.specs.Statements.{block, round, rounds, within}

module _ (p : ProgramParts) (inside : Place → List Stmt → Execution (Unit {0})) (at : Place) (test : Expr) (body : List Stmt) where
  abbrev pub onward : ℕ → Bool → Execution (Unit {0})
  onward n more = if more then rounds p inside at test body n else nothing

  -- where rounds are left, one is made, and then perhaps the others
  pub rounds_step : (n : ℕ) (m : Machine) → 0 < n → rounds p inside at test body n m ≡ then_act (round p inside at test body m) (onward (n - 1))
  rounds_step n m some = let e : n ≡ suc (n - 1) = omega arith in ap (λ k. rounds p inside at test body k m) e

  -- the test holds and the rounds go on
  pub goes_round : (n : ℕ) (m m' : Machine) (more : Bool) → 0 < n → round p inside at test body m ≡ (Ok more, m') → more ≡ true
      → rounds p inside at test body n m ≡ rounds p inside at test body (n - 1) m'
  goes_round n m m' more some h t =
      rounds_step n m some ∙ ap (λ (o : Outcome Machine ExecFault Bool). then_act o (onward (n - 1))) h ∙ ap (λ b. onward (n - 1) b m') t

  -- or it does not
  pub ends_rounds : (n : ℕ) (m m' : Machine) (more : Bool) → 0 < n → round p inside at test body m ≡ (Ok more, m') → more ≡ false
      → rounds p inside at test body n m ≡ (Ok tt, m')
  ends_rounds n m m' more some h t =
      rounds_step n m some ∙ ap (λ (o : Outcome Machine ExecFault Bool). then_act o (onward (n - 1))) h ∙ ap (λ b. onward (n - 1) b m') t

-- of some variables, one is pushed first
pub push_step : (n : ℕ) (m : Machine) → 0 < n → each push (replicate n Null) m ≡ then_act (push Null m) (λ u. each push (replicate (n - 1) Null))
push_step n m some = let e : n ≡ suc (n - 1) = omega arith in ap (λ k. each push (replicate k Null) m) e

-- where levels are left, a block is entered
abbrev pub block_within : ProgramParts → ℕ → Option Place → Option Place → List Stmt → Execution (Unit {0})
block_within p n told outer body = block p (within p n told) (λ at. within p n (Some at) at) told outer body

pub within_step : (p : ProgramParts) (n : ℕ) (told : Option Place) (at : Place) (body : List Stmt) → 0 < n
    → within p n told at body ≡ scoped (block_within p (n - 1) told (Some at) body)
unfolding within
within_step p n told at body some = let e : n ≡ suc (n - 1) = omega arith in ap (λ k. within p k told at body) e
