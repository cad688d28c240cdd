-- What is threaded through an evaluation: the units that are left, and the cells that were read.
use Rattle.std.specs.Prelude.{◌≡◌, ℕ, ◌-◌, nat_le, Bool, if◌then◌else◌, List, [], ◌∷◌, Option, Some, None, Result, Ok, Err}
use Rattle.std.specs.BTreeSet.{insert_key}
use Rattle.ocl_values.specs.Shape.{size_of}
use Rattle.ocl_values.specs.declared.value.Value.{Value}
use Rattle.object_state.specs.Touched.{cell_cmp}
use Rattle.object_state.specs.declared.cell.Cell.{Cell}
use Rattle.ocl_eval.specs.declared.meter.Meter.{Meter}
use Rattle.ocl_eval.specs.declared.stop.Stop.{Stop}
use Rattle.ocl_eval.specs.declared.stop.Stop.TheVariants.{Exhausted}

-- a result, or none where the evaluation is exhausted, and what is left and was read
abbrev pub Outcome : Type 0 → Type 0
Outcome A = Option A × Meter

abbrev pub Evaluation : Type 0 → Type 0
Evaluation A = Meter → Outcome A

-- goes on with what is given; the first exhausted part ends it
abbrev pub then_with : {A B : Type 0} → Outcome A → (A → Evaluation B) → Outcome B
then_with (Some a, m) next = next a m
then_with (None, m) next = (None, m)

infixl 10 ◌>>=◌
abbrev pub ◌>>=◌ : {A B : Type 0} → Evaluation A → (A → Evaluation B) → Evaluation B
p >>= next = λ m. then_with (p m) next

infixl 10 ◌>>◌
abbrev pub ◌>>◌ : {A B : Type 0} → Evaluation A → Evaluation B → Evaluation B
p >> q = p >>= (λ _. q)

abbrev pub pure : {A : Type 0} → A → Evaluation A
pure a = λ m. (Some a, m)

abbrev pub exhausted : {A : Type 0} → Evaluation A
exhausted = λ m. (None, m)

-- so many units, if they are left
abbrev pub spend : ℕ → Evaluation (Unit {0})
spend n = λ m. if nat_le n m.fuel then (Some tt, record m { fuel = m.fuel - n }) else (None, m)

-- the value of a node costs its size
abbrev pub pay : Value → Evaluation Value
pay v = spend (size_of v) >> pure v

-- a cell is read
abbrev pub read : Cell → Evaluation (Unit {0})
read cell = λ m. (Some tt, record m { reads = insert_key cell_cmp m.reads cell })

-- a walk with a step and a stop
abbrev pub walk : {S A : Type 0} → (S → Bool) → (S → A → Evaluation S) → S → List A → Evaluation S
walk stops step s [] = pure s
walk stops step s (x ∷ xs) = if stops s then pure s else (step s x >>= (λ t. walk stops step t xs))

-- what a function gives, unless memory is wanting
abbrev pub Gives : {A : Type 0} → Outcome A → Result A Stop → Meter → Type 0
Gives outcome (Ok a) left = outcome ≡ (Some a, left)
Gives outcome (Err stop) left = stop ≡ Exhausted → outcome ≡ (None, left)

-- the same of a result that stands for another
abbrev pub GivesAs : {A B : Type 0} → (A → B) → Outcome B → Result A Stop → Meter → Type 0
GivesAs view outcome (Ok a) left = outcome ≡ (Some (view a), left)
GivesAs view outcome (Err stop) left = stop ≡ Exhausted → outcome ≡ (None, left)
