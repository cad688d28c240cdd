-- Invariants that are judged one after another, and instances one after another.
use Rattle.std.proofs.Common.{◌≡◌, ℕ, ◌+◌, ◌-◌, ◌<◌, ◌≤◌, List, [], ◌∷◌, ◌++◌, length, take, get_or, Option, refl, sym, ap, ap₂, ◌∙◌, arith}
use Rattle.std.specs.List.{cons_option, slice_set, sum_by}
use Rattle.std.specs.Option.{option_map}
use Rattle.std.proofs.lemmas.List.{take_all, take_more}
use Rattle.std.proofs.lemmas.List.Elements.{filter_map-append}
use Rattle.std.proofs.lemmas.List.Sums.{sum_by-append}
use Rattle.ocl_values.specs.declared.value.Value.{Value}
use Rattle.ocl_values.specs.declared.value.Value.TheVariants.{Obj}
use Rattle.ocl_values.specs.Shape.{IsWellMade}
use Rattle.ocl_core.specs.declared.program.Invariant.{Invariant}
use Rattle.ocl_core.specs.declared.program.ProgramParts.{ProgramParts}
use Rattle.object_state.specs.declared.cell.Cell.{Cell}
use Rattle.object_state.specs.declared.cell.Look.{Look}
use Rattle.ocl_eval.specs.declared.outcome.Outcome.{Outcome as Told}
use Rattle.ocl_eval.specs.Evaluation.{max_units, told}
use Rattle.invariant_cache.specs.declared.report.Instance.{Instance}
use Rattle.invariant_cache.specs.Verdicts.{bad_among, bad_at, by_outcome, part}

pub object_well : (o : ℕ) → IsWellMade (Obj o)
object_well o = record { tidy = tt; levels = omega arith }

-- the one value of an environment becomes another
pub one_set : (vs : List Value) (v : Value) → length vs ≡ 1 → slice_set vs 0 v ≡ v ∷ []
one_set [] v h = absurd (omega arith)
one_set (w ∷ []) v h = refl
one_set (w ∷ u ∷ vs) v h = absurd (omega arith)

-- the units that are spent
pub spent : (before after left left' : ℕ) → after + left ≡ before + max_units → left ≡ left' → left' ≤ max_units → after ≡ before + (max_units - left')
spent before after left left' h e small = omega arith

-- a sum of one more
pub sum_more : {X : Type 0} (f : X → ℕ) (xs : List X) (i : ℕ) (d : X) → i < length xs → sum_by f (take (i + 1) xs) ≡ sum_by f (take i xs) + f (get_or xs i d)
sum_more f xs i d h =
    let one : sum_by f (get_or xs i d ∷ []) ≡ f (get_or xs i d) = omega arith in
    ap (sum_by f) (take_more xs i d h) ∙ sum_by-append f (take i xs) (get_or xs i d ∷ []) ∙ ap (λ (n : ℕ). sum_by f (take i xs) + n) one

pub more_units : {X : Type 0} (f : X → ℕ) (xs : List X) (i : ℕ) (d : X) (start before after : ℕ) → i < length xs → before ≡ start + sum_by f (take i xs)
    → after ≡ before + f (get_or xs i d) → after ≡ start + sum_by f (take (i + 1) xs)
more_units f xs i d start before after h e k = let s = sum_more f xs i d h in omega arith

pub all_units : {X : Type 0} (f : X → ℕ) (xs : List X) (i : ℕ) (start after : ℕ) → length xs ≤ i → after ≡ start + sum_by f (take i xs)
    → after ≡ start + sum_by f xs
all_units f xs i start after h e = e ∙ ap (λ (l : List _). start + sum_by f l) (take_all i xs h)

module _ (p : ProgramParts) (now : Cell → Look) (inv : Invariant) where
  -- one instance more
  pub more_bad : (os : List ℕ) (i : ℕ) (bad bad' : List (ℕ × Instance)) (why : Option Instance) (outcome : Told) → i < length os
      → bad ≡ bad_among p now inv (take i os) → bad' ≡ bad ++ cons_option (option_map (λ w. (get_or os i 0, w)) why) [] → why ≡ by_outcome outcome
      → outcome ≡ told (part p now inv (get_or os i 0)).0 → bad' ≡ bad_among p now inv (take (i + 1) os)
  more_bad os i bad bad' why outcome h e k w t =
      k ∙ ap₂ (λ (l : List (ℕ × Instance)) (u : Option Instance). l ++ cons_option (option_map (λ w. (get_or os i 0, w)) u) []) e (w ∙ ap by_outcome t)
      ∙ sym (ap (bad_among p now inv) (take_more os i 0 h) ∙ filter_map-append (bad_at p now inv) (take i os) (get_or os i 0 ∷ []))
