-- Contracts of a list, judged one by one.
use Rattle.std.proofs.Common.{◌≡◌, ℕ, ◌+◌, ◌<◌, Bool, List, ◌++◌, length, drop, get_or, ap, sym, ◌∙◌, append_assoc, arith}
use Rattle.std.proofs.lemmas.List.{at_drop_more}
use Rattle.ocl_values.specs.declared.value.Value.{Value}
use Rattle.ocl_eval.specs.declared.outcome.Outcome.{Outcome}
use Rattle.ocl_eval.specs.Scenes.{Scene}
use Rattle.contract_frames.specs.Judging.{all_units, condition_at, outcome_if, outcomes, units_if}

more_units : (k m a b : ℕ) → m ≡ k + a → m + b ≡ k + (a + b)
more_units k m a b h = omega arith

module _ (s : Scene) (asked : Bool) (env : List Value) (ns : List ℕ) (i : ℕ) (l : i < length ns) where
  abbrev here : ℕ
  here = get_or ns i 0

  abbrev rest : List ℕ
  rest = drop (i + 1) ns

  pub outcomes_next : (os more : List (ℕ × Outcome)) → more ≡ os ++ outcome_if s env here (condition_at s.program asked here)
      → more ++ outcomes s asked env rest ≡ os ++ outcomes s asked env (drop i ns)
  outcomes_next os more h =
      ap (λ xs. xs ++ outcomes s asked env rest) h ∙ append_assoc os (outcome_if s env here (condition_at s.program asked here)) (outcomes s asked env rest)
      ∙ ap (λ xs. os ++ xs) (sym (at_drop_more (outcomes s asked env) ns i 0 l))

  pub units_next : (k m : ℕ) → m ≡ k + units_if s env (condition_at s.program asked here) → m + all_units s asked env rest ≡ k + all_units s asked env (drop i ns)
  units_next k m h =
      more_units k m (units_if s env (condition_at s.program asked here)) (all_units s asked env rest) h
      ∙ ap (λ x. k + x) (sym (at_drop_more (all_units s asked env) ns i 0 l))
