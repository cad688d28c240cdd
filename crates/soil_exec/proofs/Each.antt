-- Executions for the elements of a list, one after another.
use Rattle.std.proofs.Common.{◌≡◌, ℕ, ◌+◌, ◌<◌, List, length, drop, get_or, Ok, ap, sym, ◌∙◌}
use Rattle.std.proofs.lemmas.List.{at_drop_more}
use Rattle.soil_changes.specs.Acts.{Outcome, each, then_act}
use Rattle.soil_exec.specs.declared.fault.ExecFault.{ExecFault}
use Rattle.soil_exec.specs.Machine.{Execution, Machine}

module _ {A : Type 0} (f : A → Execution (Unit {0})) (xs : List A) (n : ℕ) where
  pub each_step : (x : A) (m : Machine) → n < length xs → x ≡ get_or xs n x → each f (drop n xs) m ≡ then_act (f x m) (λ u. each f (drop (n + 1) xs))
  each_step x m l is =
      at_drop_more (λ (ys : List A). each f ys m) xs n x l ∙ ap (λ (y : A). then_act (f y m) (λ u. each f (drop (n + 1) xs))) (sym is)

  pub each_next : (x : A) (m m' : Machine) → n < length xs → x ≡ get_or xs n x → f x m ≡ (Ok tt, m') → each f (drop (n + 1) xs) m' ≡ each f (drop n xs) m
  each_next x m m' l is h =
      sym (each_step x m l is ∙ ap (λ (o : Outcome Machine ExecFault (Unit {0})). then_act o (λ u. each f (drop (n + 1) xs))) h)
