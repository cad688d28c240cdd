-- One thing more of a list that is checked.
use Rattle.std.proofs.Common.{◌≡◌, List, ◌∷◌, Ok, Err, sym, ap}
use Rattle.use_text.specs.declared.refusal.Refusal.{Refusal}
use Rattle.ocl_rules.specs.Typings.{Typing, then_typed}
use Rattle.model_check.specs.declared.checked.Checked.{Checked}
use Rattle.model_check.specs.Adding.{each_added}

pub added_step : {A : Type 0} (add : Checked → A → Typing Checked) (found next : Checked) (x : A) (xs : List A) → add found x ≡ Ok next →
    each_added add next xs ≡ each_added add found (x ∷ xs)
added_step add found next x xs e = sym (ap (λ t. then_typed t (λ n. each_added add n xs)) e)

pub refused_step : {A : Type 0} (add : Checked → A → Typing Checked) (found : Checked) (x : A) (xs : List A) (r : Refusal) → add found x ≡ Err r →
    each_added add found (x ∷ xs) ≡ Err r
refused_step add found x xs r e = ap (λ t. then_typed t (λ n. each_added add n xs)) e
