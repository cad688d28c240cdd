-- What a change that is made makes of a transaction, and acts one after another.
use Rattle.std.proofs.Common.{◌≡◌, Bool, true, false, List, [], ◌∷◌, Option, Some, None, Result, Ok, Err, refl, sym, ap, ◌∙◌}
use Rattle.std.specs.Prelude.{nat_lt}
use Rattle.use_text.specs.declared.code.Code.{Code}
use Rattle.object_state.specs.declared.change.Change.{Change}
use Rattle.object_state.specs.declared.store_fault.StoreFault.{StoreFault}
use Rattle.object_state.specs.Faults.{fault}
use Rattle.object_state.specs.Weights.{change_weight}
use Rattle.soil_changes.specs.Acts.{Act, Outcome, ◌>>◌, each, nothing, refuse_if, then_act}
use Rattle.soil_changes.specs.declared.fault.ChangeFault.{ChangeFault}
use Rattle.soil_changes.specs.declared.fault.ChangeFault.TheVariants.{Memory, Refused}
use Rattle.soil_changes.specs.Progress.{Changing, Gives, Progress, carry_out, make, make_fit, refuse_for, with_change, x_code}

refused : {S E A : Type 0} {e : E} {a : A} {p q : S} {P : Type 0} → ◌≡◌ {A = Outcome S E A} (Err e, p) (Ok a, q) → P
refused h = absurd (apart (ap (λ o. o.0) h))
  where
    apart : {E A : Type 0} {e : E} {a : A} → Err e ≡ Ok a → ⊥
    apart h = cc

-- a change was made exactly where the transaction is so
pub made : (c : Change) (p q : Progress) → make c p ≡ (Ok tt, q) → q ≡ with_change c p
made c p q h = by (fault p.layout p.state c) h
  where
    light : (b : Bool) → (refuse_if b (x_code 13) >> carry_out c) p ≡ (Ok tt, q) → q ≡ with_change c p
    light false h = sym (ap (λ o. o.1) h)
    light true h = refused h

    by : (f : Option StoreFault) → (refuse_for f >> make_fit c) p ≡ (Ok tt, q) → q ≡ with_change c p
    by None h = light (nat_lt p.left (change_weight c)) h
    by (Some f) h = refused h

-- of several acts, the first was done
pub each_next : {S E A : Type 0} (f : A → Act S E (Unit {0})) (x : A) (xs : List A) (s t : S) → f x s ≡ (Ok tt, t) → each f (x ∷ xs) s ≡ each f xs t
each_next f x xs s t h = ap (λ o. then_act o (λ u. each f xs)) h

-- or the first was refused
pub each_refused : {S E A : Type 0} (f : A → Act S E (Unit {0})) (x : A) (xs : List A) (s t : S) (e : E) → f x s ≡ (Err e, t) → each f (x ∷ xs) s ≡ (Err e, t)
each_refused f x xs s t e h = ap (λ o. then_act o (λ u. each f xs)) h

-- what is told of that
pub each_fails : {A : Type 0} (f : A → Changing (Unit {0})) (x : A) (xs : List A) (s t : Progress) (e : ChangeFault)
    → Gives {A = Unit {0}} (f x s) (Err e) t → Gives {A = Unit {0}} (each f (x ∷ xs) s) (Err e) t
each_fails f x xs s t Memory h = tt
each_fails f x xs s t (Refused code) h = each_refused f x xs s t code h
