-- Changes that lead on and back: each that fits in its turn can be taken back, and each that was taken back fits again.
use Rattle.std.proofs.Common.{◌≡◌, List, [], ◌∷◌, ◌++◌, Some, None, refl, sym, ap, ◌∙◌, subst}
use Rattle.object_state.specs.declared.change.Change.{Change}
use Rattle.object_state.specs.declared.change.Change.TheVariants.{Create, Remove, SetSlot, Link, Unlink, Bind, Unbind}
use Rattle.object_state.specs.declared.layout.Layout.{Layout}
use Rattle.object_state.specs.Changes.{apply, inverse}
use Rattle.object_state.specs.Faults.{Fits}
use Rattle.object_state.specs.State.{State}
use Rattle.object_state.specs.Valid.{IsValid}
use Rattle.object_state.proofs.Back as changes
use Rattle.object_state.proofs.Kept.{stays_valid}
use Rattle.object_state.proofs.Refit.{fits_back}
use Rattle.entry_states.specs.Leading.{CanBeCarriedOut, CanBeTakenBack, led_on, taken_back}

pub inverse_twice : (c : Change) → inverse (inverse c) ≡ c
inverse_twice (Create d) = refl
inverse_twice (Remove d) = refl
inverse_twice (SetSlot o a old new) = refl
inverse_twice (Link d) = refl
inverse_twice (Unlink d) = refl
inverse_twice (Bind name None new) = refl
inverse_twice (Bind name (Some old) new) = refl
inverse_twice (Unbind name old) = refl

module _ (l : Layout) where
  -- what is carried out can be taken back
  pub on_and_back : (cs : List Change) (s : State) → IsValid l s → CanBeCarriedOut l s cs
      → CanBeTakenBack l cs (led_on l s cs) × (taken_back l cs (led_on l s cs) ≡ s)
  on_and_back [] s v h = (tt, refl)
  on_and_back (c ∷ cs) s v h =
      let r = on_and_back cs (apply l s c) (stays_valid l s c v h.0) h.1 in (
        (r.0, subst (λ u. Fits l u (inverse c)) (sym r.1) (fits_back l s c v h.0)),
        ap (λ u. apply l u (inverse c)) r.1 ∙ changes.taken_back l s c v h.0,
      )

  -- the state to which changes are taken back is valid
  pub back_valid : (cs : List Change) (s : State) → IsValid l s → CanBeTakenBack l cs s → IsValid l (taken_back l cs s)
  back_valid [] s v b = v
  back_valid (c ∷ cs) s v b = stays_valid l (taken_back l cs s) (inverse c) (back_valid cs s v b.0) b.1

  -- and what was taken back can be carried out again
  pub back_and_on : (cs : List Change) (s : State) → IsValid l s → CanBeTakenBack l cs s
      → CanBeCarriedOut l (taken_back l cs s) cs × (led_on l (taken_back l cs s) cs ≡ s)
  back_and_on [] s v b = (tt, refl)
  back_and_on (c ∷ cs) s v b =
      let mid = taken_back l cs s in
      let w = back_valid cs s v b.0 in
      let fits = subst (λ d. Fits l (apply l mid (inverse c)) d) (inverse_twice c) (fits_back l mid (inverse c) w b.1) in
      let there : apply l (apply l mid (inverse c)) c ≡ mid =
      ap (apply l (apply l mid (inverse c))) (sym (inverse_twice c)) ∙ changes.taken_back l mid (inverse c) w b.1 in
      let r = back_and_on cs s v b.0 in
      ((fits, subst (λ t. CanBeCarriedOut l t cs) (sym there) r.0), ap (λ t. led_on l t cs) there ∙ r.1)

  -- one list after another
  pub on_more : (cs ds : List Change) (s : State) → led_on l s (cs ++ ds) ≡ led_on l (led_on l s cs) ds
  on_more [] ds s = refl
  on_more (c ∷ cs) ds s = on_more cs ds (apply l s c)

  pub on_apart : (cs ds : List Change) (s : State) → CanBeCarriedOut l s (cs ++ ds) → CanBeCarriedOut l s cs × CanBeCarriedOut l (led_on l s cs) ds
  on_apart [] ds s h = (tt, h)
  on_apart (c ∷ cs) ds s h = let r = on_apart cs ds (apply l s c) h.1 in ((h.0, r.0), r.1)

  -- the state to which changes lead is valid
  pub on_valid : (cs : List Change) (s : State) → IsValid l s → CanBeCarriedOut l s cs → IsValid l (led_on l s cs)
  on_valid [] s v h = v
  on_valid (c ∷ cs) s v h = on_valid cs (apply l s c) (stays_valid l s c v h.0) h.1
