-- Changes that can be taken back, one more and one less, and that they lead to where they led.
use Rattle.std.proofs.Common.{◌≡◌, List, [], ◌∷◌, ◌++◌, refl, sym, ap, subst}
use Rattle.object_state.specs.declared.change.Change.{Change}
use Rattle.object_state.specs.declared.layout.Layout.{Layout}
use Rattle.object_state.specs.Changes.{apply, inverse}
use Rattle.object_state.specs.Faults.{Fits}
use Rattle.object_state.specs.State.{State}
use Rattle.object_state.specs.Valid.{IsValid}
use Rattle.object_state.proofs.Back as changes
use Rattle.object_state.proofs.Refit.{fits_back}
use Rattle.entry_states.specs.Leading.{CanBeCarriedOut, CanBeTakenBack, led_on, taken_back}
use Rattle.entry_states.proofs.Led.{back_and_on}
use Rattle.soil_changes.specs.Progress.{Lead}

module _ (l : Layout) where
  -- one change more
  pub start_more : (cs : List Change) (s : State) (c : Change) → IsValid l s → Fits l s c
      → taken_back l (cs ++ c ∷ []) (apply l s c) ≡ taken_back l cs s
  start_more [] s c v f = changes.taken_back l s c v f
  start_more (d ∷ cs) s c v f = ap (λ t. apply l t (inverse d)) (start_more cs s c v f)

  pub back_more : (cs : List Change) (s : State) (c : Change) → IsValid l s → Fits l s c → CanBeTakenBack l cs s
      → CanBeTakenBack l (cs ++ c ∷ []) (apply l s c)
  back_more [] s c v f b = (tt, fits_back l s c v f)
  back_more (d ∷ cs) s c v f b = (back_more cs s c v f b.0, subst (λ t. Fits l t (inverse d)) (sym (start_more cs s c v f)) b.1)

  -- one change less
  pub start_less : (cs : List Change) (c : Change) (s : State) → taken_back l (cs ++ c ∷ []) s ≡ taken_back l cs (apply l s (inverse c))
  start_less [] c s = refl
  start_less (d ∷ cs) c s = ap (λ t. apply l t (inverse d)) (start_less cs c s)

  pub fits_less : (cs : List Change) (c : Change) (s : State) → CanBeTakenBack l (cs ++ c ∷ []) s → Fits l s (inverse c)
  fits_less [] c s b = b.1
  fits_less (d ∷ cs) c s b = fits_less cs c s b.0

  pub back_less : (cs : List Change) (c : Change) (s : State) → CanBeTakenBack l (cs ++ c ∷ []) s → CanBeTakenBack l cs (apply l s (inverse c))
  back_less [] c s b = tt
  back_less (d ∷ cs) c s b = (back_less cs c s b.0, subst (λ t. Fits l t (inverse d)) (start_less cs c s) b.1)

  -- between the forms of one fact
  pub leads : (cs : List Change) (s t : State) → CanBeCarriedOut l s cs → led_on l s cs ≡ t → Lead l s cs t
  leads [] s t h e = e
  leads (c ∷ cs) s t h e = (h.0, leads cs (apply l s c) t h.1 e)

  pub carried : (cs : List Change) (s t : State) → Lead l s cs t → CanBeCarriedOut l s cs × (led_on l s cs ≡ t)
  carried [] s t h = (tt, h)
  carried (c ∷ cs) s t h = let r = carried cs (apply l s c) t h.1 in ((h.0, r.0), r.1)

  -- the changes lead from the first state to the last
  pub lead : (cs : List Change) (s : State) → IsValid l s → CanBeTakenBack l cs s → Lead l (taken_back l cs s) cs s
  lead cs s v b = let r = back_and_on l cs s v b in leads cs (taken_back l cs s) s r.0 r.1
