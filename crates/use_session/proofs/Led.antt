-- Changes that lead on and back: each that fits in its turn can be taken back, and each that was taken back fits again.
use Rattle.std.proofs.Common.{◌≡◌, List, [], ◌∷◌, ◌++◌, sym, ap, ◌∙◌, subst}
use Rattle.std.proofs.lemmas.List.{append_assoc}
use Rattle.object_state.specs.declared.change.Change.{Change}
use Rattle.object_state.specs.declared.layout.Layout.{Layout}
use Rattle.object_state.specs.Changes.{apply}
use Rattle.object_state.specs.Faults.{Fits}
use Rattle.object_state.specs.State.{Diagram, State}
use Rattle.object_state.specs.Valid.{IsValid}
use Rattle.entry_states.specs.Leading.{CanBeCarriedOut, CanBeTakenBack, led_on, taken_back}
use Rattle.entry_states.proofs.Led.{on_and_back}
use Rattle.soil_changes.specs.Progress.{Lead}
use Rattle.soil_changes.proofs.Back.{carried}

module _ (l : Layout) where
  -- what leads on can be taken back
  pub back : (cs : List Change) (s t : State) → IsValid l s → Lead l s cs t → CanBeTakenBack l cs t × (taken_back l cs t ≡ s)
  back cs s t v h =
      let r = carried l cs s t h in
      subst (λ u. CanBeTakenBack l cs u × (taken_back l cs u ≡ s)) r.1 (on_and_back l cs s v r.0)

  -- one list after another
  pub joined : (cs ds : List Change) (s t : State) → CanBeCarriedOut l s cs → led_on l s cs ≡ t → CanBeCarriedOut l t ds
      → CanBeCarriedOut l s (cs ++ ds) × (led_on l s (cs ++ ds) ≡ led_on l t ds)
  joined [] ds s t h e k = (subst (λ u. CanBeCarriedOut l u ds) (sym e) k, ap (λ u. led_on l u ds) e)
  joined (c ∷ cs) ds s t h e k = let r = joined cs ds (apply l s c) t h.1 e k in ((h.0, r.0), r.1)

-- a list that is carried out: where it goes on, and what was carried out
pub record Carries (d0 : Diagram) (cs : List Change) (d : Diagram) (rest again : List Change) : Type 0 where
  pub layout : d.layout ≡ d0.layout
  pub end : led_on d.layout d.state rest ≡ led_on d0.layout d0.state cs
  pub on : CanBeCarriedOut d.layout d.state rest
  pub same : again ++ rest ≡ cs

pub next_fits : (d0 d : Diagram) (cs items rest again : List Change) (c : Change) → items ≡ c ∷ rest → Carries d0 cs d items again → Fits d.layout d.state c
next_fits d0 d cs items rest again c e h = (subst (CanBeCarriedOut d.layout d.state) e h.on).0

pub carries_on : (d0 d d' : Diagram) (cs items rest again again' : List Change) (c x : Change) → items ≡ c ∷ rest → Carries d0 cs d items again
    → d' ≡ record d { state = apply d.layout d.state c } → x ≡ c → again' ≡ again ++ x ∷ [] → Carries d0 cs d' rest again'
carries_on d0 d d' cs items rest again again' c x e h to same now = record {
  layout = ap (λ (z : Diagram). z.layout) to ∙ h.layout;
  end = ap (λ (z : Diagram). led_on z.layout z.state rest) to ∙ ap (led_on d.layout d.state) (sym e) ∙ h.end;
  on = subst (λ (z : Diagram). CanBeCarriedOut z.layout z.state rest) (sym to) (subst (CanBeCarriedOut d.layout d.state) e h.on).1;
  same = ap (λ l. l ++ rest) (now ∙ ap (λ y. again ++ y ∷ []) same) ∙ append_assoc again (c ∷ []) rest ∙ ap (λ l. again ++ l) (sym e) ∙ h.same;
}
