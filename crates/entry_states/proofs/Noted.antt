-- Frames while nothing happens, while a change is carried out, and one after another.
use Rattle.std.proofs.Common.{List, [], ◌∷◌, refl, ◌∙◌}
use Rattle.object_state.specs.declared.change.Change.{Change}
use Rattle.object_state.specs.declared.layout.Layout.{Layout}
use Rattle.object_state.specs.Changes.{apply}
use Rattle.object_state.specs.Faults.{Fits}
use Rattle.object_state.specs.Looks.{look}
use Rattle.object_state.specs.State.{State}
use Rattle.object_state.specs.Valid.{IsValid}
use Rattle.entry_states.specs.declared.frame.Frame.{Frame}
use Rattle.entry_states.specs.Frames.{Grown, altered_by, noted}
use Rattle.entry_states.specs.Noting.{AreNoted}
use Rattle.entry_states.proofs.Keeps.{change_keeps, grown_same, noted_grown}

-- frames that grow twice
pub grown_on : (fs gs hs : List Frame) → Grown fs gs → Grown gs hs → Grown fs hs
grown_on [] [] hs a b = b
grown_on [] (g ∷ gs) hs a b = absurd a
grown_on (f ∷ fs) [] hs a b = absurd a
grown_on (f ∷ fs) (g ∷ gs) [] a b = absurd b
grown_on (f ∷ fs) (g ∷ gs) (h ∷ hs) a b = (λ c n. a.0 c (b.0 c n), grown_on fs gs hs a.1 b.1)

module _ (l : Layout) where
  pub none_noted : (s : State) (fs : List Frame) → AreNoted l s s fs fs
  none_noted s fs = record { same = refl; grown = grown_same fs }

  pub both_noted : (s t u : State) (fs gs hs : List Frame) → AreNoted l s t fs gs → AreNoted l t u gs hs → AreNoted l s u fs hs
  both_noted s t u fs gs hs a b = record { same = b.same ∙ a.same; grown = grown_on fs gs hs a.grown b.grown }

  pub change_noted : (s : State) (c : Change) (fs : List Frame) → IsValid l s → Fits l s c → AreNoted l s (apply l s c) fs (noted fs (altered_by l c) (look l s))
  change_noted s c fs v f = record { same = change_keeps l s c fs v f; grown = noted_grown fs (altered_by l c) (look l s) }
