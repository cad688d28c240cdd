-- States that changes lead to, and from.
use Rattle.std.specs.Prelude.{⊤, List, [], ◌∷◌, fold}
use Rattle.object_state.specs.declared.change.Change.{Change}
use Rattle.object_state.specs.declared.layout.Layout.{Layout}
use Rattle.object_state.specs.Changes.{apply, inverse}
use Rattle.object_state.specs.Faults.{Fits}
use Rattle.object_state.specs.State.{State}

-- the state after some changes
abbrev pub led_on : Layout → State → List Change → State
led_on l s cs = fold (apply l) s cs

-- each of which fits in its turn
abbrev pub CanBeCarriedOut : Layout → State → List Change → Type 0
CanBeCarriedOut l s [] = ⊤
CanBeCarriedOut l s (c ∷ cs) = Fits l s c × CanBeCarriedOut l (apply l s c) cs

-- the state before some changes, from the state after them: what takes each back is carried out, the last first
abbrev pub taken_back : Layout → List Change → State → State
taken_back l [] s = s
taken_back l (c ∷ cs) s = apply l (taken_back l cs s) (inverse c)

-- and each of that fits in its turn
abbrev pub CanBeTakenBack : Layout → List Change → State → Type 0
CanBeTakenBack l [] s = ⊤
CanBeTakenBack l (c ∷ cs) s = CanBeTakenBack l cs s × Fits l (taken_back l cs s) (inverse c)
