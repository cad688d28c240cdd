-- The frames that are open, the top one first, and what there was when their calls were entered.
use Rattle.std.specs.Prelude.{ℕ, zero, suc, ⊤, List, [], ◌∷◌, Option, None}
use Rattle.std.specs.Option.{option_or, unwrap_or}
use Rattle.object_state.specs.declared.cell.Cell.{Cell}
use Rattle.object_state.specs.declared.cell.Look.{Look}
use Rattle.object_state.specs.declared.change.Change.{Change}
use Rattle.object_state.specs.declared.layout.Layout.{Layout}
use Rattle.object_state.specs.Touched.{touched, with_cells}
use Rattle.entry_states.specs.declared.frame.Call.{Call}
use Rattle.entry_states.specs.declared.frame.Frame.{Frame}
use Rattle.entry_states.specs.Overlays.{HasCells, IsCovered, Picture, laid_over, merged, saved_of, with_looks}

-- the call of each frame with the picture at its entry, where q is the present picture
abbrev pub entered : List Frame → Picture → List (Call × Picture)
entered [] q = []
entered (f ∷ fs) q = (f.call, laid_over f.overlay q) ∷ entered fs (laid_over f.overlay q)

-- what the lowest of the top n frames that has a cell has of it
abbrev pub saved_within : List Frame → ℕ → Cell → Option Look
saved_within [] n c = None
saved_within (f ∷ fs) zero c = None
saved_within (f ∷ fs) (suc n) c = option_or (saved_within fs n c) (saved_of f.overlay c)

-- the picture at the entry of the lowest of the top n frames, where q is the present picture
abbrev pub shown : List Frame → ℕ → Picture → Picture
shown fs n q c = unwrap_or (saved_within fs n c) (q c)

-- the cells that a change alters
abbrev pub altered_by : Layout → Change → List Cell
altered_by l c = with_cells [] (touched l c)

-- with some cells saved in the top frame
abbrev pub noted : List Frame → List Cell → Picture → List Frame
noted [] cs q = []
noted (f ∷ fs) cs q = record { call = f.call; overlay = with_looks f.overlay cs q } ∷ fs

-- the frames that stay when the top one is left: what it saved is saved in the one below
abbrev pub left : List Frame → List Frame
left [] = []
left (f ∷ []) = []
left (f ∷ g ∷ gs) = record { call = g.call; overlay = merged g.overlay f.overlay } ∷ gs

-- a frame that has saved nothing: of a call that is entered, and of the same call
abbrev pub opened : Call → Frame
opened k = record { call = k; overlay = [] }

abbrev pub bare : Frame → Frame
bare f = opened f.call

-- what an overlay has alters a picture only where the top frame has the cell
abbrev pub IsCoveredByTop : List Frame → List (Cell × Look) → Picture → Type 0
IsCoveredByTop [] es q = ⊤
IsCoveredByTop (f ∷ fs) es q = IsCovered f.overlay es q

-- the top frame, where there is one, has the cells of an overlay
abbrev pub TopHas : List Frame → List (Cell × Look) → Type 0
TopHas [] es = ⊤
TopHas (f ∷ fs) es = HasCells f.overlay es

-- as many frames, each with the cells that it had
abbrev pub Grown : List Frame → List Frame → Type 0
Grown [] [] = ⊤
Grown [] (g ∷ gs) = ⊥
Grown (f ∷ fs) [] = ⊥
Grown (f ∷ fs) (g ∷ gs) = HasCells g.overlay f.overlay × Grown fs gs
