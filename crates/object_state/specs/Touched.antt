-- The cells that a change alters.
use Rattle.std.specs.Prelude.{◌≡◌, ℕ, Bool, if◌then◌else◌, List, [], ◌∷◌, ◌++◌, map}
use Rattle.std.specs.BTreeMap.{is_at}
use Rattle.std.specs.BTreeSet.{insert_key}
use Rattle.std.specs.List.{enumerate_from, flat_map, list_any}
use Rattle.std.specs.declared.cmp.Ordering.{Ordering}
use Rattle.class_model.specs.declared.numbers.End.{End}
use Rattle.class_model.specs.declared.numbers.End.TheVariants.{First, Second}
use Rattle.object_state.specs.contracts.cell.CellOrd.TheImpl.{ghosts}
use Rattle.object_state.specs.declared.cell.Cell.{Cell}
use Rattle.object_state.specs.declared.cell.Cell.TheVariants.{Kind, Slot, Nav, Extent}
use Rattle.object_state.specs.declared.change.Change.{Change}
use Rattle.object_state.specs.declared.change.Change.TheVariants.{Create, Remove, SetSlot, Link, Unlink, Bind, Unbind}
use Rattle.object_state.specs.declared.change.ObjectChange.{ObjectChange}
use Rattle.object_state.specs.declared.layout.AssocLayout.{AssocLayout}
use Rattle.object_state.specs.declared.layout.Layout.{Layout}
use Rattle.object_state.specs.Changes.{apply}
use Rattle.object_state.specs.Layouts.{ancestors, attrs, class_at, is_a}
use Rattle.object_state.specs.Looks.{look}
use Rattle.object_state.specs.State.{State}

-- a change alters a cell of a state
abbrev pub Alters : Layout → State → Change → Cell → Type 0
Alters l s c x = ¬ (look l s x ≡ look l (apply l s c) x)

-- a change that sets a slot sets another value
abbrev pub SetsAnother : Change → Type 0
SetsAnother (SetSlot o a old new) = ¬ (old ≡ new)
SetsAnother c = Unit {0}

-- the navigations that start at an object of a class, in one association: to the end opposite to one where it may stand
abbrev pub navs_to : Layout → ObjectChange → ℕ → AssocLayout → End → End → List Cell
navs_to l d a ends from to = if is_a l d.class (class_at ends from) then Nav a to d.object ∷ [] else []

abbrev pub navs : Layout → ObjectChange → ℕ → AssocLayout → List Cell
navs l d a ends = navs_to l d a ends Second First ++ navs_to l d a ends First Second

-- the cells of an object that comes or goes: its kind, its slots, its navigations, and the extents of its class and all ancestors
abbrev pub cells_of : Layout → ObjectChange → List Cell
cells_of l d = Kind d.object ∷ map (Slot d.object) (attrs l d.class) ++ flat_map (λ a. navs l d a.0 a.1) (enumerate_from 0 l.assocs)
    ++ map Extent (ancestors l d.class)

abbrev pub touched : Layout → Change → List Cell
touched l (Create d) = cells_of l d
touched l (Remove d) = cells_of l d
touched l (SetSlot o a old new) = Slot o a ∷ []
touched l (Link d) = Nav d.assoc First d.second ∷ Nav d.assoc Second d.first ∷ []
touched l (Unlink d) = Nav d.assoc First d.second ∷ Nav d.assoc Second d.first ∷ []
touched l (Bind name old new) = []
touched l (Unbind name old) = []

-- sets of cells are lists in the order of cells
abbrev pub cell_cmp : Cell → Cell → Ordering
cell_cmp = ghosts.cmp

abbrev pub has_cell : List Cell → Cell → Bool
has_cell cells x = list_any (is_at (cell_cmp x)) cells

-- a set with more cells
abbrev pub with_cells : List Cell → List Cell → List Cell
with_cells cells [] = cells
with_cells cells (x ∷ xs) = with_cells (insert_key cell_cmp cells x) xs
