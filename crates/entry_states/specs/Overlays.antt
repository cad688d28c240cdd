-- Overlays: what cells held before they were altered. Laid over what all cells hold now, an overlay shows what they held then.
use Rattle.std.specs.Prelude.{◌≡◌, Bool, true, false, if◌then◌else◌, List, Option, None, fold}
use Rattle.std.specs.BTreeMap.{insert_entry, is_at}
use Rattle.std.specs.List.{All}
use Rattle.std.specs.Map.{lookup}
use Rattle.std.specs.Option.{is_some, unwrap_or}
use Rattle.object_state.specs.declared.cell.Cell.{Cell}
use Rattle.object_state.specs.declared.cell.Cell.TheVariants.{Kind, Slot, Nav, Extent}
use Rattle.object_state.specs.declared.cell.Look.{Look}
use Rattle.object_state.specs.declared.cell.Look.TheVariants as L
use Rattle.object_state.specs.Looks.{IsWellMadeLook}
use Rattle.object_state.specs.Touched.{cell_cmp}

-- what each cell holds
abbrev pub Picture : Type 0
Picture = Cell → Look

-- the form of what a cell holds
abbrev pub is_class_look : Look → Bool
is_class_look L.Absent = true
is_class_look (L.Class c) = true
is_class_look _ = false

abbrev pub is_value_look : Look → Bool
is_value_look L.Absent = true
is_value_look (L.Value v) = true
is_value_look _ = false

abbrev pub is_items_look : Look → Bool
is_items_look L.Absent = true
is_items_look (L.Items vs) = true
is_items_look _ = false

abbrev pub is_extent_look : Look → Bool
is_extent_look (L.Items vs) = true
is_extent_look _ = false

abbrev pub has_form_of : Cell → Look → Bool
has_form_of (Kind o) x = is_class_look x
has_form_of (Slot o a) x = is_value_look x
has_form_of (Nav a e o) x = is_items_look x
has_form_of (Extent c) x = is_extent_look x

-- a cell can hold what is well made and of its form
pub record CanHold (c : Cell) (x : Look) : Type 0 where
  pub form : has_form_of c x ≡ true
  pub well_made : IsWellMadeLook x

abbrev pub CanBeHeld : List (Cell × Look) → Type 0
CanBeHeld es = All (λ e. CanHold e.0 e.1) es

-- what an overlay has of a cell
abbrev pub saved_of : List (Cell × Look) → Cell → Option Look
saved_of es c = lookup (is_at (cell_cmp c)) es

-- with what a cell held, unless the overlay has the cell
abbrev pub with_saved : List (Cell × Look) → Cell → Look → List (Cell × Look)
with_saved es c x = if is_some (saved_of es c) then es else insert_entry cell_cmp es c x

-- with those of some cells that it lacks, as they are in a picture
abbrev pub with_looks : List (Cell × Look) → List Cell → Picture → List (Cell × Look)
with_looks es cs q = fold (λ o c. with_saved o c (q c)) es cs

-- with those cells of another overlay that it lacks
abbrev pub merged : List (Cell × Look) → List (Cell × Look) → List (Cell × Look)
merged below above = fold (λ o e. with_saved o e.0 e.1) below above

-- a picture, but for the cells that the overlay has
abbrev pub laid_over : List (Cell × Look) → Picture → Picture
laid_over es q c = unwrap_or (saved_of es c) (q c)

-- what the overlay above has alters a picture only where the one below has the cell
abbrev pub IsCovered : (below above : List (Cell × Look)) → Picture → Type 0
IsCovered below above q = (c : Cell) → saved_of below c ≡ None → laid_over above q c ≡ q c

-- the cells of the overlay above are in the one below too
abbrev pub HasCells : (below above : List (Cell × Look)) → Type 0
HasCells below above = (c : Cell) → saved_of below c ≡ None → saved_of above c ≡ None
