-- What `info state` writes.
use Rattle.std.specs.Prelude.{ℕ, List, ◌++◌, codes, length}
use Rattle.std.specs.List.{flat_map, zip}
use Rattle.ocl_values.specs.Printing.{object_text}
use Rattle.ocl_values.specs.declared.value.Value.{Value}
use Rattle.class_model.specs.Features.{attrs}
use Rattle.class_model.specs.Parts.{assoc_name, attr_name, class_name}
use Rattle.class_model.specs.declared.object_model.ObjectModel.{ObjectModel}
use Rattle.object_state.specs.declared.objects.Object.{Object}
use Rattle.object_state.specs.State.{State}
use Rattle.use_info.specs.Counts.{count_line}
use Rattle.use_info.specs.ValueTexts.{object_name, text_of}

-- `  ATTR = VALUE`
abbrev pub slot_line : ObjectModel → State → ℕ × Value → List ℕ
slot_line m s slot = codes "  " ++ attr_name m slot.0 ++ codes " = " ++ text_of m s slot.1 ++ codes "\n"

-- `NAME : CLASS`, and then each slot by the number of its attribute
abbrev pub object_lines : ObjectModel → State → Object → List ℕ
object_lines m s x = x.name ++ codes " : " ++ class_name m x.class ++ codes "\n" ++ flat_map (slot_line m s) (zip (attrs m x.class) x.slots)

-- `ASSOC (a,b)`
abbrev pub link_line : ObjectModel → State → ℕ → ℕ × ℕ → List ℕ
link_line m s a pair =
    assoc_name m a ++ codes " (" ++ object_text pair.0 (object_name s pair.0) ++ codes "," ++ object_text pair.1 (object_name s pair.1) ++ codes ")\n"

-- the objects by number, and the links by association and stamp
abbrev pub state_info : ObjectModel → State → List ℕ
state_info m s =
    count_line (codes "objects") (length s.objects) ++ flat_map (λ e. object_lines m s e.1) s.objects ++ count_line (codes "links") (length s.links)
    ++ flat_map (λ e. link_line m s e.0.0 e.1) s.links
