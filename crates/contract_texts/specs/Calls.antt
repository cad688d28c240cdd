-- The texts of the calls of operations that are open.
use Rattle.std.specs.Prelude.{ℕ, List, [], ◌∷◌, ◌++◌, codes}
use Rattle.std.specs.List.{flat_map}
use Rattle.ocl_values.specs.declared.value.Value.{Value}
use Rattle.ocl_values.specs.declared.value.Value.TheVariants.{Obj}
use Rattle.class_model.specs.declared.object_model.ObjectModel.{ObjectModel}
use Rattle.class_model.specs.Parts.{op_name}
use Rattle.object_state.specs.State.{State}
use Rattle.entry_states.specs.declared.frame.Call.{Call}
use Rattle.use_info.specs.ValueTexts.{text_of}

-- `RECEIVER.OP(ARG,ARG)`
abbrev pub args_behind : ObjectModel → State → List Value → List ℕ
args_behind m s [] = []
args_behind m s (v ∷ vs) = codes "," ++ text_of m s v ++ args_behind m s vs

abbrev pub args_text : ObjectModel → State → List Value → List ℕ
args_text m s [] = []
args_text m s (v ∷ vs) = text_of m s v ++ args_behind m s vs

abbrev pub call_line : ObjectModel → State → Call → List ℕ
call_line m s k = text_of m s (Obj k.receiver) ++ codes "." ++ op_name m k.op ++ codes "(" ++ args_text m s k.args ++ codes ")\n"

-- the calls that are open, the top one first
abbrev pub opstack_text : ObjectModel → State → List Call → List ℕ
opstack_text m s [] = codes "no open operation\n"
opstack_text m s (k ∷ ks) = flat_map (call_line m s) (k ∷ ks)
