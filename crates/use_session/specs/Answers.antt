-- The lines that answer commands.
use Rattle.std.specs.Prelude.{ℕ, List, [], ◌++◌, codes, map}
use Rattle.use_text.specs.declared.refusal.Refusal.{Refusal}
use Rattle.use_text.specs.Refusals.{refusal_text}
use Rattle.ocl_values.specs.declared.value.Value.{Value}
use Rattle.class_model.specs.declared.object_model.ObjectModel.{ObjectModel}
use Rattle.class_model.specs.declared.types.OclType.{OclType}
use Rattle.ocl_core.specs.declared.program.ProgramParts.{ProgramParts}
use Rattle.object_state.specs.State.{State}
use Rattle.entry_states.specs.declared.frame.Call.{Call}
use Rattle.entry_states.specs.Overlays.{Picture}
use Rattle.use_info.specs.Classes.{class_info}
use Rattle.use_info.specs.Models.{model_info}
use Rattle.use_info.specs.States.{state_info}
use Rattle.use_info.specs.TypeTexts.{type_text}
use Rattle.use_info.specs.ValueTexts.{text_of}
use Rattle.use_info.specs.Variables.{variables_info}
use Rattle.soil_check.specs.declared.checked.Topic.{Topic}
use Rattle.soil_check.specs.declared.checked.Topic.TheVariants as topic
use Rattle.contract_texts.specs.Calls.{opstack_text}

-- `-> VALUE : TYPE`
abbrev pub value_line : ObjectModel → State → Value → OclType → List ℕ
value_line m s v t = codes "-> " ++ text_of m s v ++ codes " : " ++ type_text m t ++ codes "\n"

-- `refused CODE at LINE:COLUMN: TEXT`
abbrev pub refusal_line : Refusal → List ℕ
refusal_line r = refusal_text r ++ codes "\n"

-- what `info` writes of a topic; those that are not built yet are refused before
abbrev pub info_text : ProgramParts → State → List (Call × Picture) → Topic → List ℕ
info_text p s calls (topic.Class c) = class_info p.model s c
info_text p s calls topic.Model = model_info p
info_text p s calls topic.State = state_info p.model s
info_text p s calls topic.Vars = variables_info p.model s
info_text p s calls topic.Opstack = opstack_text p.model s (map (λ c. c.0) calls)
info_text p s calls _ = []
