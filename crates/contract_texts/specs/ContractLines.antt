-- How contracts are told that are not true.
use Rattle.std.specs.Prelude.{ℕ, nat_eq, Bool, true, false, if◌then◌else◌, List, [], ◌++◌, codes, slice_get}
use Rattle.std.specs.Option.{option_map_or}
use Rattle.use_text.specs.declared.refusal.Refusal.{Refusal}
use Rattle.use_text.specs.Codes.{code_text}
use Rattle.use_text.specs.Places.{place_text}
use Rattle.ocl_values.specs.declared.value.Value.{Value}
use Rattle.ocl_values.specs.declared.value.Value.TheVariants as V
use Rattle.class_model.specs.declared.object_model.ObjectModel.{ObjectModel}
use Rattle.class_model.specs.Parts.{class_name, op_class}
use Rattle.ocl_core.specs.declared.program.Contract.{Contract}
use Rattle.ocl_core.specs.declared.program.ProgramParts.{ProgramParts}
use Rattle.ocl_eval.specs.declared.outcome.Outcome.{Outcome}
use Rattle.ocl_eval.specs.declared.outcome.Outcome.TheVariants.{Done, Exhausted}
use Rattle.contract_frames.specs.Holding.{is_true}

-- `CLASS::NAME`
abbrev pub name_text : ObjectModel → Contract → List ℕ
name_text m c = class_name m (op_class m c.op) ++ codes "::" ++ c.name

abbrev pub contract_text : ProgramParts → ℕ → List ℕ
contract_text p n = option_map_or (name_text p.model) (slice_get p.contracts n) []

-- what the condition of a contract comes to: true, false, null or invalid
abbrev pub judged_text : Value → List ℕ
judged_text (V.Bool true) = codes "true"
judged_text (V.Bool false) = codes "false"
judged_text V.Null = codes "null"
judged_text _ = codes "invalid"

-- C1 is of preconditions, C2 of postconditions
abbrev pub kind_text : ℕ → List ℕ
kind_text number = if nat_eq number 1 then codes "precondition " else codes "postcondition "

-- `pre CLASS::NAME: true` for preconditions that are all true, and `post CLASS::NAME: VALUE` for what postconditions come to
abbrev pub pre_line : ProgramParts → ℕ → List ℕ
pre_line p n = codes "pre " ++ contract_text p n ++ codes ": true\n"

abbrev pub outcome_text : Outcome → List ℕ
outcome_text (Done v) = judged_text v
outcome_text Exhausted = codes "exhausted"

abbrev pub post_line : ProgramParts → ℕ × Outcome → List ℕ
post_line p o = codes "post " ++ contract_text p o.0 ++ codes ": " ++ outcome_text o.1 ++ codes "\n"

-- one is true
abbrev pub is_met : ℕ × Outcome → Bool
is_met (n, Done v) = is_true v
is_met (n, Exhausted) = false

-- `refused C1 at LINE:COLUMN: precondition CLASS::NAME is VALUE`
abbrev pub broken_line : ProgramParts → Refusal → ℕ → Value → List ℕ
broken_line p r n v =
    codes "refused " ++ code_text r.code ++ codes " at " ++ place_text r.place ++ codes ": " ++ kind_text r.code.number ++ contract_text p n ++ codes " is "
    ++ judged_text v ++ codes "\n"
