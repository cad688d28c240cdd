-- What `check` writes.
use Rattle.std.specs.Prelude.{ℕ, Bool, true, false, ◌&&◌, nat_eq, if◌then◌else◌, List, [], ◌∷◌, ◌++◌, codes, length}
use Rattle.std.specs.Fmt.{decimal}
use Rattle.std.specs.List.{flat_map, zip}
use Rattle.ocl_values.specs.Printing.{object_text}
use Rattle.class_model.specs.Parts.{assoc_name, class_name, multiplicity, role_name}
use Rattle.class_model.specs.declared.object_model.ObjectModel.{ObjectModel}
use Rattle.ocl_core.specs.declared.program.Invariant.{Invariant}
use Rattle.ocl_core.specs.declared.program.ProgramParts.{ProgramParts}
use Rattle.object_state.specs.State.{State}
use Rattle.invariant_cache.specs.Verdicts.{instance_text, not_ok, verdict_text}
use Rattle.invariant_cache.specs.declared.report.Instance.{Instance}
use Rattle.invariant_cache.specs.declared.report.Judged.{Judged}
use Rattle.invariant_cache.specs.declared.report.Report.{Report}
use Rattle.invariant_cache.specs.declared.structure.Violation.{Violation}
use Rattle.use_info.specs.ValueTexts.{object_name}

-- the name of a live object
abbrev pub named : State → ℕ → List ℕ
named s o = object_text o (object_name s o)

-- `structure: ASSOC.ROLE: OBJECT has N, expected SPEC`
abbrev pub violation_line : ObjectModel → State → Violation → List ℕ
violation_line m s v =
    codes "structure: " ++ assoc_name m v.assoc ++ codes "." ++ role_name m v.assoc v.end ++ codes ": " ++ named s v.object ++ codes " has "
    ++ decimal v.count ++ codes ", expected " ++ (multiplicity m v.assoc v.end).spec ++ codes "\n"

abbrev pub structure_lines : ObjectModel → State → List Violation → List ℕ
structure_lines m s [] = codes "structure: OK\n"
structure_lines m s (v ∷ vs) = flat_map (violation_line m s) (v ∷ vs)

-- `inv C::N: V`
abbrev pub verdict_line : ObjectModel → Invariant → Judged → List ℕ
verdict_line m inv j = codes "inv " ++ class_name m inv.class ++ codes "::" ++ inv.name ++ codes ": " ++ verdict_text j.verdict ++ codes "\n"

-- `  OBJECT: Fails`
abbrev pub instance_line : State → ℕ × Instance → List ℕ
instance_line s found = codes "  " ++ named s found.0 ++ codes ": " ++ instance_text found.1 ++ codes "\n"

-- with the instances that do not hold, where they are asked for
abbrev pub verdict_lines : ObjectModel → State → Bool → Invariant × Judged → List ℕ
verdict_lines m s detail line = verdict_line m line.0 line.1 ++ (if detail then flat_map (instance_line s) line.1.bad else [])

-- `A invariants, B evaluated, C not OK`
abbrev pub summary_line : Report → List ℕ
summary_line r = decimal (length r.lines) ++ codes " invariants, " ++ decimal r.evaluated ++ codes " evaluated, " ++ decimal (not_ok r) ++ codes " not OK\n"

abbrev pub check_text : ProgramParts → State → Bool → List Violation → Report → List ℕ
check_text p s detail vs r =
    structure_lines p.model s vs ++ flat_map (verdict_lines p.model s detail) (zip p.invariants r.lines) ++ summary_line r

-- no multiplicity is broken
abbrev pub breaks_none : List Violation → Bool
breaks_none [] = true
breaks_none (v ∷ vs) = false

-- and each invariant is OK
abbrev pub finds_nothing : List Violation → Report → Bool
finds_nothing vs r = breaks_none vs && nat_eq (not_ok r) 0
