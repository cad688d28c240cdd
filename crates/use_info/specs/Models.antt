-- What `info model` writes.
use Rattle.std.specs.Prelude.{ℕ, List, ◌++◌, codes, length}
use Rattle.ocl_core.specs.declared.program.ProgramParts.{ProgramParts}
use Rattle.use_info.specs.Counts.{count_line}

abbrev pub model_info : ProgramParts → List ℕ
model_info p =
    codes "model " ++ p.model.name ++ codes "\n" ++ count_line (codes "enums") (length p.model.enums) ++ count_line (codes "classes") (length p.model.classes)
    ++ count_line (codes "associations") (length p.model.assocs) ++ count_line (codes "invariants") (length p.invariants)
