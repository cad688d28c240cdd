-- A program whose operations have their contracts.
use Rattle.ocl_program.specs.declared.program.Program.TheInside.{Inside}
use Rattle.ocl_program.specs.Programs.{AreRows, IsProgram}

pub record IsIndexed (p : Inside) : Type 0 where
  pub checked : IsProgram p.parts
  pub rows : AreRows p.parts p.contracts
