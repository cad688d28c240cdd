use Rattle.ocl_core.specs.declared.program.ProgramParts.{ProgramParts}
use Rattle.command_cache.specs.Prepared.{AreKept}
use Rattle.command_cache.proofs.commands.no_commands.Given as goal

abbrev pub invariant-places : goal.invariant-places
invariant-places l = (p : ProgramParts) → AreKept p l.kept.items
