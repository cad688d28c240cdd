use Rattle.std.proofs.Common.{subst, sym}
use Rattle.class_model.specs.InRange.{IsInRange}
use Rattle.class_builder.proofs.Differing.{in_range}
use Rattle.class_builder.proofs.construction.build.Goals as goal

pub of-requires : goal.of-requires
of-requires c = subst IsInRange (sym c.in_ok-model.ensures) (in_range c.args.decls c.in_ok-judge.ensures)
