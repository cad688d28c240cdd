use Rattle.std.proofs.Common.{arith}
use Rattle.std.proofs.lemmas.Grind.{common_steps}
use Rattle.use_shell.proofs.MoveLemmas.{appends_rest, front_kept}
use Rattle.use_shell.proofs.moves.put_all.Goals as goal

pub parts-preserved : goal.parts-preserved
parts-preserved g c = record {
  within = grind (arith, common_steps, c.in-Ok.ensures.bound);
  moved = appends_rest _ _ _ c.args.bytes.now c.parts.at c.in-Ok.count c.parts.invariant.moved c.in-Ok.ensures.bytes;
  later = omega (arith, c.put.ensures.cause.later);
}

pub returns-in-Err-Failed-clause-err : goal.returns-in-Err-Failed-clause-err
returns-in-Err-Failed-clause-err g c = front_kept _ _ _ c.args.bytes.now c.parts.at c.parts.invariant.moved c.in-Err-Failed.ensures.bytes

pub returns-in-Err-Memory-clause-err : goal.returns-in-Err-Memory-clause-err
returns-in-Err-Memory-clause-err g c = front_kept _ _ _ c.args.bytes.now c.parts.at c.parts.invariant.moved c.in-Err-Memory.ensures.bytes
