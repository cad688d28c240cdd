use Rattle.std.proofs.Common.{arith}
use Rattle.use_text.proofs.LineLemmas.{in_line_begins, in_line_goes_on}
use Rattle.use_text.proofs.line.line_end.Goals as goal

pub bytes-init : goal.bytes-init
bytes-init c = record { ahead = omega arith; within = c.requires; so_far = in_line_begins c.args.bytes.now c.args.at }

pub bytes-preserved : goal.bytes-preserved
bytes-preserved c = record {
  ahead = omega arith;
  within = omega arith;
  so_far = in_line_goes_on c.args.bytes.now c.args.at c.bytes.end c.bytes.invariant.ahead c.bytes-test.true c.if-bytes-end-eq10.false c.bytes.invariant.so_far;
}
