use Rattle.std.proofs.Common.{◌+◌, arith, length, sym}
use Rattle.std.proofs.lemmas.Option.{slice_get_past}
use Rattle.model_check.proofs.checked.Checked.next_name.Goals as goal

pub returns-then-count-invariants : goal.returns-then-count-invariants
returns-then-count-invariants c =
    sym (slice_get_past c.args.names.now (length c.args.self.now.invariants + length c.args.self.now.contracts) (omega arith))

pub returns-then-room-contracts : goal.returns-then-room-contracts
returns-then-room-contracts c =
    sym (slice_get_past c.args.names.now (length c.args.self.now.invariants + length c.args.self.now.contracts) (omega arith))
