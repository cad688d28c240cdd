use Rattle.object_state.proofs.Empty.{empty_valid}
use Rattle.object_state.proofs.plain.PlainStore.new.Goals as goal

pub invariant_of-result : goal.invariant_of-result
invariant_of-result c = rw (c.new.ensures, c.new-2.ensures, c.new-3.ensures) (empty_valid c.args.layout)
