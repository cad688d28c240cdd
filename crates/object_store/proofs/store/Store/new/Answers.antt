use Rattle.std.proofs.Common.{refl}
use Rattle.object_state.proofs.Empty.{empty_valid}
use Rattle.object_store.proofs.store.Store.new.Goals as goal

pub invariant_of-result : goal.invariant_of-result
invariant_of-result c = rw (c.new.ensures.objects, c.new-2.ensures, c.new-3.ensures) (record { valid = empty_valid c.new.result.layout; weight = refl })
