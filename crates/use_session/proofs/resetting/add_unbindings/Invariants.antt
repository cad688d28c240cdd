use Rattle.std.proofs.Common.{◌≡◌, ◌++◌, map}
use Rattle.std.specs.Vec.Iter.{into_iter_items}
use Rattle.object_state.specs.declared.change.Change.TheVariants.{Unbind}
use Rattle.use_session.specs.Resetting.{unbindings}
use Rattle.use_session.proofs.resetting.add_unbindings.Given as goal

abbrev pub invariant-variables : goal.invariant-variables
invariant-variables l = l.changes ++ map (λ e. Unbind e.0 e.1) (into_iter_items l.name-iterator) ≡ l.fn.changes ++ unbindings l.store.state
