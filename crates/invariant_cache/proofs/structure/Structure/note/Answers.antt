use Rattle.object_state.specs.Layouts.{layout_of}
use Rattle.invariant_cache.proofs.Answered.{on_ok}
use Rattle.invariant_cache.proofs.Followed.{follows}
use Rattle.invariant_cache.proofs.structure.Structure.note.Goals as goal

pub returns : goal.returns
returns c = on_ok c.recount.result (λ told s stands fits. follows c.args.model.now c.args.change.now _ _ told s stands fits
    (c.changes_keep_states_valid.ensures (layout_of c.args.model.now) s c.args.change.now stands.valid fits)) c.recount.ensures
