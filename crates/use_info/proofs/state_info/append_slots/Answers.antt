use Rattle.use_info.specs.States.{slot_line}
use Rattle.use_info.proofs.Listed.{zip-grown}
use Rattle.use_info.proofs.state_info.append_slots.Goals as goal

pub attrs-preserved : goal.attrs-preserved
attrs-preserved g c =
    zip-grown (slot_line c.args.model.now (g.S.StateReader.held c.args.state.now).state) c.args.attrs.now c.args.slots.now c.attrs.at _ _ _ _ c.attrs-test.true
    c.attrs.invariant c.in_ok-append_slot_at.ensures
