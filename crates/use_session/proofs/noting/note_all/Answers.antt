use Rattle.use_session.proofs.Noted.{on_all, on_more, on_none}
use Rattle.use_session.proofs.noting.note_all.Goals as goal

pub changes-init : goal.changes-init
changes-init c = on_none c.args.model.now c.args.structure.now c.args.changes.now

pub changes-preserved : goal.changes-preserved
changes-preserved c = on_more c.args.model.now c.args.structure.now _ _ c.args.changes.now c.changes.change-index c.change-item.result c.changes-test.true
    c.change-item.is c.changes.invariant c.in_ok-note.ensures

pub returns : goal.returns
returns c = on_all c.args.model.now c.args.structure.now _ c.args.changes.now c.changes.change-index c.changes-test.false c.changes.invariant
