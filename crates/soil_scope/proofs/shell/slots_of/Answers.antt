use Rattle.std.proofs.Common.{sym, ◌∙◌}
use Rattle.soil_scope.proofs.Slots.{slot_more}
use Rattle.soil_scope.proofs.shell.slots_of.Goals as goal

pub names-preserved : goal.names-preserved
names-preserved c = λ t.
    c.in_ok-add_first.ensures t
    ∙ rw (c.names.invariant t, c.as_str.ensures) (sym (slot_more c.args.names.now c.names.i _ c.names-test.true c.index-names-i.is t))
