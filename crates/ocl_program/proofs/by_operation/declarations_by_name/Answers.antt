use Rattle.std.proofs.Common.{sym, ◌∙◌}
use Rattle.ocl_program.proofs.Contracted.{declared_more}
use Rattle.ocl_program.proofs.by_operation.declarations_by_name.Goals as goal

pub ops-preserved : goal.ops-preserved
ops-preserved c = λ t.
    c.in_ok-add_declaration.ensures t
    ∙ rw (c.ops.invariant t) (sym (declared_more t c.args.ops.now c.ops.i _ c.ops-test.true c.index-ops-i.is))
