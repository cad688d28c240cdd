use Rattle.std.proofs.Common.{◌≡◌, ◌∙◌, arith}
use Rattle.class_model.proofs.Listed.{size_more}
use Rattle.ocl_program.proofs.Contracted.{empty_more}
use Rattle.ocl_program.proofs.by_operation.no_rows.Goals as goal

pub rows-preserved : goal.rows-preserved
rows-preserved c =
    rw (c.in_ok-push.ensures.items, c.new.ensures) (
      size_more c.rows.rows.items c.rows._op _ c.rows.invariant.0,
      empty_more c.rows.rows.items c.rows.invariant.1,
    )

pub returns-clause-size : goal.returns-clause-size
returns-clause-size c =
    let e : c.rows._op ≡ c.args.count = omega arith in
    c.rows.invariant.0 ∙ e

pub returns-clause-empty : goal.returns-clause-empty
returns-clause-empty c = c.rows.invariant.1
