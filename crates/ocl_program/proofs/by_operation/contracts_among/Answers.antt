use Rattle.std.proofs.Common.{sym, ◌∙◌, cond, []}
use Rattle.class_model.specs.Inheritance.{is_a}
use Rattle.ocl_program.specs.ContractRows.{row_at}
use Rattle.ocl_program.proofs.Contracted.{joined_more}
use Rattle.ocl_program.proofs.by_operation.contracts_among.Goals as goal

pub declared-preserved : goal.declared-preserved
declared-preserved c =
    c.in_ok-add_if.ensures
    ∙ rw (c.declared.invariant, c.is_a.ensures, c.row_at.ensures)
    (sym (joined_more (λ d. cond (is_a c.args.model.now c.args.class d.0) (row_at c.args.own.now d.1) []) c.args.declared.now c.declared.found-index
    (0, 0) c.declared-test.true))
