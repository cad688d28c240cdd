use Rattle.std.proofs.Common.{◌≡◌, ◌∙◌, ap, cond, [], List}
use Rattle.std.specs.List.{flat_map}
use Rattle.class_model.specs.declared.object_model.ObjectModel.{ObjectModel}
use Rattle.class_model.specs.Inheritance.{is_a}
use Rattle.class_model.proofs.Listed.{size_more}
use Rattle.ocl_core.specs.declared.program.Contract.{Contract}
use Rattle.ocl_program.specs.ContractRows.{declared, row_at}
use Rattle.ocl_program.specs.Programs.{contracts_for, contracts_of}
use Rattle.ocl_program.proofs.Contracted.{row_found, rows_more}
use Rattle.ocl_program.proofs.by_operation.contract_rows.Goals as goal

pub ops-preserved : goal.ops-preserved
ops-preserved c =
    let m = c.args.parts.now.model in
    let op = c.op-item.result in
    let own = c.in_ok-own.own.items in
    let ops : c.as_slice-ops.result.now ≡ m.ops = c.as_slice-ops.ensures ∙ ap (λ (k : ObjectModel). k.ops) c.as_model.ensures in
    let is : c.in_ok-row.row ≡ contracts_of c.args.parts.now c.ops.op-index =
    c.in_ok-row.ensures
    ∙ rw (c.declared_as-declared.ensures, c.as_str.ensures, c.as_slice-in-ops.ensures.value)
    (ap (flat_map (λ d. cond (is_a m op.class d.0) (row_at own d.1) [])) (c.in_ok-by_name.ensures op.name ∙ ap (declared op.name) ops)
    ∙ row_found c.args.parts.now own (λ o. c.in_ok-own.ensures o ∙ ap (λ (l : List Contract). contracts_for l o) c.as_slice.ensures) c.ops.op-index op
    (rw ops at c.ops-test.true) (rw ops at c.op-item.is)) in
    rw c.in_ok-push.ensures.items (
      size_more c.ops.rows.items c.ops.op-index _ c.ops.invariant.0,
      rows_more (contracts_of c.args.parts.now) c.ops.rows.items c.ops.op-index _ c.ops.invariant.0 c.ops.invariant.1 is,
    )
