use Rattle.std.proofs.Common.{sym, ◌∙◌, nat_eq}
use Rattle.class_model.proofs.Listed.{numbers_more}
use Rattle.ocl_program.proofs.by_operation.own_contracts.Goals as goal

pub contracts-preserved : goal.contracts-preserved
contracts-preserved c = (
  c.in_ok-add_contract.ensures.size ∙ c.contracts.invariant.0,
  λ o.
      c.in_ok-add_contract.ensures.rows o
      ∙ rw (c.contracts.invariant.1 o)
      (sym (numbers_more (λ k. nat_eq k.op o) c.args.contracts.now c.contracts.i _ c.contracts-test.true c.index-contracts-i.is)),
)
