use Rattle.std.proofs.Common.{◌∙◌, sym, ap}
use Rattle.std.specs.Option.{is_some}
use Rattle.class_decls.proofs.Given.{given_at, given_none, none_from}
use Rattle.class_rules.specs.Operations.{undeclared_head}
use Rattle.class_rules.proofs.heads.first_undeclared.Goals as goal

pub returns-then-is_some : goal.returns-then-is_some
returns-then-is_some c =
    c.undeclared_head-place.ensures ∙ sym (given_at (undeclared_head c.args.declared.now) c.args.conds.now _ _ c.conds-test.true c.cond-item.is c.conds.invariant
    (ap is_some (sym c.undeclared_head-place.ensures) ∙ sym c.is_some.ensures ∙ c.if-is_some.true))

pub conds-preserved : goal.conds-preserved
conds-preserved c =
    given_none (undeclared_head c.args.declared.now) c.args.conds.now _ _ c.conds-test.true c.cond-item.is c.conds.invariant (sym c.undeclared_head-place.ensures
    ∙ none_from _ (sym c.is_some.ensures ∙ c.if-is_some.false))
