use Rattle.std.proofs.Common.{◌∙◌, sym, ap}
use Rattle.std.specs.Option.{is_some}
use Rattle.class_decls.proofs.Given.{given_at, given_none, none_from}
use Rattle.class_decls.specs.Limits.{excess_literal}
use Rattle.class_decls.proofs.limits.first_excess_literal.Goals as goal

pub returns-then-is_some : goal.returns-then-is_some
returns-then-is_some c =
    c.excess_literal-place.ensures ∙ sym (given_at excess_literal c.args.enums.now _ _ c.enums-test.true c.decl-item.is c.enums.invariant (ap is_some
    (sym c.excess_literal-place.ensures) ∙ sym c.is_some.ensures ∙ c.if-is_some.true))

pub enums-preserved : goal.enums-preserved
enums-preserved c =
    given_none excess_literal c.args.enums.now _ _ c.enums-test.true c.decl-item.is c.enums.invariant (sym c.excess_literal-place.ensures
    ∙ none_from _ (sym c.is_some.ensures ∙ c.if-is_some.false))
