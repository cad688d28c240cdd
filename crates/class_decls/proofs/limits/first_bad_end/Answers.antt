use Rattle.std.proofs.Common.{◌∙◌, sym, ap}
use Rattle.std.specs.Option.{is_some, option_or}
use Rattle.class_decls.proofs.Given.{given_at, given_none, none_from}
use Rattle.class_decls.specs.Limits.{bad_part}
use Rattle.class_decls.proofs.limits.first_bad_end.Goals as goal

pub returns-then-is_some : goal.returns-then-is_some
returns-then-is_some c =
    c.bad_end-place.ensures ∙ sym (given_at (λ a. option_or (bad_part a.first) (bad_part a.second)) c.args.assocs.now _ _ c.assocs-test.true c.assoc-item.is
    c.assocs.invariant (ap is_some (sym c.bad_end-place.ensures) ∙ sym c.is_some.ensures ∙ c.if-is_some.true))

pub assocs-preserved : goal.assocs-preserved
assocs-preserved c =
    given_none (λ a. option_or (bad_part a.first) (bad_part a.second)) c.args.assocs.now _ _ c.assocs-test.true c.assoc-item.is c.assocs.invariant
    (sym c.bad_end-place.ensures ∙ none_from _ (sym c.is_some.ensures ∙ c.if-is_some.false))
