use Rattle.std.proofs.Common.{sym, ◌∙◌}
use Rattle.class_rules.specs.Ancestors.{parent_numbers}
use Rattle.class_rules.proofs.Disputed.{alone_undisputed, last_disputed, not_last}
use Rattle.class_rules.proofs.overriding.is_disputed.Goals as goal

pub returns-then-is_alone : goal.returns-then-is_alone
returns-then-is_alone c = alone_undisputed c.args.hierarchy.now c.args.numbers.now c.args.number (sym c.is_alone.ensures ∙ c.if-is_alone.true)

pub returns-then-not-is_last : goal.returns-then-not-is_last
returns-then-not-is_last c =
    not_last (parent_numbers c.args.hierarchy.now) c.args.numbers.now c.args.number (sym c.is_last.ensures ∙ c.if-not-is_last.true)

pub returns : goal.returns
returns c =
    last_disputed (parent_numbers c.args.hierarchy.now) c.args.numbers.now c.args.number c.in_ok-overrides_all.overrides_all
    (sym c.is_last.ensures ∙ c.if-not-is_last.false) (rw (sym c.in_ok-above.ensures, sym c.as_slice.ensures.value) c.in_ok-overrides_all.ensures)
