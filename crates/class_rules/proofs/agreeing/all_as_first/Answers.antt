use Rattle.std.proofs.Common.{map, sym, ◌∙◌}
use Rattle.class_rules.specs.Agreeing.{is_as_first}
use Rattle.class_rules.proofs.Signatures.{one_not}
use Rattle.class_rules.proofs.agreeing.all_as_first.Goals as goal

pub returns-then-not-is_as_first : goal.returns-then-not-is_as_first
returns-then-not-is_as_first c =
    sym (one_not (is_as_first (map (λ op. op.now) c.args.all.now)) (λ op. op.now) c.args.ops.now c.ops.op-index c.op-item.result c.ops-test.true c.op-item.is
    (sym c.is_as_first.ensures ∙ c.if-not-is_as_first.true))
