use Rattle.std.proofs.Common.{◌≡◌, map, take}
use Rattle.class_rules.specs.Agreeing.{is_query, names_with}
use Rattle.class_rules.proofs.agreeing.query_names.Given as goal

abbrev pub invariant-ops : goal.invariant-ops
invariant-ops l = l.texts.items ≡ names_with is_query (map (λ op. op.now) (take l.op-index l.ops))
