use Rattle.std.proofs.Common.{◌≡◌, true, map, take}
use Rattle.std.specs.List.{list_all}
use Rattle.class_rules.specs.Agreeing.{is_as_first}
use Rattle.class_rules.proofs.agreeing.all_as_first.Given as goal

abbrev pub invariant-ops : goal.invariant-ops
invariant-ops l = list_all (is_as_first (map (λ op. op.now) l.all)) (map (λ op. op.now) (take l.op-index l.ops)) ≡ true
