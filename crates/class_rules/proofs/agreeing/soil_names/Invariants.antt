use Rattle.std.proofs.Common.{◌≡◌, map, take}
use Rattle.class_rules.specs.Agreeing.{is_soil, names_with}
use Rattle.class_rules.proofs.agreeing.soil_names.Given as goal

abbrev pub invariant-ops : goal.invariant-ops
invariant-ops l = l.texts.items ≡ names_with is_soil (map (λ op. op.now) (take l.op-index l.ops))
