use Rattle.std.proofs.Common.{◌≡◌, drop}
use Rattle.std.specs.Cmp.Lexicographic.{pointwise}
use Rattle.class_rules.specs.Operations.{same_type}
use Rattle.class_rules.proofs.clash.same_params.Given as goal

abbrev pub invariant-params : goal.invariant-params
invariant-params l = pointwise (λ p q. same_type p.of_type q.of_type) l.a l.b ≡ pointwise (λ p q. same_type p.of_type q.of_type) (drop l.i l.a) (drop l.i l.b)
