use Rattle.std.proofs.Common.{◌≡◌, ◌++◌, drop, map}
use Rattle.use_session.proofs.bindings.add_params.Given as goal

abbrev pub invariant-params : goal.invariant-params
invariant-params l = l.names ++ map (λ p. (p.name, p.of_type)) (drop l.param-index l.params) ≡ l.fn.names ++ map (λ p. (p.name, p.of_type)) l.fn.params
