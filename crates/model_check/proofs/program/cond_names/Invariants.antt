use Rattle.std.proofs.Common.{◌≡◌, map, take}
use Rattle.model_check.proofs.program.cond_names.Given as goal

abbrev pub invariant-conds : goal.invariant-conds
invariant-conds l = l.names ≡ map (λ c. c.name.text) (take l.cond-index l.conds)
