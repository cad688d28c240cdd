use Rattle.std.proofs.Common.{◌≡◌, ◌++◌, drop, map}
use Rattle.contract_frames.proofs.truths.numbers_of.Given as goal

abbrev pub invariant-outcomes : goal.invariant-outcomes
invariant-outcomes l = l.numbers ++ map (λ o. o.0) (drop l.outcome-index l.outcomes) ≡ map (λ o. o.0) l.outcomes
