use Rattle.std.proofs.Common.{◌≡◌, drop}
use Rattle.contract_frames.specs.Holding.{first_fault}
use Rattle.contract_frames.proofs.truths.first_fault.Given as goal

abbrev pub invariant-outcomes : goal.invariant-outcomes
invariant-outcomes l = first_fault (drop l.outcome-index l.fn.outcomes) ≡ first_fault l.fn.outcomes
