use Rattle.std.proofs.Common.{◌≡◌, drop}
use Rattle.std.specs.List.{list_all}
use Rattle.contract_texts.specs.ContractLines.{is_met}
use Rattle.contract_texts.proofs.contracts.are_met.Given as goal

abbrev pub invariant-contracts : goal.invariant-contracts
invariant-contracts l = list_all is_met (drop l.outcome-index l.outcomes) ≡ list_all is_met l.outcomes
