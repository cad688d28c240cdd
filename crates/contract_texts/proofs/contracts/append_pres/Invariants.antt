use Rattle.std.proofs.Common.{◌≡◌, ◌++◌, take}
use Rattle.std.specs.List.{flat_map}
use Rattle.contract_texts.specs.ContractLines.{pre_line}
use Rattle.contract_texts.proofs.contracts.append_pres.Given as goal

abbrev pub invariant-contracts : goal.invariant-contracts
invariant-contracts l = l.out.items ≡ l.initial.out.items ++ flat_map (pre_line l.program) (take l.number-index l.numbers)
