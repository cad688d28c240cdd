use Rattle.std.proofs.Common.{◌≡◌, ◌++◌, take}
use Rattle.std.specs.List.{flat_map}
use Rattle.contract_texts.specs.ContractLines.{post_line}
use Rattle.contract_texts.proofs.contracts.append_posts.Given as goal

abbrev pub invariant-contracts : goal.invariant-contracts
invariant-contracts l = l.out.items ≡ l.initial.out.items ++ flat_map (post_line l.program) (take l.outcome-index l.outcomes)
