use Rattle.std.proofs.Common.{◌≡◌, ℕ, List, [], ◌∷◌, cond, take}
use Rattle.std.specs.List.{flat_map}
use Rattle.class_rules.specs.Groups.{listed}
use Rattle.class_rules.specs.Operations.{is_contract_of}
use Rattle.class_rules.proofs.index.contracts_by_operation.Given as goal

abbrev pub invariant-conds : goal.invariant-conds
invariant-conds l = (t : List ℕ) → listed l.contracts t ≡ flat_map (λ c. cond (is_contract_of l.decls t c) (c.class.text ∷ []) []) (take l.cond-index l.conds)
