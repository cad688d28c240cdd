-- Programs: which contracts an operation has, and what is kept of the parts.
use Rattle.std.specs.Prelude.{◌≡◌, ℕ, ◌<◌, ◌^◌, nat_eq, List, All, length}
use Rattle.std.specs.List.{flat_map}
use Rattle.std.specs.Option.{ForSome}
use Rattle.class_model.specs.Features.{declarations, numbers_of}
use Rattle.class_model.specs.Parts.{op_class, op_name}
use Rattle.class_model.specs.declared.object_model.ObjectModel.{ObjectModel}
use Rattle.ocl_core.specs.declared.program.Contract.{Contract}
use Rattle.ocl_core.specs.declared.program.ProgramParts.{ProgramParts}
use Rattle.ocl_core.specs.Programs.{query_of}
use Rattle.ocl_program.specs.Bodies.{IsBodyOf, soil_of}
use Rattle.ocl_program.specs.ContractRows.{row_at}
pub use Rattle.ocl_program.specs.Expressions.{IsChecked, IsCheckedNow, MayRead}

-- the contracts that are written for a declaration, in the order of the text
abbrev pub contracts_for : List Contract → ℕ → List ℕ
contracts_for contracts o = numbers_of (λ c. nat_eq c.op o) contracts

-- the declarations that an operation is or overrides, those of ancestors first
abbrev pub overridden_by : ObjectModel → ℕ → List ℕ
overridden_by m o = declarations m (op_class m o) (op_name m o)

-- the contracts of an operation: those of each declaration that it is or overrides
abbrev pub contracts_of : ProgramParts → ℕ → List ℕ
contracts_of p o = flat_map (contracts_for p.contracts) (overridden_by p.model o)

-- some lists are the contracts of each operation
abbrev pub AreRows : ProgramParts → List (List ℕ) → Type 0
AreRows p rows = (length rows ≡ length p.model.ops) × ((o : ℕ) → o < length p.model.ops → row_at rows o ≡ contracts_of p o)

-- each expression and each statement is of the model, each contract is written for one of its operations, and each operation and derived attribute has a body
pub record IsProgram (p : ProgramParts) : Type 0 where
  pub invariants : All (λ i. (i.class < length p.model.classes) × IsCheckedNow p.model i.expr) p.invariants
  pub contracts : All (λ c. (c.op < length p.model.ops) × MayRead c.is_post p.model c.expr) p.contracts
  pub bodies : All (λ b. ForSome (query_of b) (IsCheckedNow p.model)) p.bodies
  pub soil : All (λ b. ForSome (soil_of b) (IsBodyOf p.model)) p.bodies
  pub derived : All (IsCheckedNow p.model) p.derived
  pub contract_count : length p.contracts < 2 ^ 32
  pub body_count : length p.bodies ≡ length p.model.ops
  pub derived_count : length p.derived ≡ length p.model.derived
