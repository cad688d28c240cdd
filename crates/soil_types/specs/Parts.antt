-- What the forms of statements need of what types the blocks in them.
use Rattle.std.specs.Prelude.{◌≡◌, ℕ, ⊤, List, Result, Ok, Err}
use denote.Ref.{Bor, MutBor}
use Rattle.grammar_core.specs.Trees.{ParseTree}
use Rattle.ocl_core.specs.declared.statement.Stmt.{Stmt}
use Rattle.ocl_rules.specs.Typings.{Typing}
use Rattle.ocl_rules.specs.declared.fault.TypeFault.{TypeFault}
use Rattle.ocl_rules.specs.declared.fault.TypeFault.TheVariants.{Memory, Refused}
use Rattle.soil_scope.specs.Scenes.{Leaves, scene}
use Rattle.soil_scope.specs.declared.variables.Variables.{Variables}
use Rattle.soil_types.specs.declared.level.Level.{Level}
use Rattle.soil_types.specs.Walk.{block_in}

-- the blocks of a level
abbrev pub block_at : Level → Variables → ParseTree → Typing (List Stmt × Variables)
block_at l = block_in (scene l.setting.now) l.nesting

-- a function that types blocks in which so many blocks may nest
pub record Blocks (nesting : ℕ) (may : Bor Level → MutBor Variables → Bor ParseTree → Type 0)
    (does : Bor Level → MutBor Variables → Bor ParseTree → Result (List Stmt) TypeFault → MutBor Variables → Type 0) : Type 0 where
  pub callable : (l : Bor Level) (vs : MutBor Variables) (t : Bor ParseTree) → l.now.nesting ≡ nesting → may l vs t
  pub gives : (l : Bor Level) (vs vs' : MutBor Variables) (t : Bor ParseTree) (r : Result (List Stmt) TypeFault) →
      l.now.nesting ≡ nesting → does l vs t r vs' → Leaves (block_at l.now vs.now t.now) r vs'.now

-- what variables a call leaves that gives nothing else
abbrev pub LeavesOnly : Typing Variables → Result ⊤ TypeFault → Variables → Type 0
LeavesOnly given (Ok u) after = given ≡ Ok after
LeavesOnly given (Err Memory) after = ⊤
LeavesOnly given (Err (Refused r)) after = given ≡ Err r
