-- A list of statements, carried out whole or not at all.
use Rattle.std.specs.Prelude.{◌≡◌, ◌+◌, ℕ, ⊤, List, None, Some, Result, Ok, Err}
use Rattle.ocl_values.specs.declared.value.Value.{Value}
use Rattle.ocl_core.specs.declared.program.ProgramParts.{ProgramParts}
use Rattle.ocl_core.specs.declared.statement.Stmt.{Stmt}
use Rattle.object_state.specs.declared.change.Change.{Change}
use Rattle.object_state.specs.State.{Diagram}
use Rattle.entry_states.specs.declared.frame.Frame.{Frame}
use Rattle.entry_states.specs.Noting.{AreNoted}
use Rattle.soil_changes.specs.Acts.{Outcome}
use Rattle.soil_changes.specs.Progress.{diagram_of}
use Rattle.soil_exec.specs.declared.fault.ExecFault.{ExecFault}
use Rattle.soil_exec.specs.declared.fault.ExecFault.TheVariants.{Memory}
use Rattle.soil_exec.specs.Machine.{Execution, Machine, begin}
use Rattle.soil_exec.specs.Statements.{block, within}

-- the outermost block is the first of 64 levels; no units are spent before
abbrev pub outermost : ProgramParts → List Stmt → Execution (Unit {0})
outermost p body = block p (within p 63 None) (λ at. within p 63 (Some at) at) None None body

abbrev pub exec : ProgramParts → List Stmt → List (List ℕ) → List Value → Diagram → List Frame → Outcome Machine ExecFault (Unit {0})
exec p body shell bound d fs = outermost p body (begin d fs shell bound 0)

-- what a call gives: the changes and the state after them, or the refusal and the state as it was; the units that it spends come on top. The
-- calls that are open stay open, with the pictures at their entries and the cells that their frames saved.
module _ (d : Diagram) (fs : List Frame) (outcome : Outcome Machine ExecFault (Unit {0})) (before : ℕ) where
  pub record Executes (made : List Change) (d' : Diagram) (fs' : List Frame) (n : ℕ) : Type 0 where
    pub done : outcome.0 ≡ Ok tt
    pub state : d' ≡ diagram_of outcome.1.progress
    pub changes : made ≡ outcome.1.progress.changes
    pub steps : n ≡ before + outcome.1.steps
    pub noted : AreNoted d.layout d.state d'.state fs fs'

  pub record Refuses (x : ExecFault) (d' : Diagram) (fs' : List Frame) (n : ℕ) : Type 0 where
    pub refused : outcome.0 ≡ Err x
    pub state : d' ≡ d
    pub steps : n ≡ before + outcome.1.steps
    pub noted : AreNoted d.layout d.state d'.state fs fs'

  abbrev pub Tells : Result (List Change) ExecFault → Diagram → List Frame → ℕ → Type 0
  Tells (Ok changes) d' fs' steps = Executes changes d' fs' steps
  Tells (Err Memory) d' fs' steps = ⊤
  Tells (Err x) d' fs' steps = Refuses x d' fs' steps

-- what a call gives that evaluates expressions and changes nothing: what they come to, or the refusal; the units that it spends come on top
abbrev pub Finds : {A : Type 0} → Diagram → Outcome Machine ExecFault A → ℕ → Result A ExecFault → Diagram → ℕ → Type 0
Finds d outcome before (Err Memory) d' n = ⊤
Finds d outcome before r d' n = (outcome.0 ≡ r) × (d' ≡ d) × (n ≡ before + outcome.1.steps)
