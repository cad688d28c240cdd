-- How far a list of changes is that is carried out whole or not at all: a transaction.
use Rattle.std.specs.Prelude.{◌≡◌, ℕ, ◌-◌, nat_lt, ⊤, List, [], ◌∷◌, ◌++◌, Option, Some, None, Result, Ok, Err}
use Rattle.use_text.specs.declared.code.Code.{Code}
use Rattle.use_text.specs.declared.code.Family.TheVariants.{X}
use Rattle.use_text.specs.Codes.{code_of}
use Rattle.object_state.specs.declared.change.Change.{Change}
use Rattle.object_state.specs.declared.layout.Layout.{Layout}
use Rattle.object_state.specs.declared.store_fault.StoreFault.{StoreFault}
use Rattle.object_state.specs.declared.store_fault.StoreFault.TheVariants as fault
use Rattle.object_state.specs.Changes.{apply}
use Rattle.object_state.specs.Faults.{Fits, fault}
use Rattle.object_state.specs.Looks.{look}
use Rattle.object_state.specs.State.{Diagram, State}
use Rattle.object_state.specs.Weights.{change_weight}
use Rattle.entry_states.specs.declared.frame.Frame.{Frame}
use Rattle.entry_states.specs.Frames.{altered_by, noted}
use Rattle.soil_changes.specs.declared.fault.ChangeFault.{ChangeFault}
use Rattle.soil_changes.specs.declared.fault.ChangeFault.TheVariants.{Memory, Refused}
use Rattle.soil_changes.specs.Acts.{Act, Outcome, ◌>>◌, nothing, refuse, refuse_if}

-- the state in which it began, the state now, the frames of the calls that are open, the changes that led there, and how much more changes may
-- weigh
pub record Progress : Type 0 where
  pub layout : Layout
  pub start : State
  pub state : State
  pub frames : List Frame
  pub changes : List Change
  pub left : ℕ

-- what the changes of one transaction may weigh
abbrev pub max_change_weight : ℕ
max_change_weight = 50000

abbrev pub begun : Diagram → List Frame → Progress
begun d fs = record { layout = d.layout; start = d.state; state = d.state; frames = fs; changes = []; left = max_change_weight }

abbrev pub diagram_of : Progress → Diagram
diagram_of p = record { layout = p.layout; state = p.state }

-- acts that may be refused by a rule
abbrev pub Changing : Type 0 → Type 0
Changing A = Act Progress Code A

abbrev pub x_code : ℕ → Code
x_code number = code_of X number

abbrev pub code_for : StoreFault → Code
code_for fault.X1 = x_code 1
code_for fault.X2 = x_code 2
code_for fault.X3 = x_code 3
code_for fault.X4 = x_code 4
code_for fault.X5 = x_code 5
code_for fault.X6 = x_code 6
code_for fault.X7 = x_code 7
code_for fault.X15 = x_code 15
code_for fault.X8 = x_code 8

-- refused for the fault of a change
abbrev pub refuse_for : Option StoreFault → Changing (Unit {0})
refuse_for None = nothing
refuse_for (Some f) = refuse (code_for f)

-- after a change, which is noted before
abbrev pub noted_in : Progress → Change → List Frame
noted_in p c = noted p.frames (altered_by p.layout c) (look p.layout p.state)

abbrev pub with_change : Change → Progress → Progress
with_change c p = record p {
  state = apply p.layout p.state c;
  frames = noted_in p c;
  changes = p.changes ++ c ∷ [];
  left = p.left - change_weight c;
}

abbrev pub carry_out : Change → Changing (Unit {0})
carry_out c p = (Ok tt, with_change c p)

-- a change that fits is made, unless it weighs more than is left (X13)
abbrev pub make_fit : Change → Changing (Unit {0})
make_fit c p = (refuse_if (nat_lt p.left (change_weight c)) (x_code 13) >> carry_out c) p

-- a change is made, unless it has a fault
abbrev pub make : Change → Changing (Unit {0})
make c p = (refuse_for (fault p.layout p.state c) >> make_fit c) p

-- what a call gives where an act comes to this
abbrev pub Gives : {S A : Type 0} → Outcome S Code A → Result A ChangeFault → S → Type 0
Gives outcome (Ok a) after = outcome ≡ (Ok a, after)
Gives outcome (Err Memory) after = ⊤
Gives outcome (Err (Refused code)) after = outcome ≡ (Err code, after)

-- changes lead from a state to another, each of which fits
abbrev pub Lead : Layout → State → List Change → State → Type 0
Lead l s [] t = s ≡ t
Lead l s (c ∷ cs) t = Fits l s c × Lead l (apply l s c) cs t
