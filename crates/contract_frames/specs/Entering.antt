-- Calls that are entered and left.
use Rattle.std.specs.Prelude.{◌<◌, ℕ, nat_eq, if◌then◌else◌, ⊤, All, List, [], ◌∷◌, length, Result, Ok, Err}
use Rattle.ocl_values.specs.declared.value.Value.{Value}
use Rattle.ocl_values.specs.Shape.{IsWellMade}
use Rattle.ocl_core.specs.declared.program.ProgramParts.{ProgramParts}
use Rattle.ocl_eval.specs.declared.outcome.Outcome.{Outcome}
use Rattle.object_state.specs.State.{Diagram}
use Rattle.entry_states.specs.declared.frame.Call.{Call}
use Rattle.entry_states.specs.declared.frame.Frame.{Frame}
use Rattle.entry_states.specs.Overlays.{laid_over}
use Rattle.contract_frames.specs.declared.fault.FrameFault.{FrameFault}
use Rattle.contract_frames.specs.declared.fault.FrameFault.TheVariants.{TooMany, Nothing}
use Rattle.contract_frames.specs.Judging.{picture, post_units, posts, pre_units, pres}
use Rattle.contract_frames.specs.Holding.{all_true}

-- a call of an operation of a program
pub record IsCall (p : ProgramParts) (k : Call) : Type 0 where
  pub known : k.op < length p.model.ops
  pub well_made : All IsWellMade k.args

-- the top call is one
abbrev pub TopIsCall : ProgramParts → List Frame → Type 0
TopIsCall p [] = ⊤
TopIsCall p (f ∷ fs) = IsCall p f.call

-- some call is open
abbrev pub IsOpen : List Frame → Type 0
IsOpen [] = ⊥
IsOpen (f ∷ fs) = ⊤

-- what is told where a call is to be entered over so many: too many, or the first precondition that is not true
abbrev pub entering : ProgramParts → Diagram → Call → (depth limit : ℕ) → Result (List ℕ) FrameFault
entering p d k depth limit = if nat_eq depth limit then Err TooMany else all_true (pres p d k)

abbrev pub entering_units : ProgramParts → Diagram → Call → (depth limit : ℕ) → ℕ
entering_units p d k depth limit = if nat_eq depth limit then 0 else pre_units p d k

-- what the postconditions of the top call come to
abbrev pub top_posts : ProgramParts → Diagram → List Frame → Value → List (ℕ × Outcome)
top_posts p d [] given = []
top_posts p d (f ∷ fs) given = posts p d f.call (laid_over f.overlay (picture d)) given

abbrev pub top_post_units : ProgramParts → Diagram → List Frame → Value → ℕ
top_post_units p d [] given = 0
top_post_units p d (f ∷ fs) given = post_units p d f.call (laid_over f.overlay (picture d)) given

-- the top frame, and what its postconditions come to, where one is left; none is where no call is open
abbrev pub leaving : ProgramParts → Diagram → List Frame → Value → Result (Frame × List (ℕ × Outcome)) FrameFault
leaving p d [] given = Err Nothing
leaving p d (f ∷ fs) given = Ok (f, top_posts p d (f ∷ fs) given)
