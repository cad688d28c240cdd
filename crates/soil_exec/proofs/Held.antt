-- The contracts of the top call.
use Rattle.std.proofs.Common.{◌≡◌, List, [], ◌∷◌}
use Rattle.ocl_values.specs.declared.value.Value.{Value}
use Rattle.ocl_core.specs.declared.program.ProgramParts.{ProgramParts}
use Rattle.object_state.specs.State.{Diagram}
use Rattle.entry_states.specs.declared.frame.Call.{Call}
use Rattle.entry_states.specs.declared.frame.Frame.{Frame}
use Rattle.entry_states.specs.Overlays.{Picture}
use Rattle.contract_frames.specs.Entering.{top_post_units, top_posts}
use Rattle.contract_frames.specs.Judging.{picture, post_units, posts}
use Rattle.soil_exec.specs.Acted.{TopEntered}

-- the postconditions of the top call, over the picture at its entry
module _ (p : ProgramParts) (d : Diagram) (k : Call) (entry : Picture) (given : Value) where
  pub tops : (fs : List Frame) → TopEntered k entry fs (picture d) → top_posts p d fs given ≡ posts p d k entry given
  tops [] h = absurd h
  tops (f ∷ fs) h = λ i. posts p d (h.0 i) (h.1 i) given

  pub top_units : (fs : List Frame) → TopEntered k entry fs (picture d) → top_post_units p d fs given ≡ post_units p d k entry given
  top_units [] h = absurd h
  top_units (f ∷ fs) h = λ i. post_units p d (h.0 i) (h.1 i) given
