-- What frames keep while changes are carried out and each is noted before.
use Rattle.std.specs.Prelude.{◌≡◌, List}
use Rattle.object_state.specs.declared.layout.Layout.{Layout}
use Rattle.object_state.specs.Looks.{look}
use Rattle.object_state.specs.State.{State}
use Rattle.entry_states.specs.declared.frame.Frame.{Frame}
use Rattle.entry_states.specs.Frames.{Grown, entered}

-- from one state to another: the calls that are open with the pictures at their entries, and the cells that were saved
pub record AreNoted (l : Layout) (s t : State) (fs gs : List Frame) : Type 0 where
  pub same : entered gs (look l t) ≡ entered fs (look l s)
  pub grown : Grown fs gs
