-- Commands that are kept, as a machine answers them. Only proofs use these words.
use Rattle.std.specs.Prelude.{◌≡◌, Ok}
use Rattle.use_text.specs.declared.cut.Cut.{Cut}
use Rattle.command_cache.specs.declared.commands.Prepared.{Prepared}
use Rattle.use_session.specs.declared.shell.StoreScope.{StoreScope}
use Rattle.use_session.specs.Commands.{reading_of}
use Rattle.use_session.specs.Frames.{top_bindings}
use Rattle.use_session.specs.Machine.{Machine, answered_reading, answered_tokens, open_calls, present}
use Rattle.use_session.specs.Running.{MayRun}

-- what a command is checked among
pub record IsScopeAt (m : Machine) (s : StoreScope) : Type 0 where
  pub state : s.store.now.state ≡ present m
  pub bindings : s.bindings ≡ top_bindings m.program.model (open_calls m)

-- what a command is that was cut out, if it is answered as the one that is kept
pub record IsFound (m : Machine) (cut : Cut) (x : Prepared) : Type 0 where
  pub fit : MayRun m.program.model x.command
  pub same : answered_reading m cut.first_line cut.text (reading_of cut) ≡ answered_tokens m cut.first_line x.noted.tokens (Ok x.command)
