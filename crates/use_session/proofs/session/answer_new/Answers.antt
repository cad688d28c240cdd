use Rattle.std.proofs.Common.{sym, subst}
use Rattle.grammar_core.specs.Arena.{root_tree}
use Rattle.command_cache.specs.Prepared.{AreKept}
use Rattle.use_session.specs.Frames.{top_bindings}
use Rattle.use_session.specs.Kept.{machine_of}
use Rattle.use_session.specs.Machine.{open_calls, present}
use Rattle.use_session.specs.Shell.{known}
use Rattle.use_session.proofs.Found.{all_prepared, in_any_case}
use Rattle.use_session.proofs.session.answer_new.Goals as goal

pub returns-in-Ok-clause-commands : goal.returns-in-Ok-clause-commands
returns-in-Ok-clause-commands g c =
    let k = c.args.machine.now in
    let m = machine_of k in
    let read = c.args.read.now in
    in_any_case c.answer_noted.result (c.answer_noted.ensures.commands k.program (subst (AreKept k.program) (sym c.in-Ok.ensures.same) c.requires.commands)
    (all_prepared k.program (known (present m)) (top_bindings k.program.model (open_calls m)) read.text read.tokens (root_tree read.tree) c.in-Ok.noted c.args.command
    c.in-Ok.ensures.noted c.requires.reading c.requires.checked c.requires.of_model c.requires.names))
