use Rattle.std.proofs.Common.{◌∙◌, ap, List, ℕ}
use Rattle.std.specs.BTreeMap.{is_at}
use Rattle.std.specs.Map.{lookup}
use Rattle.object_state.specs.State.{Diagram, text_cmp, variable}
use Rattle.object_state.proofs.Keyed.{find_lookup}
use Rattle.object_state.proofs.plain_looks.PlainStoreStateReader.variable.Goals as goal

pub returns : goal.returns
returns c =
    c.variable_in.ensures ∙ find_lookup (is_at (text_cmp c.args.name.now)) c.as_slice.result.now
    ∙ ap (λ l. lookup (is_at (text_cmp c.args.name.now)) l) c.as_slice.ensures
    ∙ ap (λ (d : Diagram). variable d.state c.args.name.now) c.self.view_is
