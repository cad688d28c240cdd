use Rattle.std.proofs.Common.{◌∙◌, ap, List}
use Rattle.std.specs.BTreeMap.{is_at}
use Rattle.std.specs.Map.{lookup}
use Rattle.object_state.proofs.Keyed.{find_lookup}
use Rattle.object_state.proofs.entries.Entries.get.Goals as goal

pub returns : goal.returns
returns g c =
    c.value_at.ensures ∙ find_lookup (is_at (g.K.Ord.cmp c.args.key.now)) c.as_slice.result.now
    ∙ ap (λ l. lookup (is_at (g.K.Ord.cmp c.args.key.now)) l) (c.as_slice.ensures.value ∙ c.self.view_is)
