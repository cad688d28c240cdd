use Rattle.std.proofs.Common.{◌∙◌, ap, refl}
use Rattle.std.specs.BTreeMap.{is_at}
use Rattle.std.specs.Map.{lookup}
use Rattle.std.specs.Prelude.{string_bytes}
use Rattle.object_state.specs.State.{text_cmp}
use Rattle.object_store.proofs.TextKeys.{read_lookup}
use Rattle.object_store.proofs.text_map.TextMap.get.Goals as goal

pub returns : goal.returns
returns g c =
    c.get.ensures.value
    ∙ read_lookup string_bytes (λ k. is_at (text_cmp c.args.text.now) (string_bytes k)) (is_at (text_cmp c.args.text.now))
    (λ x. refl) c.self.inside.values.entries
    ∙ ap (λ l. lookup (is_at (text_cmp c.args.text.now)) l) c.self.view_is
