use Rattle.std.proofs.Common.{◌∙◌, ap, refl}
use Rattle.std.specs.BTreeMap.{is_at}
use Rattle.std.specs.Map.{remove_entry}
use Rattle.std.specs.Prelude.{string_bytes}
use Rattle.object_state.specs.State.{text_cmp}
use Rattle.object_store.proofs.TextKeys.{read, read_remove}
use Rattle.object_store.proofs.text_map.TextMap.remove.Goals as goal

pub returns : goal.returns
returns g c =
    ap (λ l. read string_bytes l) c.remove.ensures.entries
    ∙ read_remove string_bytes (λ k. is_at (text_cmp c.args.text.now) (string_bytes k)) (is_at (text_cmp c.args.text.now))
    (λ x. refl) c.self.inside.values.entries
    ∙ ap (λ l. remove_entry (is_at (text_cmp c.args.text.now)) l) c.self.view_is
