use Rattle.std.proofs.Common.{◌∙◌, ap, refl}
use Rattle.std.specs.BTreeMap.{insert_entry}
use Rattle.std.specs.Prelude.{string_bytes}
use Rattle.std.specs.String.{string_cmp}
use Rattle.object_state.specs.State.{text_cmp}
use Rattle.object_store.proofs.TextKeys.{read, read_insert}
use Rattle.object_store.proofs.text_map.TextMap.insert.Goals as goal

pub returns-clause-ok : goal.returns-clause-ok
returns-clause-ok g c =
    ap (λ l. read string_bytes l) c.in_ok-insert.ensures.entries
    ∙ read_insert string_bytes string_cmp text_cmp (λ x y. refl) c.self.inside.values.entries c.in_ok-key.key c.args.value
    ∙ (λ i. insert_entry text_cmp (c.self.view_is i) (c.in_ok-key.ensures.ok i) c.args.value)
