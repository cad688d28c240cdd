use Rattle.std.proofs.Common.{◌∙◌, ap}
use Rattle.std.specs.HashMap.{get_by_text}
use Rattle.object_state.specs.declared.objects.Object.{Object}
use Rattle.object_store.specs.Indexes.{Objects, named_in}
use Rattle.object_store.proofs.Named.{name_found}
use Rattle.object_store.proofs.object_table.ObjectTable.named.Goals as goal

pub returns : goal.returns
returns c =
    c.copied.ensures ∙ c.get.ensures.value
    ∙ name_found (λ (x : Object). x.name) c.self.inside.objects (get_by_text c.self.inside.names) c.self.invariant.names_tied c.args.name.now c.self.invariant.ordered
    ∙ ap (λ (t : Objects). named_in t.objects c.args.name.now) c.self.view_is
