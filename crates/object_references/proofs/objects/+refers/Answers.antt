use Rattle.std.proofs.Common.{◌≡◌, nat_eq, ap, sym, ◌∙◌}
use Rattle.std.specs.List.{list_any}
use Rattle.object_references.specs.References.{all_references, references}
use Rattle.object_references.proofs.Listed.{references_Coll}
use Rattle.object_references.proofs.objects.+refers.Goals as goal

pub refers_to-returns-in-Coll : goal.refers_to-returns-in-Coll
refers_to-returns-in-Coll t c =
    let whole : all_references c.as_slice.result.now ≡ references c.args.value.now =
    ap all_references c.as_slice.ensures ∙ sym (ap references c.in-Coll.is ∙ references_Coll c.in-Coll.field-0 c.in-Coll.items) in
    c.any_refers_to.ensures ∙ ap (list_any (nat_eq c.args.object)) whole
