use Rattle.std.proofs.Common.{◌≡◌, ◌++◌, ap, sym, subst, ◌∙◌, OnOk}
use Rattle.object_references.specs.References.{all_references, references}
use Rattle.object_references.proofs.Listed.{references_Coll}
use Rattle.object_references.proofs.objects.+references.Goals as goal

pub add_references-returns-in-Coll : goal.add_references-returns-in-Coll
add_references-returns-in-Coll t c =
    let whole : all_references c.as_slice.result.now ≡ references c.args.value.now =
    ap all_references c.as_slice.ensures ∙ sym (ap references c.in-Coll.is ∙ references_Coll c.in-Coll.field-0 c.in-Coll.items) in
    subst (λ os. OnOk c.add_all_references.result (c.add_all_references.new.found.items ≡ c.args.found.now.items ++ os)) whole c.add_all_references.ensures
