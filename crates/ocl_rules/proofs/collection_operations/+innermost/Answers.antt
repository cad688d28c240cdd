use Rattle.std.proofs.Common.{◌∙◌, sym, ap}
use Rattle.ocl_rules.specs.CollectionOperations.{innermost}
use Rattle.ocl_rules.proofs.TypeCases.{innermost_of_coll}
use Rattle.ocl_rules.proofs.collection_operations.+innermost.Goals as goal

pub returns-in_ok-innermost-in-Coll : goal.returns-in_ok-innermost-in-Coll
returns-in_ok-innermost-in-Coll t c =
    c.in_ok-innermost-in-Coll.ensures ∙ ap innermost c.get.ensures
    ∙ sym (ap innermost c.in-Coll.is ∙ innermost_of_coll c.in-Coll.field-0 c.in-Coll.element)
