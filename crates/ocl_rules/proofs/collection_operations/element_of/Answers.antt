use Rattle.std.proofs.Common.{◌∙◌, sym, ap}
use Rattle.ocl_rules.specs.CollectionOperations.{element_of}
use Rattle.ocl_rules.proofs.TypeCases.{element_of_coll}
use Rattle.ocl_rules.proofs.collection_operations.element_of.Goals as goal

pub returns-in_ok-try_copy-in-Coll : goal.returns-in_ok-try_copy-in-Coll
returns-in_ok-try_copy-in-Coll c =
    c.in_ok-try_copy-in-Coll.ensures ∙ c.get.ensures ∙ sym (ap element_of c.in-Coll.is ∙ element_of_coll c.in-Coll.field-0 c.in-Coll.element)
