use Rattle.std.proofs.Common.{◌≡◌, Ok, ap, sym, ◌∙◌}
use Rattle.soil_types.specs.Statements.{element_by}
use Rattle.soil_types.proofs.Elements.{element_of_coll}
use Rattle.soil_types.proofs.forms.element_of.Goals as goal

pub returns-in_ok-try_copy-in-Coll : goal.returns-in_ok-try_copy-in-Coll
returns-in_ok-try_copy-in-Coll c =
    ap (element_by c.args.source.now.place) c.in-Coll.is
    ∙ element_of_coll c.args.source.now.place c.in-Coll.field-0 c.in-Coll.element
    ∙ ap Ok (sym (c.in_ok-try_copy-in-Coll.ensures ∙ c.get.ensures))
