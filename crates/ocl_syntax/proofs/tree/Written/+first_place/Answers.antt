use Rattle.std.proofs.Common.{sym, ap, ◌∙◌}
use Rattle.ocl_syntax.specs.Places.{first_place}
use Rattle.ocl_syntax.proofs.tree.Written.+first_place.Goals as goal

pub returns-in-Binary : goal.returns-in-Binary
unfolding Rattle.ocl_syntax.specs.declared.tree.Argument.TheBlock.hidden-the_row-Written-0 denote.Hole.Carrier.hidden
returns-in-Binary t c = c.first_place.ensures ∙ ap first_place c.get.ensures ∙ sym (ap first_place c.in-Binary.is)

pub returns-in-Dot : goal.returns-in-Dot
unfolding Rattle.ocl_syntax.specs.declared.tree.Argument.TheBlock.hidden-the_row-Written-0 denote.Hole.Carrier.hidden
returns-in-Dot t c = c.first_place-in-Dot.ensures ∙ ap first_place c.get-in-Dot.ensures ∙ sym (ap first_place c.in-Dot.is)

pub returns-in-Arrow : goal.returns-in-Arrow
unfolding Rattle.ocl_syntax.specs.declared.tree.Argument.TheBlock.hidden-the_row-Written-0 denote.Hole.Carrier.hidden
returns-in-Arrow t c = c.first_place-in-Arrow.ensures ∙ ap first_place c.get-in-Arrow.ensures ∙ sym (ap first_place c.in-Arrow.is)
