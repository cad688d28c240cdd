use Rattle.std.proofs.Common.{sym, ap, ◌∙◌}
use Rattle.ocl_syntax.specs.Places.{place}
use Rattle.ocl_syntax.proofs.tree.Written.+place.Goals as goal

pub returns-in-Group : goal.returns-in-Group
unfolding Rattle.ocl_syntax.specs.declared.tree.Argument.TheBlock.hidden-the_row-Written-0 denote.Hole.Carrier.hidden
returns-in-Group t c = c.place.ensures ∙ ap place c.get.ensures ∙ sym (ap place c.in-Group.is)
