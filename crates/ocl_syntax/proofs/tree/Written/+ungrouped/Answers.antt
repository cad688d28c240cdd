use Rattle.std.proofs.Common.{sym, ap, ◌∙◌}
use Rattle.ocl_syntax.specs.Places.{ungrouped}
use Rattle.ocl_syntax.proofs.tree.Written.+ungrouped.Goals as goal

pub returns-in-Group : goal.returns-in-Group
unfolding Rattle.ocl_syntax.specs.declared.tree.Argument.TheBlock.hidden-the_row-Written-0 denote.Hole.Carrier.hidden
returns-in-Group t c = c.ungrouped.ensures ∙ ap ungrouped c.get.ensures ∙ sym (ap ungrouped c.in-Group.is)
