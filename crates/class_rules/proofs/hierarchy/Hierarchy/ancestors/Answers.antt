use Rattle.std.proofs.Common.{sym, ap, ◌∙◌, subst}
use Rattle.class_rules.specs.Ancestors.{IsDownward, parent_numbers}
use Rattle.class_rules.proofs.Ordered.{downward}
use Rattle.class_rules.proofs.hierarchy.Hierarchy.ancestors.Goals as goal

pub ancestors-requires : goal.ancestors-requires
ancestors-requires c =
    subst IsDownward (sym (c.as_slice.ensures.value ∙ c.self.invariant.parented ∙ ap parent_numbers c.self.view_is)) (downward c.args.self.now)
