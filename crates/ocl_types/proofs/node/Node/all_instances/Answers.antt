use Rattle.std.proofs.Common.{◌≡◌, ap, sym, ◌∙◌}
use Rattle.ocl_scope.specs.Names.{type_named}
use Rattle.ocl_types.specs.Nodes.{all_instances}
use Rattle.ocl_types.proofs.node.Node.all_instances.Goals as goal

pub returns-clause-value : goal.returns-clause-value
unfolding all_instances
returns-clause-value g c =
    let e : c.type_named-found.result ≡ type_named c.args.self.now.setting.model.now c.args.class.now.text
    = c.type_named-found.ensures ∙ ap (type_named c.args.self.now.setting.model.now) c.as_str.ensures in
    rw (c.in_ok-values_if.ensures.value, sym c.has_none.ensures, sym e) (rw c.in_ok-values_if.ensures.environment at c.extent.ensures)
