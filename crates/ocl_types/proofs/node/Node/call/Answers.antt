use Rattle.std.proofs.Common.{◌≡◌, ap, sym, ◌∙◌}
use Rattle.ocl_shapes.specs.Sources.{asks_elements}
use Rattle.ocl_types.specs.Nodes.{call}
use Rattle.ocl_types.proofs.node.Node.call.Goals as goal

pub returns-clause-value : goal.returns-clause-value
unfolding call
returns-clause-value g c =
    let e : c.asks_elements-of_elements.result ≡ asks_elements c.args.source.of_type c.args.name.now.text
    = c.asks_elements-of_elements.ensures ∙ ap (asks_elements c.args.source.of_type) c.as_str.ensures in
    rw (sym e, c.in_ok-given.ensures.value) (rw c.in_ok-given.ensures.environment at c.called.ensures)
