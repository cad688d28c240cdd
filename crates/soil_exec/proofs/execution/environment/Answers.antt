use Rattle.std.proofs.Common.{All, sym, subst, ◌∙◌}
use Rattle.std.proofs.lemmas.List.Elements.{All-append, All-map}
use Rattle.ocl_values.specs.Shape.{IsWellMade}
use Rattle.soil_exec.specs.Machine.{shell_value}
use Rattle.soil_exec.proofs.Names.{well_named}
use Rattle.soil_exec.proofs.execution.environment.Goals as goal

pub new-requires : goal.new-requires
new-requires c =
    let s = c.args.store.now.state in
    subst (All IsWellMade) (sym (c.from_vec.ensures ∙ c.in_ok-append.ensures.items))
    (All-append IsWellMade _ _
    (subst (All IsWellMade) (sym c.in_ok-values.ensures)
    (All-map IsWellMade (shell_value s) c.args.shell.now (λ k d below. well_named c.args.store.now.layout s _ c.state_is_valid.ensures)))
    c.requires)
