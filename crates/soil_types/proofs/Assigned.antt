-- An assignment, by what it names and the value.
use Rattle.std.proofs.Common.{◌≡◌, Bool, Result, Ok, ap, subst, sym, ◌∙◌}
use Rattle.use_text.specs.declared.place.Place.{Place}
use Rattle.grammar_core.specs.Trees.{ParseTree}
use Rattle.ocl_core.specs.declared.statement.Act.{Act}
use Rattle.ocl_syntax.specs.Expressions.{written}
use Rattle.ocl_rules.specs.Typings.{Typing}
use Rattle.ocl_rules.specs.declared.fault.TypeFault.{TypeFault}
use Rattle.ocl_scope.specs.declared.environment.Environment.{Environment}
use Rattle.ocl_shapes.specs.Combining.{◌>>=◌}
use Rattle.soil_scope.specs.Scenes.{Leaves, Scene}
use Rattle.soil_scope.specs.declared.variables.Variables.{Variables}
use Rattle.soil_types.specs.Aims.{aim_of}
use Rattle.soil_types.specs.Assignments.{assign, assignment, right_side}
use Rattle.soil_types.specs.declared.storing.Assigned.{Assigned}
use Rattle.soil_types.specs.declared.targets.Aim.{Aim}

-- what types the parts leaves the environment as it was
pub assigned : (s : Scene) (is_outermost : Bool) (vs : Variables) (place : Place) (t value : ParseTree) (env1 env2 : Environment) (aim : Aim) (x : Assigned)
    (new : Variables) (r : Result Act TypeFault) → aim_of s vs.environment (written s.lexed t) ≡ Ok aim → env1 ≡ vs.environment →
    right_side s env1 value ≡ Ok x → env2 ≡ env1 →
    Leaves (assignment s is_outermost (record { environment = env2; roles = vs.roles }) place aim x) r new →
    Leaves (assign s is_outermost vs place t value) r new
unfolding assign
assigned s is_outermost vs place t value env1 env2 aim x new r e same k again h =
    let back : env2 ≡ vs.environment = again ∙ same in
    let done : Leaves (assignment s is_outermost vs place aim x) r new =
    subst (λ env. Leaves (assignment s is_outermost (record { environment = env; roles = vs.roles }) place aim x) r new) back h in
    let there : right_side s vs.environment value ≡ Ok x = ap (λ env. right_side s env value) (sym same) ∙ k in
    subst (λ g. Leaves g r new)
    (sym (ap (λ (n : Typing Aim). n >>= (λ named. right_side s vs.environment value >>= (λ y. assignment s is_outermost vs place named y))) e
    ∙ ap (λ (v : Typing Assigned). v >>= (λ y. assignment s is_outermost vs place aim y)) there)) done
