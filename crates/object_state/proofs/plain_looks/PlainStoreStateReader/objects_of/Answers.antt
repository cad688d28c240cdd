use Rattle.std.proofs.Common.{◌∙◌, ap, filter, map, ℕ, List}
use Rattle.ocl_values.specs.declared.value.Value.TheVariants.{Obj}
use Rattle.object_state.specs.declared.objects.Object.{Object}
use Rattle.object_state.specs.Layouts.{is_a}
use Rattle.object_state.specs.Looks.{extent}
use Rattle.object_state.specs.State.{Diagram}
use Rattle.object_state.proofs.Keyed.{map_twice}
use Rattle.object_state.proofs.plain_looks.PlainStoreStateReader.objects_of.Goals as goal

pub returns : goal.returns
returns c =
    c.from_vec.ensures ∙ c.in_ok-items.ensures
    ∙ map_twice Obj (λ (entry : ℕ × Object). entry.0) (filter (λ (entry : ℕ × Object). is_a c.self.inside.layout entry.1.class c.args.class)
    c.as_slice.result.now)
    ∙ ap (λ (es : List (ℕ × Object)). map Obj (map (λ (entry : ℕ × Object). entry.0) (filter (λ (entry : ℕ × Object). is_a c.self.inside.layout entry.1.class
    c.args.class) es))) c.as_slice.ensures
    ∙ ap (λ (d : Diagram). map Obj (extent d.layout d.state c.args.class)) c.self.view_is
