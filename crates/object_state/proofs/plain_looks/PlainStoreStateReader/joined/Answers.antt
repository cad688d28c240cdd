use Rattle.std.proofs.Common.{◌∙◌, ap, filter, map, ℕ, List}
use Rattle.ocl_values.specs.declared.value.Value.TheVariants.{Obj}
use Rattle.class_model.specs.Ends.{opposite}
use Rattle.object_state.specs.Looks.{end_of, has_at, joined}
use Rattle.object_state.specs.State.{Diagram}
use Rattle.object_state.proofs.Keyed.{map_twice}
use Rattle.object_state.proofs.plain_looks.PlainStoreStateReader.joined.Goals as goal

pub returns : goal.returns
returns c =
    c.in_ok-items.ensures
    ∙ map_twice Obj (λ (entry : (ℕ × ℕ) × (ℕ × ℕ)). end_of entry.1 c.args.end) (filter (has_at c.args.assoc c.opposite-from.result c.args.object)
    c.as_slice.result.now)
    ∙ (λ i. map Obj (map (λ (entry : (ℕ × ℕ) × (ℕ × ℕ)). end_of entry.1 c.args.end) (filter (has_at c.args.assoc (c.opposite-from.ensures i) c.args.object)
    (c.as_slice.ensures i))))
    ∙ ap (λ (d : Diagram). map Obj (joined d.state c.args.assoc c.args.end c.args.object)) c.self.view_is
