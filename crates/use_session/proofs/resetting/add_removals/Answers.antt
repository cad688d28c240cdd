use Rattle.std.proofs.Common.{◌++◌, ℕ, List, ap, ◌∙◌}
use Rattle.std.specs.List.{flat_map}
use Rattle.object_state.specs.declared.change.Change.{Change}
use Rattle.object_state.specs.State.{object}
use Rattle.use_session.specs.Resetting.{removal_if}
use Rattle.use_session.proofs.Stamps.{removals_told}
use Rattle.use_session.proofs.Unlinked.{one_more}
use Rattle.use_session.proofs.resetting.add_removals.Goals as goal

pub objects-preserved : goal.objects-preserved
objects-preserved c =
    let store = c.args.store.now in
    let f : ℕ → List Change = λ o. removal_if store.state o (object store.state o) in
    one_more f _ _ c.in-Some.number c.objects.changes _ _ c.in-Some.ensures.steps.0 c.in_ok-add_removal.ensures c.objects.invariant

pub objects-init : goal.objects-init
objects-init c =
    let store = c.args.store.now in
    let f : ℕ → List Change = λ o. removal_if store.state o (object store.state o) in
    ap (λ l. c.args.changes.now ++ flat_map f l) (c.into_iter-number-iterator.ensures.into_iter_gives.0 ∙ c.into_vec-number-items.ensures ∙ c.in_ok-numbers.ensures)
    ∙ ap (λ l. c.args.changes.now ++ l) (removals_told store.layout store.state c.state_is_valid.ensures)
