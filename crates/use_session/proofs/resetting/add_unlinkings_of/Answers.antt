use Rattle.std.proofs.Common.{◌++◌, ℕ, List, ap, ◌∙◌}
use Rattle.std.specs.List.{flat_map}
use Rattle.object_state.specs.declared.change.Change.{Change}
use Rattle.object_state.specs.State.{stamp_of}
use Rattle.use_session.specs.Resetting.{unlinking_if}
use Rattle.use_session.proofs.Stamps.{unlinkings_told}
use Rattle.use_session.proofs.Unlinked.{one_more}
use Rattle.use_session.proofs.resetting.add_unlinkings_of.Goals as goal

pub pairs-preserved : goal.pairs-preserved
pairs-preserved c =
    let store = c.args.store.now in
    let f : ℕ × ℕ → List Change = λ pair. unlinking_if store.state c.args.assoc pair (stamp_of store.state c.args.assoc pair.0 pair.1) in
    one_more f _ _ c.in-Some.pair c.pairs.changes _ _ c.in-Some.ensures.steps.0 c.in_ok-add_unlinking.ensures c.pairs.invariant

pub pairs-init : goal.pairs-init
pairs-init c =
    let store = c.args.store.now in
    let f : ℕ × ℕ → List Change = λ pair. unlinking_if store.state c.args.assoc pair (stamp_of store.state c.args.assoc pair.0 pair.1) in
    ap (λ l. c.args.changes.now ++ flat_map f l) (c.into_iter-pair-iterator.ensures.into_iter_gives.0 ∙ c.into_vec-pair-items.ensures ∙ c.in_ok-pairs.ensures)
    ∙ ap (λ l. c.args.changes.now ++ l) (unlinkings_told store.layout store.state c.state_is_valid.ensures c.args.assoc)
