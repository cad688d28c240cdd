use Rattle.std.proofs.Common.{◌≤◌, ◌^◌, ◌++◌, map, ap, sym, subst, length, ◌∙◌}
use Rattle.object_state.specs.declared.layout.Layout.{Layout}
use Rattle.use_session.specs.Resetting.{unlinked}
use Rattle.use_session.proofs.Stamps.{all_below}
use Rattle.use_session.proofs.Unlinked.{on_ok}
use Rattle.use_session.proofs.resetting.add_unlinkings.Goals as goal

pub add_unlinkings_below-requires : goal.add_unlinkings_below-requires
add_unlinkings_below-requires c =
    subst (λ n. n ≤ 2 ^ 32) (sym (c.len-count.ensures ∙ ap (λ (l : Layout). length l.assocs) c.layout.ensures)) c.requires

pub returns : goal.returns
returns c =
    let store = c.args.store.now in
    on_ok c.add_unlinkings_below.result
    (λ e. e ∙ ap (λ l. c.args.changes.now ++ map (unlinked store.state) l)
    (all_below store.layout store.state c.state_is_valid.ensures c.len-count.result (c.len-count.ensures ∙ ap (λ (l : Layout). length l.assocs) c.layout.ensures)))
    c.add_unlinkings_below.ensures
