use Rattle.std.proofs.Common.{◌++◌, map, ap, sym, ◌∙◌}
use Rattle.std.specs.List.{filter}
use Rattle.std.specs.Prelude.{nat_eq, nat_lt}
use Rattle.std.proofs.lemmas.List.{append-nil, append_assoc, map-append}
use Rattle.use_session.specs.Resetting.{unlinked, unlinkings_below, unlinkings_of}
use Rattle.use_session.proofs.Stamps.{below_more, none_below_none}
use Rattle.use_session.proofs.resetting.add_unlinkings_below.Goals as goal

pub assocs-init : goal.assocs-init
assocs-init c =
    let s = c.args.store.now.state in
    sym (ap (λ l. c.args.changes.now ++ map (unlinked s) l) (none_below_none s.links) ∙ append-nil c.args.changes.now)

pub assocs-preserved : goal.assocs-preserved
assocs-preserved c =
    let s = c.args.store.now.state in
    let a = c.assocs.assoc in
    let more = sym (map-append (unlinked s) (filter (λ e. nat_lt e.0.0 a) s.links) (filter (λ e. nat_eq e.0.0 a) s.links))
    ∙ ap (map (unlinked s)) (below_more a s.links c.state_is_valid.ensures.links.ordered) in
    c.in_ok-add_unlinkings_of.ensures ∙ ap (λ l. l ++ unlinkings_of s a) c.assocs.invariant
    ∙ append_assoc c.args.changes.now (unlinkings_below s a) (unlinkings_of s a) ∙ ap (λ l. c.args.changes.now ++ l) more
