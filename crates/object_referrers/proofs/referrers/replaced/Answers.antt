use Rattle.std.proofs.Common.{◌≡◌, IsSorted, ap, sym, subst, ◌∙◌}
use Rattle.use_orders.specs.Canon.{has, set_of, without}
use Rattle.use_orders.proofs.Merged.{set_set, sorted_set}
use Rattle.use_orders.proofs.Sets.{has-set_of}
use Rattle.object_referrers.proofs.Told.{without_set}
use Rattle.object_referrers.proofs.referrers.replaced.Goals as goal

pub only_in-requires : goal.only_in-requires
only_in-requires g c =
    let o = g.met.K.Ord.total in
    let cmp = g.K.Ord.cmp in
    let made : c.as_slice.result.now ≡ set_of cmp c.args.new.items = c.as_slice.ensures.value ∙ c.in_ok-new.ensures in
    record { sorted = subst (IsSorted cmp) (sym made) (sorted_set o (set_of cmp c.args.new.items) (set_set o c.requires.exact c.args.new.items)) }

pub returns-clause-put : goal.returns-clause-put
returns-clause-put g c =
    let o = g.met.K.Ord.total in
    λ q h. c.in_ok-put_all.ensures.put q (ap (λ ks. has g.K.Ord.cmp ks q) c.in_ok-new.ensures ∙ has-set_of o c.args.new.items q ∙ h)

pub returns-clause-left : goal.returns-clause-left
returns-clause-left g c =
    let o = g.met.K.Ord.total in
    c.in_ok-left.ensures ∙ ap (without g.K.Ord.cmp c.args.old.items) (c.as_slice.ensures.value ∙ c.in_ok-new.ensures) ∙ without_set o c.args.old.items c.args.new.items
