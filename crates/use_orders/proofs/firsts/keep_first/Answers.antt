use Rattle.std.proofs.Common.{◌≡◌, ◌<◌, ℕ, true, get_or, ◌∷◌, [], ap, sym, subst, length, ◌∙◌, ◌++◌, append_assoc}
use Rattle.use_orders.specs.Walks.{is_first}
use Rattle.use_orders.proofs.Places.{at_more, kept_more}
use Rattle.use_orders.proofs.firsts.keep_first.Goals as goal

pub keep-preserved : goal.keep-preserved
keep-preserved g c =
    let next = c.in-Some.ensures.steps in
    let places = subst (λ zs. (k : ℕ) (d : g.row.T.Denot) → k < length zs → get_or c.in_ok-places.places.items k true ≡ is_first g.T.Ord.cmp zs k
    (get_or zs k d)) c.as_slice.ensures.value c.in_ok-places.ensures.places in
    record {
      at = at_more g.met.T.Ord.total c.keep.yielded c.in-Some.x c.keep.i c.keep.invariant.at;
      whole = c.keep.invariant.whole ∙ ap (λ l. c.keep.yielded ++ l) next.0 ∙ sym (append_assoc c.keep.yielded (c.in-Some.x ∷ []) _);
      out =
          kept_more g.met.T.Ord.total c.args.items.items c.keep.yielded _ _ c.in-Some.x c.keep.i c.in_ok-places.places.items c.index.result.now _ _
          c.keep.invariant.whole next.0 c.keep.invariant.at (c.in_ok-places.ensures.len ∙ ap length c.as_slice.ensures.value) places c.index.ensures
          c.keep.invariant.out c.in_ok-keep_one.ensures;
    }
