use Rattle.std.proofs.Common.{◌++◌, ◌∷◌, [], ◌∙◌, ap, sym, refl, false, cond, get_or, append_assoc}
use Rattle.use_orders.proofs.Selected.{next_selected, within, length_more}
use Rattle.use_orders.proofs.selection.select.Goals as goal

pub pick-preserved : goal.pick-preserved
pick-preserved g c =
    let next = c.in-Some.ensures.steps in
    let fits = within c.args.items.items c.args.flags.now c.pick.yielded _ _ c.in-Some.x c.pick.i c.requires c.pick.invariant.whole next.0 c.pick.invariant.at
    in
    record {
      at = length_more c.pick.yielded c.in-Some.x c.pick.i c.pick.invariant.at;
      whole = c.pick.invariant.whole ∙ ap (λ l. c.pick.yielded ++ l) next.0 ∙ sym (append_assoc c.pick.yielded (c.in-Some.x ∷ []) _);
      out =
          c.in_ok-keep_one.ensures
          ∙ ap (λ l. cond (get_or c.args.flags.now c.pick.i false) (l ++ c.in-Some.x ∷ []) l) c.pick.invariant.out
          ∙ sym (next_selected c.pick.yielded c.args.flags.now c.pick.i c.in-Some.x _ false c.pick.invariant.at fits refl);
    }
