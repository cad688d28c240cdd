use Rattle.std.proofs.Common.{◌++◌, ◌∷◌, [], ◌∙◌, ap, sym, refl, false, cond, get_or}
use Rattle.use_orders.proofs.Selected.{selected_more}
use Rattle.use_orders.proofs.selection.copy_selected.Goals as goal

pub pick-preserved : goal.pick-preserved
pick-preserved g c =
    c.in_ok-copy_one.ensures
    ∙ ap (λ l. cond (get_or c.args.flags.now c.pick.i false) (l ++ c.index-items-i.result ∷ []) l) c.pick.invariant
    ∙ sym (selected_more c.args.items.now c.args.flags.now c.pick.i c.index-items-i.result _ false c.pick-test.true c.requires c.index-items-i.is refl)
