use Rattle.std.proofs.Common.{◌||◌, ◌++◌, ◌∷◌, [], map, nat_eq, sym, ap, ◌∙◌, refl, arith}
use Rattle.std.specs.List.{list_any, range_with_len}
use Rattle.std.proofs.lemmas.List.FromFn.{map-range_with_len_more}
use Rattle.class_model.specs.Indexes.{above}
use Rattle.class_model.proofs.inheritance.row.Goals as goal

pub classes-preserved : goal.classes-preserved
classes-preserved c =
    c.in_ok-push.ensures.items
    ∙ rw (c.classes.invariant, c.inherits.ensures)
    (sym (map-range_with_len_more (λ d. nat_eq d c.args.class || list_any
    (λ p. above c.args.rows.now p d) c.args.parents.now) 0 c.classes.other c.classes.other (omega arith)))
