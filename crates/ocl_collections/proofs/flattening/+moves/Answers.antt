use Rattle.std.proofs.Common.{◌≡◌, ◌++◌, ◌∷◌, [], ◌∙◌, ap, sym, subst, OnOk, append_assoc, arith, ◌<◌, ◌*◌, ◌+◌}
use Rattle.ocl_values.specs.Shape.{size_of, sizes_of}
use Rattle.ocl_collections.specs.Flattening.{all_leaves, leaves}
use Rattle.ocl_collections.proofs.Leaves.{leaves_Coll}
use Rattle.ocl_values.proofs.Rows.{size_of-Coll}
use Rattle.ocl_collections.proofs.Moved.{moved_more, size_within}
use Rattle.ocl_collections.proofs.flattening.+moves.Goals as goal

pub move_all_leaves-move_leaves-requires : goal.move_all_leaves-move_leaves-requires
move_all_leaves-move_leaves-requires t c =
    let whole : 2 * sizes_of c.args.all.items + 1 ≡ t = c.decreases in
    let part = size_within c.args.all.items c.each.yielded _ _ c.in-Some.v c.each.invariant.whole c.in-Some.ensures.steps.0 in
    let less : 2 * size_of c.in-Some.v < t = omega (arith, whole, part) in
    (less, tt)

pub move_all_leaves-each-preserved : goal.move_all_leaves-each-preserved
move_all_leaves-each-preserved t c =
    let next = c.in-Some.ensures.steps in
    record {
      whole = c.each.invariant.whole ∙ ap (λ l. c.each.yielded ++ l) next.0 ∙ sym (append_assoc c.each.yielded (c.in-Some.v ∷ []) _);
      out = moved_more c.each.out.items _ c.args.out.now.items c.each.yielded c.in-Some.v c.each.invariant.out c.in_ok-move_leaves.ensures;
    }

pub move_leaves-move_all_leaves-requires : goal.move_leaves-move_all_leaves-requires
move_leaves-move_all_leaves-requires t c =
    let whole : 2 * size_of c.args.v ≡ t = c.decreases in
    let inside : size_of c.args.v ≡ 1 + sizes_of c.into_vec.result.items =
    ap size_of c.in-Coll.is ∙ size_of-Coll c.in-Coll.field-0 c.in-Coll.items ∙ ap (λ l. 1 + sizes_of l) (sym c.into_vec.ensures) in
    let less : 2 * sizes_of c.into_vec.result.items + 1 < t = omega (arith, whole, inside) in
    (less, tt)

pub move_leaves-returns-in-Coll : goal.move_leaves-returns-in-Coll
move_leaves-returns-in-Coll t c =
    let is : all_leaves c.into_vec.result.items ≡ leaves c.args.v =
    ap all_leaves c.into_vec.ensures ∙ sym (ap leaves c.in-Coll.is ∙ leaves_Coll c.in-Coll.field-0 c.in-Coll.items) in
    subst (λ l. OnOk c.move_all_leaves.result (c.move_all_leaves.new.out.items ≡ c.args.out.now.items ++ l)) is c.move_all_leaves.ensures
