use Rattle.std.proofs.Common.{◌≡◌, ◌++◌, ◌∙◌, ap, sym, subst, OnOk}
use Rattle.ocl_collections.specs.Flattening.{all_leaves, leaves}
use Rattle.ocl_collections.proofs.Leaves.{leaves_Coll}
use Rattle.ocl_collections.proofs.flattening.+leaves.Goals as goal

pub append_leaves-returns-in-Coll : goal.append_leaves-returns-in-Coll
append_leaves-returns-in-Coll t c =
    let is : all_leaves c.as_slice.result.now ≡ leaves c.args.v.now =
    ap all_leaves c.as_slice.ensures ∙ sym (ap leaves c.in-Coll.is ∙ leaves_Coll c.in-Coll.field-0 c.in-Coll.items) in
    subst (λ l. OnOk c.append_all_leaves.result (c.append_all_leaves.new.out.items ≡ c.args.out.now.items ++ l)) is c.append_all_leaves.ensures
