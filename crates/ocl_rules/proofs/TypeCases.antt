-- What is said of types of collections, by their elements.
use Rattle.std.proofs.Common.{◌≡◌, ◌≢◌, ℕ, zero, suc, ◌+◌, ◌-◌, min, refl, arith}
use Rattle.ocl_values.specs.declared.value.Kind.{Kind}
use Rattle.class_model.specs.declared.types.OclType.{OclType}
use Rattle.class_model.specs.declared.types.OclType.TheVariants as T
use Rattle.ocl_rules.specs.CollectionOperations.{element_of, innermost}
use Rattle.ocl_rules.specs.Forms.{levels}

pub element_of_coll : (k : Kind) (t : OclType) → element_of (T.Coll k t) ≡ t
unfolding Rattle.class_model.specs.declared.types.OclType.TheBlock.hidden-the_row-OclType-0 denote.Hole.Carrier.hidden
element_of_coll k t = refl

pub innermost_of_coll : (k : Kind) (t : OclType) → innermost (T.Coll k t) ≡ innermost t
unfolding Rattle.class_model.specs.declared.types.OclType.TheBlock.hidden-the_row-OclType-0 denote.Hole.Carrier.hidden
innermost_of_coll k t = refl

pub levels_of_coll : (k : Kind) (t : OclType) → levels (T.Coll k t) ≡ suc (levels t)
unfolding Rattle.class_model.specs.declared.types.OclType.TheBlock.hidden-the_row-OclType-0 denote.Hole.Carrier.hidden
levels_of_coll k t = refl

-- of two numbers, one more than the lesser
pub min_of_one_more : (a b : ℕ) → b ≢ 0 → min a (b - 1) + 1 ≡ min (suc a) b
min_of_one_more a zero p = absurd (p refl)
min_of_one_more a (suc b) p = grind arith
