-- What is said of types of collections, by their elements.
use Rattle.std.proofs.Common.{◌≡◌, ℕ, Bool, true, false, ◌&&◌, cond, refl, sym, ap, ap₂, ◌∙◌, IfOk, Result, subst}
use Rattle.std.specs.Option.{option_map_or}
use Rattle.ocl_values.specs.declared.value.Kind.{Kind}
use Rattle.ocl_values.specs.contracts.value.KindPartialEq.TheImpl.{ghosts as kind_ghosts}
use Rattle.class_model.specs.declared.object_model.ObjectModel.{ObjectModel}
use Rattle.class_model.specs.declared.types.OclType.{OclType, end_of-OclType, more_of-OclType}
use Rattle.class_model.specs.declared.types.OclType.TheVariants as T
use Rattle.class_model.specs.Conformance.{common_ancestors, conforms, join, lowest, wider}
use Rattle.class_model.specs.InRange.{IsTypeAmong}

pub coll_is : (k : Kind) (s : _) (t : OclType) → T.Coll' k s (more_of-OclType t end_of-OclType) ≡ T.Coll k t
unfolding Rattle.class_model.specs.declared.types.OclType.TheBlock.hidden-the_row-OclType-0 denote.Hole.Carrier.hidden
coll_is k s t = refl

pub coll_among : (classes enums : ℕ) (k : Kind) (t : OclType) → IsTypeAmong classes enums (T.Coll k t) ≡ IsTypeAmong classes enums t
unfolding Rattle.class_model.specs.declared.types.OclType.TheBlock.hidden-the_row-OclType-0 denote.Hole.Carrier.hidden
coll_among classes enums k t = refl

pub coll_conforms : (m : ObjectModel) (k l : Kind) (t u : OclType) → conforms m (T.Coll k t) (T.Coll l u) ≡ (kind_ghosts.eq k l && conforms m t u)
unfolding Rattle.class_model.specs.declared.types.OclType.TheBlock.hidden-the_row-OclType-0 denote.Hole.Carrier.hidden
coll_conforms m k l t u = refl

-- the join of types neither of which conforms to the other
abbrev pub apart : ObjectModel → OclType → OclType → OclType
apart m (T.Class c) (T.Class d) = option_map_or T.Class (lowest m (common_ancestors m c d)) T.Any
apart m (T.Coll' k s (more_of-OclType a r)) (T.Coll' l t (more_of-OclType b q)) = cond (kind_ghosts.eq k l) (T.Coll k (join m a b)) T.Any
apart m a b = T.Any

pub coll_apart : (m : ObjectModel) (k l : Kind) (t u : OclType) → apart m (T.Coll k t) (T.Coll l u) ≡ cond (kind_ghosts.eq k l) (T.Coll k (join m t u)) T.Any
unfolding Rattle.class_model.specs.declared.types.OclType.TheBlock.hidden-the_row-OclType-0 denote.Hole.Carrier.hidden
coll_apart m k l t u = refl

pub join_is : (m : ObjectModel) (a b : OclType) → join m a b ≡ wider m a b (apart m a b)
join_is m (T.Class c) (T.Class d) = refl
join_is m (T.Coll' k s (more_of-OclType a end_of-OclType)) (T.Coll' l t (more_of-OclType b end_of-OclType)) =
    ap₂ (λ x y. wider m x y (cond (kind_ghosts.eq k l) (T.Coll k (join m a b)) T.Any)) (sym (coll_is k s a)) (sym (coll_is l t b))
join_is m a b = refl

pub join_first : (m : ObjectModel) (a b : OclType) → conforms m a b ≡ true → join m a b ≡ b
join_first m a b e = join_is m a b ∙ ap (λ x. cond x b (cond (conforms m b a) a (apart m a b))) e

pub join_second : (m : ObjectModel) (a b : OclType) → conforms m a b ≡ false → conforms m b a ≡ true → join m a b ≡ a
join_second m a b e f = join_is m a b ∙ ap₂ (λ x y. cond x b (cond y a (apart m a b))) e f

pub join_apart : (m : ObjectModel) (a b : OclType) → conforms m a b ≡ false → conforms m b a ≡ false → join m a b ≡ apart m a b
join_apart m a b e f = join_is m a b ∙ ap₂ (λ x y. cond x b (cond y a (apart m a b))) e f

-- types that are neither two classes nor two collections have nothing in common but OclAny
pub apart_other : (m : ObjectModel) (a b : OclType) → ((c d : ℕ) → a ≡ T.Class c → b ≡ T.Class d → ⊥) →
    ((k l : Kind) (x y : OclType) → a ≡ T.Coll k x → b ≡ T.Coll l y → ⊥) → T.Any ≡ apart m a b
apart_other m (T.Class c) (T.Class d) f g = absurd (f c d refl refl)
apart_other m (T.Coll' k s (more_of-OclType x end_of-OclType)) (T.Coll' l t (more_of-OclType y end_of-OclType)) f g = absurd
    (g k l x y (coll_is k s x) (coll_is l t y))
apart_other m a b f g = refl

pub no_class : (c : ℕ) (k : Kind) (t : OclType) → T.Class c ≡ T.Coll k t → ⊥
no_class c k t e = cc
