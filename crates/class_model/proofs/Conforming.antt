-- The laws of conformance.
use Rattle.std.proofs.Common.{◌≡◌, ℕ, Bool, true, false, ◌&&◌, cond, nat_eq, refl, sym, ap, ap₂, ◌∙◌, IsTrue, true≢false, subst, arith}
use Rattle.std.proofs.lemmas.Bool.Decides.{nat_tests}
use Rattle.ocl_values.specs.declared.value.Kind.{Kind}
use Rattle.ocl_values.specs.declared.value.Kind.TheVariants.{Set, OrderedSet, Bag, Sequence}
use Rattle.ocl_values.specs.contracts.value.KindPartialEq.TheImpl.{ghosts as kind_ghosts}
use Rattle.class_model.specs.declared.object_model.ObjectModel.{ObjectModel}
use Rattle.class_model.specs.declared.types.OclType.{OclType, end_of-OclType, more_of-OclType}
use Rattle.class_model.specs.declared.types.OclType.TheVariants as T
use Rattle.class_model.specs.Conformance.{Conforms, by_elements, conforms, from_void as below_all, itself, to_ancestor, to_any as above_all}
use Rattle.class_model.specs.Inheritance.{IsAcyclic, is_a, parents_of}
use Rattle.class_model.proofs.Rows.{inherits_self, inherits_trans, self_is}
use Rattle.class_model.proofs.TypeCases.{coll_conforms, coll_is}

pub kind_self : (k : Kind) → kind_ghosts.eq k k ≡ true
kind_self Set = refl
kind_self OrderedSet = refl
kind_self Bag = refl
kind_self Sequence = refl

pub kind_is : (k l : Kind) → kind_ghosts.eq k l ≡ true → k ≡ l
kind_is Set Set e = refl
kind_is OrderedSet OrderedSet e = refl
kind_is Bag Bag e = refl
kind_is Sequence Sequence e = refl
kind_is k l e = absurd (true≢false (sym e))

pub first_of : (a b : Bool) → (a && b) ≡ true → a ≡ true
first_of true b h = refl
first_of false b h = h

pub second_of : (a b : Bool) → (a && b) ≡ true → b ≡ true
second_of true b h = h
second_of false b h = absurd (true≢false (sym h))

pub both : (a b : Bool) → a ≡ true → b ≡ true → (a && b) ≡ true
both true b e f = f
both false b e f = e

-- everything conforms to OclAny, and OclVoid to everything
pub to_any : (m : ObjectModel) (t : OclType) → conforms m t T.Any ≡ true
to_any m t = refl

pub from_void : (m : ObjectModel) (t : OclType) → conforms m T.Void t ≡ true
from_void m T.Any = refl
from_void m T.Void = refl
from_void m T.Bool = refl
from_void m T.Int = refl
from_void m T.Str = refl
from_void m (T.Enum e) = refl
from_void m (T.Class c) = refl
from_void m (T.Coll' k s (more_of-OclType t end_of-OclType)) = refl

pub number_is : (x y : ℕ) → nat_eq x y ≡ true → x ≡ y
number_is x y e = grind (arith, nat_tests)

module _ (m : ObjectModel) (down : IsAcyclic m) where
  pub reflexive : (t : OclType) → conforms m t t ≡ true
  reflexive T.Any = refl
  reflexive T.Void = refl
  reflexive T.Bool = refl
  reflexive T.Int = refl
  reflexive T.Str = refl
  reflexive (T.Enum e) = self_is e
  reflexive (T.Class c) = inherits_self (parents_of m) down c
  reflexive (T.Coll' k s (more_of-OclType t r)) = both (kind_ghosts.eq k k) (conforms m t t) (kind_self k) (reflexive t)

  -- what the test tells is so
  pub told : (a b : OclType) → conforms m a b ≡ true → Conforms m a b
  told a T.Any e = above_all a
  told T.Void b e = below_all b
  told T.Bool T.Bool e = itself T.Bool
  told T.Int T.Int e = itself T.Int
  told T.Str T.Str e = itself T.Str
  told (T.Enum x) (T.Enum y) e = subst (λ z. Conforms m (T.Enum x) (T.Enum z)) (number_is x y e) (itself (T.Enum x))
  told (T.Class c) (T.Class d) e = to_ancestor c d e
  told (T.Coll' k s (more_of-OclType a end_of-OclType)) (T.Coll' l t (more_of-OclType b end_of-OclType)) e =
      subst (λ x. Conforms m x (T.Coll' l t (more_of-OclType b end_of-OclType))) (sym (coll_is k s a))
      (subst (λ y. Conforms m (T.Coll k a) y) (ap (λ l. T.Coll l b) (kind_is k l (first_of (kind_ghosts.eq k l) (conforms m a b) e)) ∙ sym (coll_is l t b))
      (by_elements k a b (told a b (second_of (kind_ghosts.eq k l) (conforms m a b) e))))
  told a b e = absurd (true≢false (sym e))

  -- and what is so is told
  pub tells : (a b : OclType) → Conforms m a b → conforms m a b ≡ true
  tells a b (itself t) = reflexive t
  tells a b (above_all t) = refl
  tells a b (below_all t) = from_void m t
  tells a b (to_ancestor c d e) = e
  tells a b (by_elements k x y h) = coll_conforms m k k x y ∙ both (kind_ghosts.eq k k) (conforms m x y) (kind_self k) (tells x y h)

  any_up : (a c : OclType) → conforms m T.Any c ≡ true → conforms m a c ≡ true
  any_up a T.Any f = refl
  any_up a c f = absurd (true≢false (sym f))

  class_up : (x y : ℕ) → is_a m x y ≡ true → (c : OclType) → conforms m (T.Class y) c ≡ true → conforms m (T.Class x) c ≡ true
  class_up x y e T.Any f = refl
  class_up x y e (T.Class z) f = inherits_trans (parents_of m) down x y z e f
  class_up x y e c f = absurd (true≢false (sym f))

  coll_up : (k : Kind) (s : _) (l : Kind) (t : _) (a b : OclType) → (conforms m a b ≡ true → (c : OclType) → conforms m b c ≡ true → conforms m a c ≡ true) →
      (r q : _) →
      conforms m (T.Coll' k s (more_of-OclType a r)) (T.Coll' l t (more_of-OclType b q)) ≡ true → (c : OclType) →
      conforms m (T.Coll' l t (more_of-OclType b q)) c ≡ true → conforms m (T.Coll' k s (more_of-OclType a r)) c ≡ true
  coll_up k s l t a b up r q e T.Any f = refl
  coll_up k s l t a b up r q e (T.Coll' p u (more_of-OclType d w)) f =
      both (kind_ghosts.eq k p) (conforms m a d)
      (ap (λ x. kind_ghosts.eq x p) (kind_is k l (first_of (kind_ghosts.eq k l) (conforms m a b) e)) ∙ first_of (kind_ghosts.eq l p) (conforms m b d) f)
      (up (second_of (kind_ghosts.eq k l) (conforms m a b) e) d (second_of (kind_ghosts.eq l p) (conforms m b d) f))
  coll_up k s l t a b up r q e c f = absurd (true≢false (sym f))

  pub transitive : (a b : OclType) → conforms m a b ≡ true → (c : OclType) → conforms m b c ≡ true → conforms m a c ≡ true
  transitive a T.Any e c f = any_up a c f
  transitive T.Void b e c f = from_void m c
  transitive T.Bool T.Bool e c f = f
  transitive T.Int T.Int e c f = f
  transitive T.Str T.Str e c f = f
  transitive (T.Enum x) (T.Enum y) e c f = subst (λ z. conforms m (T.Enum z) c ≡ true) (sym (number_is x y e)) f
  transitive (T.Class x) (T.Class y) e c f = class_up x y e c f
  transitive (T.Coll' k s (more_of-OclType a r)) (T.Coll' l t (more_of-OclType b q)) e c f =
      coll_up k s l t a b (transitive a b) r q e c f
  transitive a b e c f = absurd (true≢false (sym e))
