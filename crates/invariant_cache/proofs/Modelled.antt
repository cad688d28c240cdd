-- Where a navigation may start, by the model and by the layout that a state has of it.
use Rattle.std.proofs.Common.{◌≡◌, ℕ, ◌+◌, ◌<◌, zero, suc, false, ◌&&◌, List, [], ◌∷◌, length, Option, Some, None, refl, sym, ap, ◌∙◌, arith}
use Rattle.std.specs.List.{enumerate_from, list_any, slice_get}
use Rattle.std.specs.Option.{option_map, option_map_or}
use Rattle.std.specs.Prelude.{nat_eq, nat_lt}
use Rattle.std.proofs.lemmas.Bool.{lt-ltb, ltb-true}
use Rattle.std.proofs.lemmas.List.{length-map}
use Rattle.std.proofs.lemmas.List.FromFn.{length-enumerate_from}
use Rattle.std.proofs.lemmas.Option.{slice_get-map, slice_get_within}
use Rattle.class_model.specs.declared.numbers.End.{End}
use Rattle.class_model.specs.declared.numbers.End.TheVariants.{First, Second}
use Rattle.class_model.specs.declared.object_model.Association.{Association}
use Rattle.class_model.specs.declared.object_model.Class.{Class}
use Rattle.class_model.specs.declared.object_model.ObjectModel.{ObjectModel}
use Rattle.class_model.specs.Ends.{end_of, opposite}
use Rattle.class_model.specs.Inheritance as model
use Rattle.object_state.specs.declared.layout.AssocLayout.{AssocLayout}
use Rattle.object_state.specs.declared.layout.ClassLayout.{ClassLayout}
use Rattle.object_state.specs.Layouts.{ancestors, assoc_layout, class_at, class_layout, is_a, layout_of, may_stand}
use Rattle.object_state.proofs.Keyed.{by_test, some≢none}
use Rattle.invariant_cache.specs.Noting.{may_start}

numbered : {X : Type 0} (n : ℕ) (xs : List X) (i : ℕ) → slice_get (enumerate_from n xs) i ≡ option_map (λ x. (n + i, x)) (slice_get xs i)
numbered n [] i = refl
numbered n (x ∷ xs) zero = ap (λ (k : ℕ). Some (k, x)) (omega arith)
numbered n (x ∷ xs) (suc i) = numbered (n + 1) xs i ∙ ap (λ (k : ℕ). option_map (λ y. (k, y)) (slice_get xs i)) (omega arith)

there : {X : Type 0} (xs : List X) (i : ℕ) → i < length xs → (x : X) × (slice_get xs i ≡ Some x)
there [] i h = absurd (omega arith)
there (x ∷ xs) zero h = (x, refl)
there (x ∷ xs) (suc i) h = there xs i (omega arith)

module _ (m : ObjectModel) where
  pub class_count : length (layout_of m).classes ≡ length m.classes
  class_count = length-map (enumerate_from 0 m.classes) (λ c. class_layout m c.0 c.1.is_abstract) ∙ length-enumerate_from 0 m.classes

  -- ancestors are kept as they are
  pub same_ancestors : (c : ℕ) → c < length m.classes → ancestors (layout_of m) c ≡ model.ancestors m c
  same_ancestors c h =
      let at = there m.classes c h in
      ap (λ (u : Option ClassLayout). option_map_or (λ x. x.ancestors) u [])
      (slice_get-map (λ (c : ℕ × Class). class_layout m c.0 c.1.is_abstract) (enumerate_from 0 m.classes) c
      ∙ ap (option_map (λ (c : ℕ × Class). class_layout m c.0 c.1.is_abstract)) (numbered 0 m.classes c
      ∙ ap (option_map (λ (x : Class). (0 + c, x))) at.1))
      ∙ ap (model.ancestors m) (zeroed c)
    where
      zeroed : (c : ℕ) → 0 + c ≡ c
      zeroed c = omega arith

  pub same_is_a : (c d : ℕ) → c < length m.classes → is_a (layout_of m) c d ≡ model.is_a m c d
  same_is_a c d h = ap (list_any (nat_eq d)) (same_ancestors c h)

  class_there : (y : Association) (e : End) → class_at (assoc_layout y) e ≡ (end_of y e).class
  class_there y First = refl
  class_there y Second = refl

  -- objects of a class may stand where a navigation starts, if its association is the model's and it may start at them
  pub starts : (a c : ℕ) (e : End) (o : ℕ) → c < length m.classes
      → may_stand (layout_of m) a (opposite e) c ≡ (nat_lt a (length m.assocs) && may_start m c (a, (e, o)))
  starts a c e o h = ap (λ (u : Option AssocLayout). option_map_or (λ x. is_a (layout_of m) c (class_at x (opposite e))) u false) (slice_get-map assoc_layout m.assocs a) ∙ by (slice_get m.assocs a) refl
    where
      by : (u : Option Association) → slice_get m.assocs a ≡ u
          → option_map_or (λ x. is_a (layout_of m) c (class_at x (opposite e))) (option_map assoc_layout u) false
          ≡ (nat_lt a (length m.assocs) && model.is_a m c (option_map_or (λ d. (end_of d (opposite e)).class) u 0))
      by None q = by_test (nat_lt a (length m.assocs))
          (λ y. let l = ltb-true a (length m.assocs) y in let k = there m.assocs a l in absurd (some≢none k.0 (sym k.1 ∙ q)))
          (λ n. ap (λ b. b && model.is_a m c 0) (sym n))
      by (Some y) q =
          ap (is_a (layout_of m) c) (class_there y (opposite e)) ∙ same_is_a c (end_of y (opposite e)).class h
          ∙ ap (λ b. b && model.is_a m c (end_of y (opposite e)).class) (sym (lt-ltb a (length m.assocs) (slice_get_within m.assocs a y q)))
