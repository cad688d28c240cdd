-- The attributes and operations of a class are among those of the model.
use Rattle.std.proofs.Common.{◌≡◌, ℕ, ◌+◌, ◌<◌, Bool, true, false, cond, List, [], ◌∷◌, length, Option, Some, None, ◌∙◌, subst, arith}
use Rattle.std.specs.List.{All, AllByRecursion, enumerate_from, filter_map, cons_option}
use Rattle.std.proofs.lemmas.List.Elements.{All-from_recursion}
use Rattle.std.proofs.lemmas.List.{length-map}
use Rattle.std.proofs.lemmas.List.FromFn.{length-enumerate_from}
use Rattle.class_model.specs.declared.object_model.ObjectModel.{ObjectModel}
use Rattle.class_model.specs.Features.{attrs, ops}
use Rattle.object_state.specs.Layouts.{assoc_layout, assoc_layouts, class_layout, class_layouts}

module _ {A : Type 0} (test : ℕ × A → Bool) where
  -- the numbers of the elements that pass a test
  abbrev of : ℕ × A → Option ℕ
  of p = cond (test p) (Some p.0) None

  raised : (n m : ℕ) (xs : List ℕ) → n ≡ m → AllByRecursion (λ i. i < n) xs → AllByRecursion (λ i. i < m) xs
  raised n m xs e = subst (λ k. AllByRecursion (λ i. i < k) xs) e

  next : (n : ℕ) (x : A) (bound : ℕ) (rest : List ℕ) → n < bound → AllByRecursion (λ i. i < bound) rest → (b : Bool)
      → AllByRecursion (λ i. i < bound) (cons_option (cond b (Some n) None) rest)
  next n x bound rest h a true = (h, a)
  next n x bound rest h a false = a

  below : (n : ℕ) (xs : List A) → AllByRecursion (λ i. i < n + length xs) (filter_map of (enumerate_from n xs))
  below n [] = tt
  below n (x ∷ xs) =
      next n x (n + length (x ∷ xs)) (filter_map of (enumerate_from (n + 1) xs)) (omega arith)
      (raised ((n + 1) + length xs) (n + length (x ∷ xs)) _ (omega arith) (below (n + 1) xs)) (test (n, x))

  pub among : (xs : List A) → All (λ i. i < length xs) (filter_map of (enumerate_from 0 xs))
  among xs = All-from_recursion (λ i. i < length xs) _ (raised (0 + length xs) (length xs) _ (omega arith) (below 0 xs))

pub attrs-among : (m : ObjectModel) (c : ℕ) → All (λ a. a < length m.attrs) (attrs m c)
attrs-among m c = among _ m.attrs

pub ops-among : (m : ObjectModel) (c : ℕ) → All (λ o. o < length m.ops) (ops m c)
ops-among m c = among _ m.ops

pub as-many-layouts : (m : ObjectModel) → length (class_layouts m) ≡ length m.classes
as-many-layouts m = length-map (enumerate_from 0 m.classes) (λ c. class_layout m c.0 c.1.is_abstract) ∙ length-enumerate_from 0 m.classes

pub as-many-assocs : (m : ObjectModel) → length (assoc_layouts m.assocs) ≡ length m.assocs
as-many-assocs m = length-map m.assocs assoc_layout
