-- The only least common ancestor.
use Rattle.std.proofs.Common.{◌≡◌, ℕ, ◌<◌, ◌≤◌, Bool, true, false, ◌&&◌, cond, nat_eq, List, [], ◌∷◌, length, filter, find, map, Option, Some, None, refl, sym, ap, ◌∙◌, subst}
use Rattle.std.specs.List.{list_all}
use Rattle.std.specs.Option.{option_and_then}
use Rattle.std.proofs.lemmas.List.{length-map}
use Rattle.class_model.specs.declared.object_model.ObjectModel.{ObjectModel}
use Rattle.class_model.specs.Conformance.{common_ancestors, lowest}
use Rattle.class_model.specs.Indexes.{greatest_by}
use Rattle.class_model.specs.Inheritance.{IsAcyclic, ancestors, is_a, parents_of}
use Rattle.class_model.proofs.Greatest.{greatest_found}
use Rattle.class_model.proofs.Rows.{alone, alone_is, inherits_low, inherits_self}

pub lowest_is : (m : ObjectModel) → IsAcyclic m → (common : List ℕ) →
    option_and_then (λ c. cond (list_all (is_a m c) common) (Some c) None) (greatest_by (λ c. c) common) ≡ lowest m common
lowest_is m down common = greatest_found (λ c. c) (is_a m) (inherits_low (parents_of m) down) common

one_or_none : (m : ObjectModel) (a : ℕ) (b : Bool) → is_a m a a ≡ true → cond b (Some a) None ≡ lowest m (cond b (a ∷ []) [])
one_or_none m a true self = ap (λ s. cond (s && true) (Some a) None) (sym self)
one_or_none m a false self = refl

-- a class that is not there has only itself
pub lowest_alone : (m : ObjectModel) → IsAcyclic m → (a b : ℕ) → length m.classes ≤ a → cond (nat_eq a b) (Some a) None ≡ lowest m (common_ancestors m a b)
lowest_alone m down a b h =
    let out : length (parents_of m) ≤ a = subst (λ n. n ≤ a) (sym (length-map m.classes (λ c. c.parents))) h in
    one_or_none m a (nat_eq a b) (inherits_self (parents_of m) down a)
    ∙ ap (λ x. lowest m (cond x (a ∷ []) [])) (sym (alone_is (parents_of m) down a out b))
    ∙ ap (λ l. lowest m (filter (is_a m b) l)) (sym (alone (parents_of m) down a out))
