-- Where names stand, the last told first.
use Rattle.std.proofs.Common.{◌≡◌, ℕ, ◌+◌, suc, cond, List, ◌∷◌, Option, Some, None, refl, sym, ap, ◌∙◌, arith}
use Rattle.std.specs.BTreeMap.{insert_entry, is_at}
use Rattle.std.specs.Cmp.Lexicographic.{nat_list_cmp_total, pointwise, texts_ties}
use Rattle.std.specs.List.{position}
use Rattle.std.specs.Map.{lookup}
use Rattle.std.specs.Option.{option_map}
use Rattle.std.specs.Prelude.{nat_eq}
use Rattle.object_state.specs.State.{text_cmp}
use Rattle.object_state.proofs.Keyed.{by_test, lookup_insert}
use Rattle.soil_exec.proofs.Fresh.{here, later}

-- a place in what is left of a list, seen from its front
abbrev pub shifted : ℕ → Option ℕ → Option ℕ
shifted n None = None
shifted n (Some i) = Some (n + i)

shift_more : (n : ℕ) (u : Option ℕ) → shifted (n + 1) u ≡ shifted n (option_map suc u)
shift_more n None = refl
shift_more n (Some i) = ap (λ (k : ℕ). Some k) (omega arith)

-- one name more in front
pub told_more : (places : List (List ℕ × ℕ)) (name : List ℕ) (rest : List (List ℕ)) (n : ℕ) (t : List ℕ)
    → lookup (is_at (text_cmp t)) places ≡ shifted (n + 1) (position (pointwise nat_eq t) rest)
    → lookup (is_at (text_cmp t)) (insert_entry text_cmp places name n) ≡ shifted n (position (pointwise nat_eq t) (name ∷ rest))
told_more places name rest n t h =
    lookup_insert nat_list_cmp_total places name n t
    ∙ by_test (pointwise nat_eq t name)
    (λ y. ap (λ b. cond b (Some n) (lookup (is_at (text_cmp t)) places)) (sym (texts_ties t name) ∙ y)
    ∙ ap (λ (k : ℕ). Some k) (none_more n)
    ∙ ap (shifted n) (sym (here (pointwise nat_eq t) name rest y)))
    (λ m. ap (λ b. cond b (Some n) (lookup (is_at (text_cmp t)) places)) (sym (texts_ties t name) ∙ m)
    ∙ h ∙ shift_more n (position (pointwise nat_eq t) rest) ∙ ap (shifted n) (sym (later (pointwise nat_eq t) name rest m)))
  where
    none_more : (n : ℕ) → n ≡ n + 0
    none_more n = omega arith

-- no name is left
pub none_told : (u : Option ℕ) → shifted 0 u ≡ u
none_told None = refl
none_told (Some i) = ap (λ (k : ℕ). Some k) (omega arith)
