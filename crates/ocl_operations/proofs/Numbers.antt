-- The elements of a range: the next one, and that they are well made.
use Rattle.std.proofs.Common.{◌≡◌, ◌∙◌, ◌++◌, ◌∷◌, [], ◌+◌, ℕ, ℤ, pos, ◌+ℤ◌, List, All, map, arith, ap, sym, subst, append_assoc}
use Rattle.std.specs.List.{range_with_len}
use Rattle.std.proofs.lemmas.List.Elements.{All-append, All-map}
use Rattle.std.proofs.lemmas.List.FromFn.{map-range_with_len_more}
use Rattle.ocl_values.specs.Shape.{IsWellMade}
use Rattle.ocl_values.specs.declared.value.Value.{Value}
use Rattle.ocl_values.specs.declared.value.Value.TheVariants.{Int}
use Rattle.ocl_operations.specs.Ranges.{count_between, whole_numbers}

integer_well : (n : ℤ) → IsWellMade (Int n)
integer_well n = record { tidy = tt; levels = omega arith }

pub numbers_well : (xs ys : List Value) (a b : ℤ) → ys ≡ xs ++ whole_numbers a b → All IsWellMade xs → All IsWellMade ys
numbers_well xs ys a b e well = subst (All IsWellMade) (sym e) (All-append IsWellMade xs (whole_numbers a b) well
    (All-map IsWellMade (λ k. Int (a +ℤ pos k)) (range_with_len 0 (count_between a b)) (λ k d below. integer_well _)))

pub one_more : (old out out' : List Value) (a : ℤ) (n : ℕ) (v : Value) → out ≡ old ++ map (λ k. Int (a +ℤ pos k)) (range_with_len 0 n) →
    out' ≡ out ++ v ∷ [] → v ≡ Int (a +ℤ pos n) → out' ≡ old ++ map (λ k. Int (a +ℤ pos k)) (range_with_len 0 (n + 1))
one_more old out out' a n v before next is =
    next ∙ ap (λ l. l ++ v ∷ []) before ∙ append_assoc old (map (λ k. Int (a +ℤ pos k)) (range_with_len 0 n)) (v ∷ [])
    ∙ ap (λ x. old ++ (map (λ k. Int (a +ℤ pos k)) (range_with_len 0 n) ++ x ∷ [])) is
    ∙ ap (λ l. old ++ l) (sym (map-range_with_len_more (λ k. Int (a +ℤ pos k)) 0 n n (omega arith)))
