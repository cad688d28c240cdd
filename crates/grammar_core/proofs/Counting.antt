-- What a place leads to is more than what the places after it lead to, where no place leads to itself.
use Rattle.std.proofs.Common.{◌≡◌, ℕ, ◌<◌, ◌≤◌, List, [], ◌∷◌, length, Bool, true, false, zero, suc, refl, sym, ◌∙◌, arith}
use Rattle.grammar_core.specs.Paths.{IsIn, next, Path, is_marked}
use Rattle.grammar_core.specs.Marks.{IsRow}

abbrev pub marks : List Bool → ℕ
marks [] = 0
marks (true ∷ bs) = suc (marks bs)
marks (false ∷ bs) = marks bs

-- at each place, marked in the first only if in the second
abbrev Within : List Bool → List Bool → Type 0
Within a b = (q : ℕ) → is_marked a q ≡ true → is_marked b q ≡ true

marks_within : (a b : List Bool) → length a ≡ length b → Within a b → marks a ≤ marks b
marks_within [] b e w = omega arith
marks_within (x ∷ xs) [] e w = absurd (omega arith)
marks_within (false ∷ xs) (false ∷ ys) e w = marks_within xs ys (omega arith) (λ q. w (suc q))
marks_within (false ∷ xs) (true ∷ ys) e w = let h = marks_within xs ys (omega arith) (λ q. w (suc q)) in omega arith
marks_within (true ∷ xs) (true ∷ ys) e w = let h = marks_within xs ys (omega arith) (λ q. w (suc q)) in omega arith
marks_within (true ∷ xs) (false ∷ ys) e w = let h = w zero refl in (cc)

pub marks_less : (a b : List Bool) → length a ≡ length b → Within a b → (r : ℕ) → is_marked b r ≡ true → is_marked a r ≡ false → marks a < marks b
marks_less [] [] e w r yes_b no_a = (cc)
marks_less [] (y ∷ ys) e w r yes_b no_a = absurd (omega arith)
marks_less (x ∷ xs) [] e w r yes_b no_a = absurd (omega arith)
marks_less (true ∷ xs) (y ∷ ys) e w zero yes_b no_a = (cc)
marks_less (false ∷ xs) (false ∷ ys) e w zero yes_b no_a = (cc)
marks_less (false ∷ xs) (true ∷ ys) e w zero yes_b no_a = let h = marks_within xs ys (omega arith) (λ q. w (suc q)) in omega arith
marks_less (true ∷ xs) (false ∷ ys) e w (suc r) yes_b no_a = let h = w zero refl in (cc)
marks_less (true ∷ xs) (true ∷ ys) e w (suc r) yes_b no_a = let h = marks_less xs ys (omega arith) (λ q. w (suc q)) r yes_b no_a in omega arith
marks_less (false ∷ xs) (false ∷ ys) e w (suc r) yes_b no_a = let h = marks_less xs ys (omega arith) (λ q. w (suc q)) r yes_b no_a in omega arith
marks_less (false ∷ xs) (true ∷ ys) e w (suc r) yes_b no_a = let h = marks_less xs ys (omega arith) (λ q. w (suc q)) r yes_b no_a in omega arith

after : (graph : List (List ℕ)) (p q : ℕ) → IsIn q (next graph p) → q < length graph → (r : ℕ) → Path graph q r → Path graph p r
after graph p q edge inside _ (Path.first r e i) = Path.then q r (Path.first q edge inside) e i
after graph p q edge inside _ (Path.then s r way e i) = Path.then s r (after graph p q edge inside s way) e i

not_true : (b : Bool) → (b ≡ true → ⊥) → b ≡ false
not_true true h = absurd (h refl)
not_true false h = refl

-- the ranks of a graph without cycles
pub rank_falls : (graph : List (List ℕ)) (p q : ℕ) (row_p row_q : List Bool) → IsRow graph p row_p → IsRow graph q row_q → IsIn q (next graph p)
    → q < length graph → (Path graph q q → ⊥) → marks row_q < marks row_p
rank_falls graph p q row_p row_q rp rq edge inside no_cycle =
    marks_less row_q row_p (rq.long ∙ sym rp.long) (λ r m. rp.complete r (after graph p q edge inside r (rq.sound r m))) q (rp.complete q
    (Path.first q edge inside)) (not_true (is_marked row_q q) (λ m. no_cycle (rq.sound q m)))
