-- The text of a collection, by the texts of its elements.
use Rattle.std.proofs.Common.{◌≡◌, ◌==◌, ℕ, zero, suc, ◌+◌, ◌<◌, List, [], ◌∷◌, ◌++◌, length, map, take, get_or, if◌then◌else◌, ap, sym, refl, ◌∙◌}
use Rattle.std.proofs.Common.{append_assoc, Option, arith}
use Rattle.std.specs.List.{join_with_byte}
use Rattle.std.proofs.lemmas.Bool.Decides.{nat_tests}
use Rattle.std.specs.Prelude.{codes}
use Rattle.std.proofs.lemmas.List.{take_more, map-append, length-map, length-take-le}
use Rattle.ocl_values.specs.declared.value.Kind.{Kind}
use Rattle.ocl_values.specs.declared.value.Value.{Value, Row_of-Value, end_of-Value, more_of-Value, items-the_row-Value, items_hidden-the_row-Value-0}
use Rattle.ocl_values.specs.declared.value.Value.TheVariants.{Coll}
use Rattle.ocl_values.specs.Printing.{kind_name, value_text, row_texts}
use Rattle.ocl_values.proofs.Rows.{row_of}

module _ (object : ℕ → Option (List ℕ)) (literal : ℕ → ℕ → Option (List ℕ × List ℕ)) where
  texts_row : (n : _) (row : Row_of-Value n) → row_texts object literal row ≡ map (value_text object literal) (items-the_row-Value n row)
  texts_row n end_of-Value = refl
  texts_row n (more_of-Value v rest) = ap (λ ts. value_text object literal v ∷ ts) (texts_row _ rest)

  -- the text of a collection
  pub value_text-Coll : (kind : Kind) (all : List Value)
      → value_text object literal (Coll kind all) ≡ kind_name kind ++ codes "{" ++ join_with_byte 44 (map (value_text object literal) all) ++ codes "}"
  value_text-Coll kind all =
      let row = row_of (Coll kind all) in
      ap (λ ts. kind_name kind ++ codes "{" ++ join_with_byte 44 ts ++ codes "}")
      (texts_row row.0 row.1 ∙ ap (map (value_text object literal)) (items_hidden-the_row-Value-0 all))

-- what stands between some texts and one more
abbrev pub between : List (List ℕ) → List ℕ
between [] = []
between (x ∷ xs) = 44 ∷ []

-- one more text, after a comma where it is not the first
join-push : (xs : List (List ℕ)) (y : List ℕ) → join_with_byte 44 (xs ++ y ∷ []) ≡ join_with_byte 44 xs ++ between xs ++ y
join-push [] y = refl
join-push (x ∷ []) y = sym (append_assoc x (44 ∷ []) y)
join-push (x ∷ z ∷ zs) y =
    ap (λ t. x ++ (44 ∷ t)) (join-push (z ∷ zs) y) ∙ regrouped x (join_with_byte 44 (z ∷ zs)) (44 ∷ []) y
  where
    regrouped : (a b c d : List ℕ) → a ++ (44 ∷ (b ++ c ++ d)) ≡ (a ++ (44 ∷ b)) ++ c ++ d
    regrouped a b c d = simp append_assoc

between_at : (i : ℕ) (xs : List (List ℕ)) → length xs ≡ i → between xs ≡ (if i == 0 then [] else 44 ∷ [])
between_at zero [] e = refl
between_at (suc i) [] e = absurd (omega arith)
between_at zero (x ∷ xs) e = absurd (omega arith)
between_at (suc i) (x ∷ xs) e = grind (arith, nat_tests)

module _ (f : Value → List ℕ) (all : List Value) (i : ℕ) (v : Value) where
  -- the text of one element more
  pub joined_more : i < length all → v ≡ get_or all i v
      → join_with_byte 44 (map f (take (i + 1) all)) ≡ join_with_byte 44 (map f (take i all)) ++ (if i == 0 then [] else 44 ∷ []) ++ f v
  joined_more in_all is =
      let front : map f (take (i + 1) all) ≡ map f (take i all) ++ f v ∷ [] =
      ap (map f) (take_more all i v in_all ∙ ap (λ x. take i all ++ x ∷ []) (sym is)) ∙ map-append f (take i all) (v ∷ []) in
      let long : length (map f (take i all)) ≡ i = length-map (take i all) f ∙ length-take-le i all (omega arith) in
      ap (join_with_byte 44) front
      ∙ join-push (map f (take i all)) (f v)
      ∙ ap (λ b. join_with_byte 44 (map f (take i all)) ++ b ++ f v) (between_at i (map f (take i all)) long)

-- five pieces in a row
pub gathered : (o k a j b o1 o2 o3 o4 : List ℕ) → o1 ≡ o ++ k → o2 ≡ o1 ++ a → o3 ≡ o2 ++ j → o4 ≡ o3 ++ b → o4 ≡ o ++ (k ++ a ++ j ++ b)
gathered o k a j b o1 o2 o3 o4 e1 e2 e3 e4 =
    e4 ∙ ap (λ x. x ++ b) (e3 ∙ ap (λ x. x ++ j) (e2 ∙ ap (λ x. x ++ a) e1)) ∙ simp append_assoc

-- three pieces in a row
pub followed : (o j b y o1 o2 o3 : List ℕ) → o1 ≡ o ++ j → o2 ≡ o1 ++ b → o3 ≡ o2 ++ y → o3 ≡ o ++ (j ++ b ++ y)
followed o j b y o1 o2 o3 e1 e2 e3 =
    e3 ∙ ap (λ x. x ++ y) (e2 ∙ ap (λ x. x ++ b) e1) ∙ simp append_assoc
