-- What is made of each element and its number, one element after another.
use Rattle.std.proofs.Common.{◌≡◌, ℕ, zero, suc, ◌+◌, ◌<◌, ◌≤◌, List, [], ◌∷◌, ◌++◌, length, get_or, map, take, refl, sym, ap, ◌∙◌, append_assoc, append-nil, Option, arith}
use Rattle.std.specs.List.{enumerate_from, filter_map, flat_map}
use Rattle.std.proofs.lemmas.Grind.{flat_map-append}
use Rattle.std.proofs.lemmas.List.{take_more}
use Rattle.std.proofs.lemmas.List.Elements.{filter_map-append}
use Rattle.class_decls.specs.Names.{numbered}

pub take-more : {A : Type 0} (xs : List A) (i : ℕ) (x : A) → i < length xs → x ≡ get_or xs i x → take (i + 1) xs ≡ take i xs ++ x ∷ []
take-more xs i x h e = take_more xs i x h ∙ ap (λ y. take i xs ++ y ∷ []) (sym e)

module _ {A B : Type 0} (f : ℕ → A → List B) where
  abbrev from : ℕ → List A → List B
  from n xs = flat_map (λ p. f p.0 p.1) (enumerate_from n xs)

  from-take : (n : ℕ) (xs : List A) (i : ℕ) (d : A) → i < length xs → from n (take (suc i) xs) ≡ from n (take i xs) ++ f (n + i) (get_or xs i d)
  from-take n [] i d h = absurd (omega arith)
  from-take n (x ∷ xs) zero d h =
      let e : n + 0 ≡ n = omega arith in rw (e, append-nil (f n x)) refl
  from-take n (x ∷ xs) (suc i) d h =
      let e : n + suc i ≡ (n + 1) + i = omega arith in
      let more = from-take (n + 1) xs i d (omega arith) in
      rw (e, more) (sym (append_assoc (f n x) (from (n + 1) (take i xs)) (f ((n + 1) + i) (get_or xs i d))))

  pub numbered-take : (xs : List A) (i : ℕ) (d : A) → i < length xs → numbered f (take (i + 1) xs) ≡ numbered f (take i xs) ++ f i (get_or xs i d)
  numbered-take xs i d h =
      let e : i + 1 ≡ suc i = omega arith in
      let z : 0 + i ≡ i = omega arith in
      rw e (from-take 0 xs i d h ∙ rw z refl)

  -- one element more behind what is there
  pub numbered_more : (bs : List B) (xs : List A) (i : ℕ) (x : A) → i < length xs → x ≡ get_or xs i x → (bs ++ numbered f (take i xs)) ++ f i x ≡ bs
      ++ numbered f (take (i + 1) xs)
  numbered_more bs xs i x h e =
      append_assoc bs (numbered f (take i xs)) (f i x) ∙ ap (λ ys. bs ++ ys) (ap (λ y. numbered f (take i xs) ++ f i y) e ∙ sym (numbered-take xs i x h))

-- the same of what the elements stand for
from_map : {A B C : Type 0} (f : ℕ → B → List C) (h : A → B) (n : ℕ) (xs : List A) → flat_map (λ p. f p.0 (h p.1)) (enumerate_from n xs) ≡ flat_map
    (λ p. f p.0 p.1) (enumerate_from n (map h xs))
from_map f h n [] = refl
from_map f h n (x ∷ xs) = ap (λ ys. f n (h x) ++ ys) (from_map f h (n + 1) xs)

pub numbered-map : {A B C : Type 0} (f : ℕ → B → List C) (h : A → B) (xs : List A) → numbered (λ i x. f i (h x)) xs ≡ numbered f (map h xs)
numbered-map f h xs = from_map f h 0 xs

-- one element more in what a choice gives
pub filter_map_more : {A B : Type 0} (f : A → Option B) (xs : List A) (i : ℕ) (x : A) → i < length xs → x ≡ get_or xs i x →
    filter_map f (take (i + 1) xs) ≡ filter_map f (take i xs) ++ filter_map f (x ∷ [])
filter_map_more f xs i x h e = ap (filter_map f) (take-more xs i x h e) ∙ filter_map-append f (take i xs) (x ∷ [])

-- one element more in what is made of each
pub flat_map_next : {A B : Type 0} (f : A → List B) (xs : List A) (i : ℕ) (x : A) → i < length xs → x ≡ get_or xs i x →
    flat_map f (take (i + 1) xs) ≡ flat_map f (take i xs) ++ f x
flat_map_next f xs i x h e = ap (flat_map f) (take-more xs i x h e) ∙ flat_map-append f (take i xs) (x ∷ []) ∙ ap (λ l. flat_map f (take i xs)
    ++ l) (append-nil (f x))

pub all_taken : {A : Type 0} (xs : List A) (i : ℕ) → length xs ≤ i → take i xs ≡ xs
all_taken [] zero h = refl
all_taken [] (suc i) h = refl
all_taken (x ∷ xs) zero h = absurd (omega arith)
all_taken (x ∷ xs) (suc i) h = ap (λ l. x ∷ l) (all_taken xs i (omega arith))
