-- Two lists beside one another.
use Rattle.std.proofs.Common.{◌≡◌, ℕ, suc, ◌+◌, ◌++◌, ◌⊎◌, inl, inr, List, [], ◌∷◌, length, map, refl, sym, ap, ap₂, ◌∙◌, append_assoc, append-nil, cond}
use Rattle.std.proofs.Common.{Bool, true, false, Ordering, is_lt, arith}
use Rattle.std.specs.List.{zip}
use Rattle.use_orders.specs.Canon.{insert_in, bag_of}

pub zip_next : {K X : Type 0} (all done : List (K × X)) (ks ks' : List K) (vs vs' : List X) (a : K) (b : X) → all ≡ done ++ zip ks vs → ks ≡ a ∷ ks'
    → vs ≡ b ∷ vs' → all ≡ (done ++ (a, b) ∷ []) ++ zip ks' vs'
zip_next all done ks ks' vs vs' a b whole ea eb = whole ∙ ap₂ (λ x y. done ++ zip x y) ea eb ∙ sym (append_assoc done ((a, b) ∷ []) (zip ks' vs'))

empty : {X : Type 0} (xs : List X) → length xs ≡ 0 → xs ≡ []
empty [] e = refl
empty (x ∷ xs) e = absurd (omega (arith, e))

zip_none : {K X : Type 0} (ks : List K) (vs : List X) → (length ks ≡ 0) ⊎ (length vs ≡ 0) → zip ks vs ≡ []
zip_none ks vs (inl e) = ap (λ l. zip l vs) (empty ks e)
zip_none [] vs (inr e) = refl
zip_none (k ∷ ks) vs (inr e) = ap (zip (k ∷ ks)) (empty vs e)

pub zip_ends : {K X : Type 0} (all done : List (K × X)) (ks : List K) (vs : List X) → all ≡ done ++ zip ks vs → (length ks ≡ 0) ⊎ (length vs ≡ 0) → done ≡ all
zip_ends all done ks vs whole ends = sym (whole ∙ ap (λ l. done ++ l) (zip_none ks vs ends) ∙ append-nil done)

pub shorter : {X : Type 0} (xs ys : List X) (x : X) (m n : ℕ) → xs ≡ x ∷ ys → n + 1 ≡ m → m ≡ length xs → n ≡ length ys
shorter xs ys x m n e one all =
    let l : length xs ≡ suc (length ys) = ap length e in
    omega (arith, l, one, all)

-- an order of images, on lists of what they are images of
module _ {A B : Type 0} (f : A → B) (cmp : B → B → Ordering) where
  either : (t : Bool) (p : List A) (q : List B) (x y : A) (ys : List A) → map f p ≡ q
      → map f (cond t (y ∷ p) (x ∷ y ∷ ys)) ≡ cond t (f y ∷ q) (f x ∷ f y ∷ map f ys)
  either true p q x y ys e = ap (λ l. f y ∷ l) e
  either false p q x y ys e = refl

  insert_map : (ys : List A) (x : A) → map f (insert_in (λ a b. cmp (f a) (f b)) ys x) ≡ insert_in cmp (map f ys) (f x)
  insert_map [] x = refl
  insert_map (y ∷ ys) x = either (is_lt (cmp (f y) (f x))) _ _ x y ys (insert_map ys x)

  pub bag_map : (xs : List A) → map f (bag_of (λ a b. cmp (f a) (f b)) xs) ≡ bag_of cmp (map f xs)
  bag_map [] = refl
  bag_map (x ∷ xs) = insert_map (bag_of (λ a b. cmp (f a) (f b)) xs) x ∙ ap (λ l. insert_in cmp l (f x)) (bag_map xs)

  map_twice : {C : Type 0} (g : B → C) (xs : List A) → map g (map f xs) ≡ map (λ a. g (f a)) xs
  map_twice g [] = refl
  map_twice g (x ∷ xs) = ap (λ l. g (f x) ∷ l) (map_twice g xs)

  pub bag_images : {C : Type 0} (g : B → C) (xs : List A) (ps : List B) → map f xs ≡ ps
      → map (λ a. g (f a)) (bag_of (λ a b. cmp (f a) (f b)) xs) ≡ map g (bag_of cmp ps)
  bag_images g xs ps e = sym (map_twice g (bag_of (λ a b. cmp (f a) (f b)) xs)) ∙ ap (map g) (bag_map xs ∙ ap (bag_of cmp) e)
