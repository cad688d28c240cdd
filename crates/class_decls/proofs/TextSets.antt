-- Sets of texts.
use Rattle.std.proofs.Common.{◌≡◌, ℕ, Bool, List, [], ◌∷◌, ◌||◌, map, nat_cmp, refl, sym, ap, ap₂, ◌∙◌, Ordering, IsSorted, cond, count_by, ◌+◌}
use Rattle.std.specs.List.{list_any}
use Rattle.std.proofs.lemmas.List.Sums.{sum_by-cons}
use Rattle.std.specs.Cmp.Lexicographic.{slice_cmp, nat_list_cmp_total, texts_ties}
use Rattle.std.specs.FinMap.{IsAntisymmetric, nat_cmp-IsAntisymmetric, slice_cmp-IsAntisymmetric}
use Rattle.use_orders.specs.Canon.{has, set_of}
use Rattle.use_orders.proofs.Found.{any_is_has}
use Rattle.use_orders.proofs.Sets.{has-set_of}
use Rattle.use_orders.proofs.Merged.{set_made, sorted_set}
use Rattle.class_decls.specs.Texts.{has_text}

abbrev pub text_cmp : List ℕ → List ℕ → Ordering
text_cmp = slice_cmp nat_cmp

pub text_exact : IsAntisymmetric text_cmp
text_exact = slice_cmp-IsAntisymmetric nat_cmp-IsAntisymmetric

pub has_text_is : (xs : List (List ℕ)) (t : List ℕ) → has_text xs t ≡ has text_cmp xs t
has_text_is xs t = any_is_has nat_list_cmp_total texts_ties xs t

pub has_text-set_of : (xs ys : List (List ℕ)) (t : List ℕ) → ys ≡ set_of text_cmp xs → has_text ys t ≡ has_text xs t
has_text-set_of xs ys t e = ap (λ l. has_text l t) e ∙ has_text_is (set_of text_cmp xs) t ∙ has-set_of nat_list_cmp_total xs t ∙ sym (has_text_is xs t)

pub sorted_texts : (xs ys : List (List ℕ)) → ys ≡ set_of text_cmp xs → IsSorted text_cmp ys
sorted_texts xs ys e = sorted_set nat_list_cmp_total ys (set_made nat_list_cmp_total text_exact xs ys e)

pub any-map : {A B : Type 0} (test : B → Bool) (f : A → B) (xs : List A) → list_any test (map f xs) ≡ list_any (λ x. test (f x)) xs
any-map test f [] = refl
any-map test f (x ∷ xs) = ap (λ b. test (f x) || b) (any-map test f xs)

pub count_alike : {A : Type 0} (f g : A → Bool) → ((x : A) → f x ≡ g x) → (xs : List A) → count_by f xs ≡ count_by g xs
count_alike f g h [] = refl
count_alike f g h (x ∷ xs) = sum_by-cons (λ y. cond (f y) 1 0) x xs ∙ ap₂ (λ b n. cond b 1 0 + n) (h x) (count_alike f g h xs)
    ∙ sym (sum_by-cons (λ y. cond (g y) 1 0) x xs)
