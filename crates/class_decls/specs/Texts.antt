-- Names, and those that a model has without declaring them.
use Rattle.std.specs.Prelude.{ℕ, ◌+◌, Bool, nat_eq, nat_lt, List, [], ◌∷◌, length, codes, Option, None}
use Rattle.std.specs.Option.{option_or}
use Rattle.std.specs.List.{list_any}
use Rattle.std.specs.Ordering.{nat_cmp}
use Rattle.std.specs.Cmp.Lexicographic.{pointwise, slice_cmp}
use Rattle.use_orders.specs.Canon.{set_of}

abbrev pub same_text : List ℕ → List ℕ → Bool
same_text a b = pointwise nat_eq a b

-- the plain types
abbrev pub plain_types : List (List ℕ)
plain_types = codes "Boolean" ∷ codes "Integer" ∷ codes "String" ∷ codes "OclAny" ∷ codes "OclVoid" ∷ []

-- what the body of an operation and its contracts call the receiver and the result, so that no parameter may
abbrev pub bound_names : List (List ℕ)
bound_names = codes "self" ∷ codes "result" ∷ []

-- whether a text is among others
abbrev pub has_text : List (List ℕ) → List ℕ → Bool
has_text texts text = list_any (λ y. same_text y text) texts

abbrev pub is_plain_type : List ℕ → Bool
is_plain_type text = has_text plain_types text

-- what f gives of the first element of which it gives something
abbrev pub first_given : {A B : Type 0} → (A → Option B) → List A → Option B
first_given f [] = None
first_given f (x ∷ xs) = option_or (f x) (first_given f xs)

-- the same where f also takes the number of the element, counted on from n
abbrev pub first_numbered : {A B : Type 0} → (ℕ → A → Option B) → ℕ → List A → Option B
first_numbered f n [] = None
first_numbered f n (x ∷ xs) = option_or (f n x) (first_numbered f (n + 1) xs)

-- whether a text stands twice in a list: fewer are different than there are
abbrev pub repeats : List (List ℕ) → Bool
repeats texts = nat_lt (length (set_of (slice_cmp nat_cmp) texts)) (length texts)
