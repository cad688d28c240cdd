-- The ancestors of a class are the least set that holds it and the parents of its members.
use Rattle.std.proofs.Common.{◌≡◌, ℕ, zero, suc, ◌<◌, Bool, true, false, ◌||◌, nat_cmp, nat_eq, List, [], ◌∷◌, ◌++◌, refl, sym, ap, ap₂, ◌∙◌, subst, arith, true≢false, ⊎_elim}
use Rattle.std.specs.Cmp.{unsigned_ties}
use Rattle.std.specs.List.{AllByRecursion, flat_map}
use Rattle.std.proofs.lemmas.Bool.Decides.{eqb_tells}
use Rattle.std.proofs.lemmas.Cmp.{nat_cmp_total}
use Rattle.std.proofs.lemmas.List.Folds.{list_any-append}
use Rattle.use_orders.specs.Canon.{has}
use Rattle.use_orders.proofs.Sets.{has-set_of}
use Rattle.class_rules.specs.Ancestors.{HoldsParents, IsDownward, IsLeastAbove, ancestors, upward}
use Rattle.class_rules.specs.Numbering.{is_among, row_at}

pub among_has : (xs : List ℕ) (z : ℕ) → is_among xs z ≡ has nat_cmp xs z
among_has [] z = refl
among_has (x ∷ xs) z = ap₂ (λ a b. a || b) (unsigned_ties z x) (among_has xs z)

-- the set of some numbers has the same members
among_ancestors : (parents : List (List ℕ)) (c z : ℕ) → is_among (ancestors parents c) z ≡ is_among (upward parents (suc c) c) z
among_ancestors parents c z = among_has (ancestors parents c) z ∙ has-set_of nat_cmp_total (upward parents (suc c) c) z
    ∙ sym (among_has (upward parents (suc c) c) z)

all_joined : (P : ℕ → Type 0) (xs ys : List ℕ) → AllByRecursion P xs → AllByRecursion P ys → AllByRecursion P (xs ++ ys)
all_joined P [] ys h g = g
all_joined P (x ∷ xs) ys h g = (h.0, all_joined P xs ys h.1 g)

all_flat : (f : ℕ → List ℕ) (P : ℕ → Type 0) (xs : List ℕ) → AllByRecursion (λ x. AllByRecursion P (f x)) xs → AllByRecursion P (flat_map f xs)
all_flat f P [] h = tt
all_flat f P (x ∷ xs) h = all_joined P (f x) (flat_map f xs) h.0 (all_flat f P xs h.1)

pub weaker : {P Q : ℕ → Type 0} → ((x : ℕ) → P x → Q x) → (xs : List ℕ) → AllByRecursion P xs → AllByRecursion Q xs
weaker f [] h = tt
weaker f (x ∷ xs) h = (f x h.0, weaker f xs h.1)

or_right : (a b : Bool) → b ≡ true → (a || b) ≡ true
or_right true b h = refl
or_right false b h = h

or_left : (a b : Bool) → a ≡ true → (a || b) ≡ true
or_left true b h = refl
or_left false b h = absurd (true≢false (sym h))

-- what is in the list of one is in those of all
abbrev GoesIn : (ℕ → List ℕ) → List ℕ → ℕ → Type 0
GoesIn f ys x = (z : ℕ) → is_among (f x) z ≡ true → is_among ys z ≡ true

in_flat : (f : ℕ → List ℕ) (xs : List ℕ) → AllByRecursion (GoesIn f (flat_map f xs)) xs
in_flat f [] = tt
in_flat f (x ∷ xs) = (
  λ z h. list_any-append (nat_eq z) (f x) (flat_map f xs) ∙ or_left (is_among (f x) z) (is_among (flat_map f xs) z) h,
  weaker (λ y g z h. list_any-append (nat_eq z) (f x) (flat_map f xs) ∙ or_right (is_among (f x) z) (is_among (flat_map f xs) z) (g z h)) xs (in_flat f xs),
)

both : (P Q : ℕ → Type 0) (xs : List ℕ) → AllByRecursion P xs → AllByRecursion Q xs → AllByRecursion (λ x. P x × Q x) xs
both P Q [] h g = tt
both P Q (x ∷ xs) h g = ((h.0, g.0), both P Q xs h.1 g.1)

itself : (x : ℕ) → nat_eq x x ≡ true
itself x = ⊎_elim (λ t. t.0) (λ t. absurd (t.1 refl)) (eqb_tells x x)

starts : (parents : List (List ℕ)) (n q : ℕ) → q < n → is_among (upward parents n q) q ≡ true
starts parents zero q h = absurd (omega arith)
starts parents (suc n) q h = or_left (nat_eq q q) (is_among (flat_map (upward parents n) (row_at parents q)) q) (itself q)

-- the parents of what is above a class are above it
abbrev Closed : List (List ℕ) → List ℕ → List ℕ → Type 0
Closed parents all xs = AllByRecursion (λ d. AllByRecursion (λ p. is_among all p ≡ true) (row_at parents d)) xs

closed : (parents : List (List ℕ)) → IsDownward parents → (n c : ℕ) → c < n → Closed parents (upward parents n c) (upward parents n c)
closed parents down zero c h = absurd (omega arith)
closed parents down (suc n) c h =
    let row = row_at parents c in
    let rest = flat_map (upward parents n) row in
    let inside = both (λ q. q < c) (GoesIn (upward parents n) rest) row (down c) (in_flat (upward parents n) row) in (
      weaker (λ q k. let low = k.0 in or_right (nat_eq q c) (is_among rest q) (k.1 q (starts parents n q (omega arith)))) row inside,
      all_flat (upward parents n) (λ d. AllByRecursion (λ p. is_among (c ∷ rest) p ≡ true) (row_at parents d)) row
          (weaker
          (λ q k. let low = k.0 in
          weaker (λ d g. weaker (λ p e. or_right (nat_eq p c) (is_among rest p) (k.1 p e)) (row_at parents d) g) (upward parents n q) (closed parents down n q
          (omega arith)))
          row inside),
    )

by_member : (P : ℕ → Type 0) (x z : ℕ) (b : Bool) → P x → (b ≡ true → P z) → (nat_eq z x || b) ≡ true → P z
by_member P x z b h f e = ⊎_elim (λ t. subst P (sym t.1) h) (λ t. f (sym (ap (λ a. a || b) t.0) ∙ e)) (eqb_tells z x)

of_member : (P : ℕ → Type 0) (xs : List ℕ) (z : ℕ) → AllByRecursion P xs → is_among xs z ≡ true → P z
of_member P [] z h e = absurd (true≢false (sym e))
of_member P (x ∷ xs) z h e = by_member P x z (is_among xs z) h.0 (of_member P xs z h.1) e

-- a set with the parents of its members holds all above a class that it holds
held_above : (parents : List (List ℕ)) (held : ℕ → Bool) → HoldsParents parents held → (n c : ℕ) → held c ≡ true
    → AllByRecursion (λ d. held d ≡ true) (upward parents n c)
held_above parents held more zero c h = tt
held_above parents held more (suc n) c h =
    (h, all_flat (upward parents n) (λ d. held d ≡ true) (row_at parents c) (weaker (λ q k. held_above parents held more n q k) (row_at parents c) (more c h)))

pub least_above : (parents : List (List ℕ)) → IsDownward parents → (c : ℕ) → IsLeastAbove parents c (ancestors parents c)
least_above parents down c =
    let all = upward parents (suc c) c in
    record {
      class = among_ancestors parents c c ∙ starts parents (suc c) c (omega arith);
      parents_too = λ d h.
          weaker (λ p e. among_ancestors parents c p ∙ e) (row_at parents d)
          (of_member (λ d. AllByRecursion (λ p. is_among all p ≡ true) (row_at parents d)) all d (closed parents down (suc c) c (omega arith)) (sym
          (among_ancestors parents c d) ∙ h));
      least = λ held h more d e. of_member (λ d. held d ≡ true) all d (held_above parents held more (suc c) c h) (sym (among_ancestors parents c d) ∙ e);
    }
