-- Each class of well-formed declarations declares few attributes and operations.
use Rattle.std.proofs.Common.{◌≡◌, ℕ, zero, suc, ◌+◌, ◌<◌, ◌≤◌, Bool, true, false, ◌||◌, cond, nat_eq, nat_lt, List, [], ◌∷◌, ◌++◌, length, map, slice_get, Option, Some, None, refl, sym, ap, ◌∙◌, subst, arith, true≢false, ⊎_elim, length-append}
use Rattle.std.specs.List.{cons_option, filter_map, flat_map, list_any, position_from}
use Rattle.std.specs.Option.{option_and_then, option_map_or}
use Rattle.std.proofs.lemmas.Bool.Decides.{eqb_tells, nat_tests}
use Rattle.std.proofs.lemmas.List.{length-map}
use Rattle.class_decls.specs.declared.decls.ClassDecl.{ClassDecl}
use Rattle.class_decls.specs.declared.decls.Decls.{Decls}
use Rattle.class_decls.specs.Texts.{first_numbered}
use Rattle.class_rules.specs.declared.by_class.ClassRule.TheVariants as r
use Rattle.class_rules.specs.Ancestors.{above, ancestor_numbers, ancestors, class_numbered, number_at, parent_numbers}
use Rattle.class_rules.specs.ClassRules.{broken_by, named_if}
use Rattle.class_rules.specs.Features.{attrs_of, ops_of}
use Rattle.class_rules.specs.Numbering.{is_among, numbering, parent_places}
use Rattle.class_rules.specs.WellFormed.{broken_rule}
use Rattle.class_rules.proofs.Acyclic.{all_numbered}
use Rattle.class_rules.proofs.Ordered.{downward}
use Rattle.class_model.proofs.Rows.{inherits_self}
use Rattle.class_builder.proofs.Unbroken.{acyclic, few_features, none_left, none_right}

numbered_none : {A B : Type 0} (f : ℕ → A → Option B) (n : ℕ) (xs : List A) → first_numbered f n xs ≡ None → (i : ℕ) (x : A) → slice_get xs i ≡ Some x → f
    (n + i) x ≡ None
numbered_none f n [] e i x h = cc
numbered_none f n (y ∷ ys) e zero x h =
    let z : n + 0 ≡ n = omega arith in
    let k : y ≡ x = cc in
    ap (λ j. f j x) z ∙ ap (f n) (sym k) ∙ none_left (f n y) (first_numbered f (n + 1) ys) e
numbered_none f n (y ∷ ys) e (suc i) x h =
    let z : n + suc i ≡ (n + 1) + i = omega arith in
    ap (λ j. f j x) z ∙ numbered_none f (n + 1) ys (none_right (f n y) (first_numbered f (n + 1) ys) e) i x h

unnamed : (b : Bool) (c : ClassDecl) → named_if b c ≡ None → b ≡ false
unnamed true c e = cc
unnamed false c e = refl

neither : (a b : Bool) → (a || b) ≡ false → (a ≡ false) × (b ≡ false)
neither true b e = absurd (true≢false e)
neither false b e = (refl, e)

not_above : (n m : ℕ) → nat_lt n m ≡ false → m ≤ n
not_above n m e = grind (arith, nat_tests)

-- where a number stands in a list
pub record Stands (i n : ℕ) (xs : List ℕ) : Type 0 where
  pub at : ℕ
  pub first : position_from (nat_eq i) n xs ≡ Some (n + at)
  pub is : slice_get xs at ≡ Some i

stands_at : (i n : ℕ) (xs : List ℕ) → list_any (nat_eq i) xs ≡ true → Stands i n xs
stands_at i n [] e = absurd (true≢false (sym e))
stands_at i n (x ∷ xs) e =
    ⊎_elim
    (λ t.
    let z : n + 0 ≡ n = omega arith in
    let k : i ≡ x = t.1 in
    record { at = 0; first = ap (λ b. cond b (Some n) (position_from (nat_eq i) (n + 1) xs)) t.0 ∙ ap Some (sym z); is = ap Some (sym k) })
    (λ t.
    let later : Stands i (n + 1) xs = stands_at i (n + 1) xs (sym (ap (λ b. b || list_any (nat_eq i) xs) t.0) ∙ e) in
    let z : (n + 1) + later.at ≡ n + suc later.at = omega arith in
    record { at = suc later.at; first = ap (λ b. cond b (Some n) (position_from (nat_eq i) (n + 1) xs)) t.0 ∙ later.first ∙ ap Some z; is = later.is })
    (eqb_tells i x)

here_long : {A B : Type 0} (f : A → List B) (d : A) (o : Option A) (xs : List A) → o ≡ Some d → length (f d) ≤ length (flat_map f (cons_option o xs))
here_long f d None xs e = cc
here_long f d (Some x) xs e = let k : x ≡ d = cc in let l = length-append (f x) (flat_map f xs) in let j : length (f x) ≡ length (f d) = ap
    (λ y. length (f y)) k in omega arith

later_long : {A B : Type 0} (f : A → List B) (o : Option A) (xs : List A) (n : ℕ) → n ≤ length (flat_map f xs) → n ≤ length (flat_map f (cons_option o xs))
later_long f None xs n h = h
later_long f (Some x) xs n h = let l = length-append (f x) (flat_map f xs) in omega arith

within : {A : Type 0} (xs : List A) (i : ℕ) (x : A) → slice_get xs i ≡ Some x → i < length xs
within [] i x e = cc
within (y ∷ ys) zero x e = omega arith
within (y ∷ ys) (suc i) x e = let h = within ys i x e in omega arith

-- a list that is among others joined is no longer than all together
among_joined : {A B : Type 0} (g : ℕ → Option A) (f : A → List B) (ns : List ℕ) (c : ℕ) (d : A) → is_among ns c ≡ true → g c ≡ Some d →
    length (f d) ≤ length (flat_map f (filter_map g ns))
among_joined g f [] c d e h = absurd (true≢false (sym e))
among_joined g f (n ∷ ns) c d e h =
    ⊎_elim
    (λ t. here_long f d (g n) (filter_map g ns) (ap g (sym t.1) ∙ h))
    (λ t. later_long f (g n) (filter_map g ns) (length (f d)) (among_joined g f ns c d (sym (ap (λ b. b || is_among ns c) t.0) ∙ e) h))
    (eqb_tells c n)

module _ (ds : Decls) (ok : broken_rule ds ≡ None) (i : ℕ) (d : ClassDecl) (is : slice_get ds.classes i ≡ Some d) where
  counts : (nat_lt 64 (length (attrs_of (above ds i))) ≡ false) × (nat_lt 64 (length (ops_of (above ds i))) ≡ false)
  counts =
      neither (nat_lt 64 (length (attrs_of (above ds i)))) (nat_lt 64 (length (ops_of (above ds i))))
      (unnamed (nat_lt 64 (length (attrs_of (above ds i))) || nat_lt 64 (length (ops_of (above ds i)))) d
      (let z : 0 + i ≡ i = omega arith in rw z at (numbered_none (broken_by r.TooManyFeatures ds) 0 ds.classes (few_features ds ok) i d is)))

  pub stands : Stands i 0 (numbering (parent_places ds))
  stands = stands_at i 0 (numbering (parent_places ds)) ((all_numbered ds (acyclic ds ok)).each i (within ds.classes i d is))

  numbered : number_at ds i ≡ Some stands.at
  numbered = let z : 0 + stands.at ≡ stands.at = omega arith in stands.first ∙ ap Some z

  own_numbers : ancestor_numbers ds i ≡ ancestors (parent_numbers ds) stands.at
  own_numbers = ap (λ o. option_map_or (ancestors (parent_numbers ds)) o []) numbered

  pub there : is_among (ancestor_numbers ds i) stands.at ≡ true
  there = ap (λ l. is_among l stands.at) own_numbers ∙ inherits_self (parent_numbers ds) (downward ds) stands.at

  pub numbered_class : class_numbered ds stands.at ≡ Some d
  numbered_class = ap (option_and_then (slice_get ds.classes)) stands.is ∙ is

  -- what the class declares is no more than what it has
  pub own_part : {B : Type 0} (f : ClassDecl → List B) → length (f d) ≤ length (flat_map f (above ds i))
  own_part f = among_joined (class_numbered ds) f (ancestor_numbers ds i) stands.at d there numbered_class

  pub few_attrs : length d.attrs ≤ 64
  few_attrs =
      let a = not_above 64 (length (attrs_of (above ds i))) counts.0 in
      let b = own_part (λ c. map (λ a. a.name.text) c.attrs) in
      let l = length-map d.attrs (λ a. a.name.text) in
      omega arith

  pub op_names : length (ops_of (above ds i)) ≤ 64
  op_names = not_above 64 (length (ops_of (above ds i))) counts.1
