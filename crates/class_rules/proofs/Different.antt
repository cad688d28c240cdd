-- Names that all differ, among all classes and so among some of them.
use Rattle.std.proofs.Common.{◌≡◌, ◌⊎◌, inl, inr, ℕ, zero, suc, ◌≤◌, Bool, true, false, not, ◌&&◌, ◌||◌, nat_eq, nat_lt, nat_cmp, List, [], ◌∷◌, ◌++◌, length, slice_get, Option, Some, None, Ordering, Less, Equal, Greater, refl, sym, ap, ap₂, ◌∙◌, arith, true≢false, ⊎_elim}
use Rattle.std.specs.Cmp.Lexicographic.{nat_list_cmp_total, texts_ties}
use Rattle.std.specs.List.{AllByRecursion, cons_option, filter_map, flat_map}
use Rattle.std.specs.List.Sorted.{IsStrictlySortedBy}
use Rattle.std.specs.Option.{option_and_then, option_map_or}
use Rattle.std.specs.Ordering.{is_eq, match_ordering}
use Rattle.std.proofs.lemmas.Bool.{cases_Bool}
use Rattle.std.proofs.lemmas.Bool.Decides.{eqb_tells, leb_tells}
use Rattle.std.proofs.lemmas.Cmp.{nat_cmp_total, ranked}
use Rattle.std.proofs.lemmas.List.Folds.{list_any-append}
use Rattle.use_orders.specs.Canon.{all_differ, has, insert_new, set_of}
use Rattle.use_orders.proofs.Sets.{equal, has-set_of, rises-set_of}
use Rattle.class_decls.specs.Texts.{repeats}
use Rattle.class_decls.specs.declared.decls.ClassDecl.{ClassDecl}
use Rattle.class_decls.specs.declared.decls.Decls.{Decls}
use Rattle.class_decls.proofs.TextSets.{text_cmp, text_exact}
use Rattle.class_rules.specs.Ancestors.{above, ancestor_numbers, ancestors, number_at, parent_numbers, upward}
use Rattle.class_rules.specs.Numbering.{is_among, numbering, parent_places}
use Rattle.class_rules.proofs.Ordered.{first_of, second_of}
use Rattle.class_rules.proofs.Queued.{itself, or_left, or_right}
use Rattle.class_rules.proofs.Single.{same_self}
use Rattle.class_rules.proofs.Unnumbered.{false_of, kept_on, left_false, not_done}

pub right_false : (a b : Bool) → (a || b) ≡ false → b ≡ false
right_false true b h = absurd (true≢false h)
right_false false b h = h

grown_by : (o : Ordering) (x y : List ℕ) (ys more : List (List ℕ)) (b : Bool) → (is_eq o || b) ≡ false → (b ≡ false → length more ≡ suc (length ys)) →
    length (match_ordering o (x ∷ y ∷ ys) (y ∷ ys) (y ∷ more)) ≡ suc (length (y ∷ ys))
grown_by Less x y ys more b h f = refl
grown_by Equal x y ys more b h f = absurd (true≢false h)
grown_by Greater x y ys more b h f = ap suc (f h)

grown : (ys : List (List ℕ)) (x : List ℕ) → has text_cmp ys x ≡ false → length (insert_new text_cmp ys x) ≡ suc (length ys)
grown [] x h = refl
grown (y ∷ ys) x h = grown_by (text_cmp x y) x y ys (insert_new text_cmp ys x) (has text_cmp ys x) h (λ k. grown ys x k)

-- texts that all differ are as many as their set has
different : (xs : List (List ℕ)) → all_differ text_cmp xs ≡ true → length (set_of text_cmp xs) ≡ length xs
different [] h = refl
different (x ∷ xs) h =
    grown (set_of text_cmp xs) x (has-set_of nat_list_cmp_total xs x ∙ false_of (has text_cmp xs x) (first_of (not (has text_cmp xs x))
    (all_differ text_cmp xs) h))
    ∙ ap suc (different xs (second_of (not (has text_cmp xs x)) (all_differ text_cmp xs) h))

pub not_less : (n : ℕ) → nat_lt n n ≡ false
not_less n = ⊎_elim (λ t. let k : suc n ≤ n = t.1 in absurd (omega arith)) (λ t. t.0) (leb_tells (suc n) n)

pub no_repeat : (xs : List (List ℕ)) → all_differ text_cmp xs ≡ true → repeats xs ≡ false
no_repeat xs h = ap (λ n. nat_lt n (length xs)) (different xs h) ∙ not_less (length xs)

pub in_both : (a b : List (List ℕ)) (t : List ℕ) → has text_cmp (a ++ b) t ≡ (has text_cmp a t || has text_cmp b t)
in_both a b t = list_any-append (λ y. is_eq (text_cmp t y)) a b

pub left_differ : (a b : List (List ℕ)) → all_differ text_cmp (a ++ b) ≡ true → all_differ text_cmp a ≡ true
left_differ [] b h = refl
left_differ (x ∷ a) b h =
    ap₂ (λ p q. not p && q)
    (left_false (has text_cmp a x) (has text_cmp b x) (sym (in_both a b x) ∙ false_of (has text_cmp (a ++ b) x) (first_of (not (has text_cmp (a ++ b) x))
    (all_differ text_cmp (a ++ b)) h)))
    (left_differ a b (second_of (not (has text_cmp (a ++ b) x)) (all_differ text_cmp (a ++ b)) h))

pub right_differ : (a b : List (List ℕ)) → all_differ text_cmp (a ++ b) ≡ true → all_differ text_cmp b ≡ true
right_differ [] b h = h
right_differ (x ∷ a) b h = right_differ a b (second_of (not (has text_cmp (a ++ b) x)) (all_differ text_cmp (a ++ b)) h)

pub no_common : (a b : List (List ℕ)) → all_differ text_cmp (a ++ b) ≡ true → (t : List ℕ) → has text_cmp a t ≡ true → has text_cmp b t ≡ false
no_common [] b h t e = absurd (true≢false (sym e))
no_common (x ∷ a) b h t e =
    ⊎_elim
    (λ k.
    ap (has text_cmp b) (text_exact t x (equal (text_cmp t x) k))
    ∙ right_false (has text_cmp a x) (has text_cmp b x) (sym (in_both a b x) ∙ false_of (has text_cmp (a ++ b) x) (first_of (not (has text_cmp
    (a ++ b) x)) (all_differ text_cmp (a ++ b)) h)))
    (λ k. no_common a b (second_of (not (has text_cmp (a ++ b) x)) (all_differ text_cmp (a ++ b)) h) t (sym (ap (λ c. c || has text_cmp a t) k) ∙ e))
    (cases_Bool (is_eq (text_cmp t x)))

pub tied : (x : List ℕ) → is_eq (text_cmp x x) ≡ true
tied x = sym (texts_ties x x) ∙ same_self x

pub joined : (a b : List (List ℕ)) → all_differ text_cmp a ≡ true → all_differ text_cmp b ≡ true → ((t : List ℕ) → has text_cmp a t ≡ true
    → has text_cmp b t ≡ false) →
    all_differ text_cmp (a ++ b) ≡ true
joined [] b h k f = k
joined (x ∷ a) b h k f =
    ap₂ (λ p q. not p && q)
    (in_both a b x
    ∙ ap₂ (λ p q. p || q) (false_of (has text_cmp a x) (first_of (not (has text_cmp a x)) (all_differ text_cmp a) h)) (f x (or_left (is_eq (text_cmp x x))
    (has text_cmp a x) (tied x))))
    (joined a b (second_of (not (has text_cmp a x)) (all_differ text_cmp a) h) k (λ t e. f t (or_right (is_eq (text_cmp t x)) (has text_cmp a t) e)))

-- a number below all others is not among them
pub not_again : (n : ℕ) (ns : List ℕ) → AllByRecursion (λ w. nat_cmp n w ≡ Less) ns → is_among ns n ≡ true → ⊥
not_again n [] h e = true≢false (sym e)
not_again n (m ∷ ns) h e =
    ⊎_elim (λ t. let low = ranked n m Less (sym h.0) in let k : n ≡ m = t.1 in omega arith) (λ t. not_again n ns h.1 (sym (ap
    (λ b. b || is_among ns n) t.0) ∙ e)) (eqb_tells n m)

module _ (f : ClassDecl → List (List ℕ)) where
  inside : (xs : List ClassDecl) (i : ℕ) (x : ClassDecl) → slice_get xs i ≡ Some x → (t : List ℕ) → has text_cmp (f x) t ≡ true
      → has text_cmp (flat_map f xs) t ≡ true
  inside [] i x e t h = cc
  inside (y ∷ ys) zero x e t h =
      let k : y ≡ x = cc in
      in_both (f y) (flat_map f ys) t ∙ or_left (has text_cmp (f y) t) (has text_cmp (flat_map f ys) t) (ap (λ c. has text_cmp (f c) t) k ∙ h)
  inside (y ∷ ys) (suc i) x e t h =
      in_both (f y) (flat_map f ys) t ∙ or_right (has text_cmp (f y) t) (has text_cmp (flat_map f ys) t) (inside ys i x e t h)

  own : (xs : List ClassDecl) (i : ℕ) (x : ClassDecl) → slice_get xs i ≡ Some x → all_differ text_cmp (flat_map f xs) ≡ true → all_differ text_cmp (f x) ≡ true
  own [] i x e h = cc
  own (y ∷ ys) zero x e h = let k : y ≡ x = cc in ap (λ c. all_differ text_cmp (f c)) (sym k) ∙ left_differ (f y) (flat_map f ys) h
  own (y ∷ ys) (suc i) x e h = own ys i x e (right_differ (f y) (flat_map f ys) h)

  -- two classes with a name in common are one
  same_place : (xs : List ClassDecl) → all_differ text_cmp (flat_map f xs) ≡ true → (i j : ℕ) (x y : ClassDecl) → slice_get xs i ≡ Some x
      → slice_get xs j ≡ Some y →
      (t : List ℕ) → has text_cmp (f x) t ≡ true → has text_cmp (f y) t ≡ true → i ≡ j
  same_place [] h i j x y a b t e k = cc
  same_place (c ∷ cs) h zero zero x y a b t e k = refl
  same_place (c ∷ cs) h zero (suc j) x y a b t e k =
      let here : c ≡ x = cc in
      absurd (true≢false (sym (inside cs j y b t k) ∙ no_common (f c) (flat_map f cs) h t (ap (λ d. has text_cmp (f d) t) here ∙ e)))
  same_place (c ∷ cs) h (suc i) zero x y a b t e k =
      let here : c ≡ y = cc in
      absurd (true≢false (sym (inside cs i x a t e) ∙ no_common (f c) (flat_map f cs) h t (ap (λ d. has text_cmp (f d) t) here ∙ k)))
  same_place (c ∷ cs) h (suc i) (suc j) x y a b t e k = ap suc (same_place cs (right_differ (f c) (flat_map f cs) h) i j x y a b t e k)

  pub chosen_by : (o : Option ClassDecl) (rest : List ClassDecl) → ((y : ClassDecl) → o ≡ Some y → all_differ text_cmp (f y) ≡ true) →
      all_differ text_cmp (flat_map f rest) ≡ true →
      ((y : ClassDecl) → o ≡ Some y → (t : List ℕ) → has text_cmp (f y) t ≡ true → has text_cmp (flat_map f rest) t ≡ false) →
      all_differ text_cmp (flat_map f (cons_option o rest)) ≡ true
  chosen_by None rest a h b = h
  chosen_by (Some y) rest a h b = joined (f y) (flat_map f rest) (a y refl) h (b y refl)

  found_by : {R : Type 0} (o : Option ClassDecl) (rest : List ClassDecl) (t : List ℕ) → has text_cmp (flat_map f (cons_option o rest)) t ≡ true →
      ((y : ClassDecl) → o ≡ Some y → has text_cmp (f y) t ≡ true → R) → (has text_cmp (flat_map f rest) t ≡ true → R) → R
  found_by None rest t h a b = b h
  found_by (Some y) rest t h a b =
      ⊎_elim (λ e. a y refl e) (λ e. b (sym (ap (λ c. c || has text_cmp (flat_map f rest) t) e) ∙ sym (in_both (f y) (flat_map f rest) t) ∙ h))
      (cases_Bool (has text_cmp (f y) t))

  -- a class with a name, its number and its place
  pub record Named (g : ℕ → Option ClassDecl) (ns : List ℕ) (t : List ℕ) : Type 0 where
    pub number : ℕ
    pub class : ClassDecl
    pub there : is_among ns number ≡ true
    pub is : g number ≡ Some class
    pub named : has text_cmp (f class) t ≡ true

  pub named : (g : ℕ → Option ClassDecl) (ns : List ℕ) (t : List ℕ) → has text_cmp (flat_map f (filter_map g ns)) t ≡ true → Named g ns t
  named g [] t h = absurd (true≢false (sym h))
  named g (n ∷ ns) t h =
      found_by (g n) (filter_map g ns) t h
      (λ y e k. record { number = n; class = y; there = or_left (nat_eq n n) (is_among ns n) (itself n); is = e; named = k })
      (λ k. let r = named g ns t k in
      record { number = r.number; class = r.class; there = or_right (nat_eq r.number n) (is_among ns r.number) r.there; is = r.is; named = r.named })

  module _ (xs : List ClassDecl) (order : List ℕ) (differ : all_differ text_cmp (flat_map f xs) ≡ true)
      (once : (n m p : ℕ) → slice_get order n ≡ Some p → slice_get order m ≡ Some p → n ≡ m) where
    abbrev get : ℕ → Option ClassDecl
    get n = option_and_then (slice_get xs) (slice_get order n)

    record Placed (n : ℕ) (y : ClassDecl) : Type 0 where
      pub place : ℕ
      pub at : slice_get order n ≡ Some place
      pub is : slice_get xs place ≡ Some y

    placed_by : (n : ℕ) (y : ClassDecl) (o : Option ℕ) → slice_get order n ≡ o → option_and_then (slice_get xs) o ≡ Some y → Placed n y
    placed_by n y None h e = cc
    placed_by n y (Some p) h e = record { place = p; at = h; is = e }

    placed : (n : ℕ) (y : ClassDecl) → get n ≡ Some y → Placed n y
    placed n y e = placed_by n y (slice_get order n) refl e

    pub chosen_differ : (ns : List ℕ) → IsStrictlySortedBy nat_cmp ns → all_differ text_cmp (flat_map f (filter_map get ns)) ≡ true
    unfolding IsStrictlySortedBy
    chosen_differ [] up = refl
    chosen_differ (n ∷ ns) up =
        chosen_by (get n) (filter_map get ns)
        (λ y e. let p = placed n y e in own xs p.place y p.is differ)
        (chosen_differ ns up.1)
        (λ y e t h.
        ⊎_elim
        (λ k.
        let other = named get ns t k in
        let p = placed n y e in
        let q = placed other.number other.class other.is in
        let same = same_place xs differ p.place q.place y other.class p.is q.is t h other.named in
        let number = once n other.number q.place (p.at ∙ ap Some same) q.at in
        absurd (not_again n ns up.0 (ap (is_among ns) number ∙ other.there)))
        (λ k. k)
        (cases_Bool (has text_cmp (flat_map f (filter_map get ns)) t)))

-- each class has one number
abbrev Once : List ℕ → Type 0
Once order = (n m p : ℕ) → slice_get order n ≡ Some p → slice_get order m ≡ Some p → n ≡ m

is_there : (xs : List ℕ) (n p : ℕ) → slice_get xs n ≡ Some p → is_among xs p ≡ true
is_there [] n p e = cc
is_there (x ∷ xs) zero p e = let k : x ≡ p = cc in or_left (nat_eq p x) (is_among xs p) (ap (nat_eq p) k ∙ itself p)
is_there (x ∷ xs) (suc n) p e = or_right (nat_eq p x) (is_among xs p) (is_there xs n p e)

at_last : (xs : List ℕ) (i n p : ℕ) → slice_get (xs ++ i ∷ []) n ≡ Some p → (slice_get xs n ≡ Some p) ⊎ ((n ≡ length xs) × (i ≡ p))
at_last [] i zero p e = inr (refl, cc)
at_last [] i (suc n) p e = cc
at_last (x ∷ xs) i zero p e = inl e
at_last (x ∷ xs) i (suc n) p e = ⊎_elim (λ h. inl h) (λ h. inr (ap suc h.0, h.1)) (at_last xs i n p e)

once_more : (done : List ℕ) (i : ℕ) → Once done → is_among done i ≡ false → Once (done ++ i ∷ [])
once_more done i h new n m p a b =
    ⊎_elim
    (λ x. ⊎_elim
    (λ y. h n m p x y)
    (λ y. absurd (true≢false (sym (is_there done n p x) ∙ ap (is_among done) (sym y.1) ∙ new)))
    (at_last done i m p b))
    (λ x. ⊎_elim
    (λ y. absurd (true≢false (sym (is_there done m p y) ∙ ap (is_among done) (sym x.1) ∙ new)))
    (λ y. x.0 ∙ sym y.0)
    (at_last done i m p b))
    (at_last done i n p a)

numbered_once : (parents : List (List ℕ)) → Once (numbering parents)
numbered_once parents = kept_on Once parents (λ done i h low follows. once_more done i h (not_done parents done i follows)) [] (length parents)
    (λ n m p a b. cc)

pub sorted_by : (parents : List (List ℕ)) (o : Option ℕ) → IsStrictlySortedBy nat_cmp (option_map_or (ancestors parents) o [])
unfolding IsStrictlySortedBy
sorted_by parents None = tt
sorted_by parents (Some c) = rises-set_of nat_cmp_total (upward parents (suc c) c)

-- what differs among all classes differs among a class and its ancestors
pub differ_above : (f : ClassDecl → List (List ℕ)) (ds : Decls) → all_differ text_cmp (flat_map f ds.classes) ≡ true → (i : ℕ)
    → all_differ text_cmp (flat_map f (above ds i)) ≡ true
differ_above f ds h i =
    chosen_differ f ds.classes (numbering (parent_places ds)) h (numbered_once (parent_places ds)) (ancestor_numbers ds i) (sorted_by (parent_numbers ds)
    (number_at ds i))
