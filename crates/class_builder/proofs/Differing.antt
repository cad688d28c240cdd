-- Each class of well-formed declarations declares different operations, and so few.
use Rattle.std.proofs.Common.{◌≡◌, ℕ, zero, suc, ◌+◌, ◌<◌, ◌≤◌, Bool, true, false, not, ◌&&◌, ◌||◌, cond, nat_eq, nat_cmp, List, [], ◌∷◌, ◌++◌, length, map, slice_get, Option, Some, None, Ordering, Less, Equal, Greater, refl, sym, ap, ap₂, ◌∙◌, subst, arith, true≢false, ⊎_elim}
use Rattle.std.specs.Cmp.{IsTotalOrder}
use Rattle.std.specs.Cmp.Lexicographic.{nat_list_cmp_total, slice_cmp, texts_ties}
use Rattle.std.specs.FinMap.{nat_cmp-IsAntisymmetric, slice_cmp-IsAntisymmetric}
use Rattle.std.specs.List.{AllByRecursion, cons_option, enumerate_from, filter_map, flat_map, list_any}
use Rattle.std.specs.Ordering.{is_eq, is_gt, is_lt, ordering_reverse, ordering_then}
use Rattle.std.proofs.lemmas.Bool.Decides.{eqb_tells, nat_tests}
use Rattle.std.proofs.lemmas.Cmp.{nat_cmp_total, on_total, then_total, tied_itself}
use Rattle.std.proofs.lemmas.List.{length-map, map-append}
use Rattle.std.proofs.lemmas.List.Folds.{list_any-append}
use Rattle.use_orders.specs.Canon.{bag_of, insert_in}
use Rattle.use_orders.proofs.Bags.{Ascends, Ascends-bag_of}
use Rattle.use_orders.proofs.Sets.{equal}
use Rattle.use_text.specs.declared.place.Place.{Place}
use Rattle.class_decls.specs.declared.decls.ClassDecl.{ClassDecl}
use Rattle.class_decls.specs.declared.decls.Decls.{Decls}
use Rattle.class_decls.specs.declared.entry.Entry.{Entry}
use Rattle.class_decls.specs.declared.entry.Space.TheVariants as s
use Rattle.class_decls.specs.Entries.{again, entry_cmp, first_place, is_same_name}
use Rattle.class_decls.specs.Names.{entry, numbered}
use Rattle.class_decls.specs.Texts.{has_text, same_text}
use Rattle.class_decls.proofs.TextSets.{has_text-set_of}
use Rattle.class_rules.specs.Ancestors.{above, ancestor_numbers, class_numbered}
use Rattle.class_rules.specs.Features.{ops_of}
use Rattle.class_rules.specs.Numbering.{is_among}
use Rattle.class_rules.specs.WellFormed.{broken_rule}
use Rattle.class_model.specs.InRange.{IsInRange}
use Rattle.class_model.proofs.Named.{same_is}
use Rattle.class_model.proofs.Rows.{or_cases, self_is}
use Rattle.class_builder.specs.Models.{model_of}
use Rattle.class_builder.proofs.FewFeatures.{few_attrs, numbered_class, op_names, stands, there}
use Rattle.class_builder.proofs.Ranges.{ranges}
use Rattle.class_builder.proofs.Unbroken.{operations_differ}

-- the name of an operation, its class and its place
abbrev Key : Type 0
Key = ℕ × (List ℕ × Place)

abbrev as_entry : Key → Entry
as_entry k = record { space = s.Operations k.0; text = k.1.0; place = k.1.1 }

abbrev key_cmp : Key → Key → Ordering
key_cmp a b = entry_cmp (as_entry a) (as_entry b)

abbrev same_key : Key → Key → Bool
same_key a b = is_same_name (as_entry a) (as_entry b)

key_cmp_is : (a b : Key) → key_cmp a b ≡ ordering_then (nat_cmp a.0 b.0)
    (ordering_then (slice_cmp nat_cmp a.1.0 b.1.0) (ordering_then (nat_cmp a.1.1.line b.1.1.line) (nat_cmp a.1.1.col b.1.1.col)))
key_cmp_is a b = refl

same_key_is : (a b : Key) → same_key a b ≡ (nat_eq a.0 b.0 && same_text a.1.0 b.1.0)
same_key_is a b = refl

key_total : IsTotalOrder key_cmp
key_total =
    then_total (on_total (λ (k : Key). k.0) nat_cmp_total)
    (then_total (on_total (λ (k : Key). k.1.0) nat_list_cmp_total)
    (then_total (on_total (λ (k : Key). k.1.1.line) nat_cmp_total) (on_total (λ (k : Key). k.1.1.col) nat_cmp_total)))

not_true : (b : Bool) → (b ≡ true → ⊥) → b ≡ false
not_true true h = absurd (h refl)
not_true false h = refl

first_of : (a b : Bool) → (a && b) ≡ true → a ≡ true
first_of true b h = refl
first_of false b h = h

second_of : (a b : Bool) → (a && b) ≡ true → b ≡ true
second_of true b h = h
second_of false b h = absurd (true≢false (sym h))

both : (a b : Bool) → a ≡ true → b ≡ true → (a && b) ≡ true
both true b e f = f
both false b e f = e

number_is : (x y : ℕ) → nat_eq x y ≡ true → x ≡ y
number_is x y e = grind (arith, nat_tests)

text_self : (t : List ℕ) → same_text t t ≡ true
text_self t = texts_ties t t ∙ ap is_eq (tied_itself nat_list_cmp_total t)

first_not_greater : (r q : Ordering) → is_gt (ordering_then r q) ≡ false → is_gt r ≡ false
first_not_greater Less q e = refl
first_not_greater Equal q e = refl
first_not_greater Greater q e = e

then_not_greater : (r q : Ordering) → r ≡ Equal → is_gt (ordering_then r q) ≡ false → is_gt q ≡ false
then_not_greater Less q f e = cc
then_not_greater Equal q f e = e
then_not_greater Greater q f e = cc

squeezed : (r : Ordering) → is_gt r ≡ false → is_gt (ordering_reverse r) ≡ false → r ≡ Equal
squeezed Less e f = absurd (true≢false f)
squeezed Equal e f = refl
squeezed Greater e f = absurd (true≢false e)

-- a key between two of one name has that name
between : (i j : ℕ) (t u : List ℕ) (q r : Ordering) → is_gt (ordering_then (nat_cmp i j) (ordering_then (slice_cmp nat_cmp t u) q)) ≡ false →
    is_gt (ordering_then (nat_cmp j i) (ordering_then (slice_cmp nat_cmp u t) r)) ≡ false → (nat_eq i j && same_text t u) ≡ true
between i j t u q r e f =
    let a : nat_cmp i j ≡ Equal = squeezed (nat_cmp i j) (first_not_greater (nat_cmp i j) (ordering_then (slice_cmp nat_cmp t u) q) e)
    (ap is_gt (sym (nat_cmp_total.antisymm j i)) ∙ first_not_greater (nat_cmp j i) (ordering_then (slice_cmp nat_cmp u t) r) f) in
    let b : nat_cmp j i ≡ Equal = nat_cmp_total.antisymm j i ∙ ap ordering_reverse a in
    let c = then_not_greater (nat_cmp i j) (ordering_then (slice_cmp nat_cmp t u) q) a e in
    let d = then_not_greater (nat_cmp j i) (ordering_then (slice_cmp nat_cmp u t) r) b f in
    let g : slice_cmp nat_cmp t u ≡ Equal = squeezed (slice_cmp nat_cmp t u) (first_not_greater (slice_cmp nat_cmp t u) q c)
    (ap is_gt (sym (nat_list_cmp_total.antisymm u t)) ∙ first_not_greater (slice_cmp nat_cmp u t) r d) in
    both (nat_eq i j) (same_text t u) (ap (nat_eq i) (sym (nat_cmp-IsAntisymmetric i j a)) ∙ self_is i) (texts_ties t u ∙ ap is_eq g)

sandwich : (a b y : Key) → is_gt (key_cmp a b) ≡ false → is_gt (key_cmp b y) ≡ false → same_key a y ≡ true → same_key a b ≡ true
sandwich a b y e f g =
    let i : a.0 ≡ y.0 = number_is a.0 y.0 (first_of (nat_eq a.0 y.0) (same_text a.1.0 y.1.0) g) in
    let t : a.1.0 ≡ y.1.0 = same_is a.1.0 y.1.0 (second_of (nat_eq a.0 y.0) (same_text a.1.0 y.1.0) g) in
    between a.0 b.0 a.1.0 b.1.0 (ordering_then (nat_cmp a.1.1.line b.1.1.line) (nat_cmp a.1.1.col b.1.1.col))
    (ordering_then (nat_cmp b.1.1.line y.1.1.line) (nat_cmp b.1.1.col y.1.1.col)) e
    (subst (λ n. is_gt (ordering_then (nat_cmp b.0 n) (ordering_then (slice_cmp nat_cmp b.1.0 a.1.0)
    (ordering_then (nat_cmp b.1.1.line y.1.1.line) (nat_cmp b.1.1.col y.1.1.col)))) ≡ false) (sym i)
    (subst (λ x. is_gt (ordering_then (nat_cmp b.0 y.0)
    (ordering_then (slice_cmp nat_cmp b.1.0 x) (ordering_then (nat_cmp b.1.1.line y.1.1.line) (nat_cmp b.1.1.col y.1.1.col)))) ≡ false) (sym t) f))

map_choice : (b : Bool) (xs ys : List Key) → cond b (map as_entry xs) (map as_entry ys) ≡ map as_entry (cond b xs ys)
map_choice true xs ys = refl
map_choice false xs ys = refl

insert-map : (ys : List Key) (x : Key) → insert_in entry_cmp (map as_entry ys) (as_entry x) ≡ map as_entry (insert_in key_cmp ys x)
insert-map [] x = refl
insert-map (y ∷ ys) x =
    ap (λ l. cond (is_lt (key_cmp y x)) (as_entry y ∷ l) (as_entry x ∷ as_entry y ∷ map as_entry ys)) (insert-map ys x)
    ∙ map_choice (is_lt (key_cmp y x)) (y ∷ insert_in key_cmp ys x) (x ∷ y ∷ ys)

bag-map : (xs : List Key) → bag_of entry_cmp (map as_entry xs) ≡ map as_entry (bag_of key_cmp xs)
bag-map [] = refl
bag-map (x ∷ xs) = ap (λ l. insert_in entry_cmp l (as_entry x)) (bag-map xs) ∙ insert-map (bag_of key_cmp xs) x

apart_by : (b : Bool) (p : Place) (rest : List Place) → cond b (p ∷ rest) rest ≡ [] → (b ≡ false) × (rest ≡ [])
apart_by true p rest e = cc
apart_by false p rest e = (refl, e)

not_again : (a b : Key) (rest : List Key) → again (map as_entry (a ∷ b ∷ rest)) ≡ [] → (same_key a b ≡ false) × (again (map as_entry (b ∷ rest)) ≡ [])
not_again a b rest e = apart_by (same_key a b) b.1.1 (again (map as_entry (b ∷ rest))) e

all_not : (P : Key → Type 0) (f : Key → Bool) → ((y : Key) → P y → f y ≡ true → ⊥) → (ys : List Key) → AllByRecursion P ys → AllByRecursion
    (λ y. f y ≡ false) ys
all_not P f h [] g = tt
all_not P f h (y ∷ ys) g = (not_true (f y) (h y g.0), all_not P f h ys g.1)

-- no two keys of one name
abbrev Differ : List Key → Type 0
Differ [] = Unit {0}
Differ (a ∷ rest) = AllByRecursion (λ y. same_key a y ≡ false) rest × Differ rest

differ_next : (a b : Key) (rest : List Key) → is_gt (key_cmp a b) ≡ false → AllByRecursion (λ y. is_gt (key_cmp b y) ≡ false) rest → same_key a b ≡ false →
    AllByRecursion (λ y. same_key a y ≡ false) (b ∷ rest)
differ_next a b rest e up unlike =
    (unlike, all_not (λ y. is_gt (key_cmp b y) ≡ false) (same_key a) (λ y f g. true≢false (sym (sandwich a b y e f g) ∙ unlike)) rest up)

differ : (ks : List Key) → Ascends key_cmp ks → again (map as_entry ks) ≡ [] → Differ ks
unfolding Ascends
differ [] up e = tt
differ (a ∷ []) up e = (tt, tt)
differ (a ∷ b ∷ rest) up e =
    let n = not_again a b rest e in
    (differ_next a b rest up.0.0 up.1.0 n.0, differ (b ∷ rest) up.1 n.1)

-- how many elements pass
abbrev count : {A : Type 0} → (A → Bool) → List A → ℕ
count p [] = 0
count p (x ∷ xs) = cond (p x) 1 0 + count p xs

count_choice : (p : Key → Bool) (b : Bool) (xs ys : List Key) (n : ℕ) → count p xs ≡ n → count p ys ≡ n → count p (cond b xs ys) ≡ n
count_choice p true xs ys n e f = e
count_choice p false xs ys n e f = f

count-insert : (p : Key → Bool) (ys : List Key) (x : Key) → count p (insert_in key_cmp ys x) ≡ cond (p x) 1 0 + count p ys
count-insert p [] x = refl
count-insert p (y ∷ ys) x =
    count_choice p (is_lt (key_cmp y x)) (y ∷ insert_in key_cmp ys x) (x ∷ y ∷ ys) (cond (p x) 1 0 + count p (y ∷ ys))
    (let e = count-insert p ys x in omega arith) refl

count-bag : (p : Key → Bool) (xs : List Key) → count p (bag_of key_cmp xs) ≡ count p xs
count-bag p [] = refl
count-bag p (x ∷ xs) = count-insert p (bag_of key_cmp xs) x ∙ ap (λ n. cond (p x) 1 0 + n) (count-bag p xs)

count_none : {A : Type 0} (p : A → Bool) (xs : List A) → AllByRecursion (λ x. p x ≡ false) xs → count p xs ≡ 0
count_none p [] h = refl
count_none p (x ∷ xs) h = ap₂ (λ b n. cond b 1 0 + n) h.0 (count_none p xs h.1)

once_by : (b : Bool) (n : ℕ) → n ≤ 1 → (b ≡ true → n ≡ 0) → cond b 1 0 + n ≤ 1
once_by true n h f = let e = f refl in omega arith
once_by false n h f = omega arith

-- keys of the name of a third are of one name
turned : (k a y : Key) → same_key k a ≡ true → same_key k y ≡ true → same_key a y ≡ true
turned k a y e f =
    let i : k.0 ≡ a.0 = number_is k.0 a.0 (first_of (nat_eq k.0 a.0) (same_text k.1.0 a.1.0) e) in
    let t : k.1.0 ≡ a.1.0 = same_is k.1.0 a.1.0 (second_of (nat_eq k.0 a.0) (same_text k.1.0 a.1.0) e) in
    ap₂ (λ n x. nat_eq n y.0 && same_text x y.1.0) (sym i) (sym t) ∙ f

once : (k : Key) (ks : List Key) → Differ ks → count (same_key k) ks ≤ 1
once k [] h = omega arith
once k (a ∷ rest) h = once_by (same_key k a) (count (same_key k) rest) (once k rest h.1)
    (λ e. count_none (same_key k) rest (all_not (λ y. same_key a y ≡ false) (same_key k) (λ y f g. true≢false (sym (turned k a y e g) ∙ f)) rest h.0))

-- the keys of the operations that classes declare, counted from n
abbrev keys_from : ℕ → List ClassDecl → List Key
keys_from n classes = flat_map (λ p. map (λ op. (p.0, (op.name.text, op.name.place))) p.1.ops) (enumerate_from n classes)

map_join : {A B C : Type 0} (f : B → C) (g : A → List B) (h : A → List C) → ((x : A) → map f (g x) ≡ h x) → (xs : List A) → map f (flat_map g xs)
    ≡ flat_map h xs
map_join f g h e [] = refl
map_join f g h e (x ∷ xs) = map-append f (g x) (flat_map g xs) ∙ ap₂ (λ a b. a ++ b) (e x) (map_join f g h e xs)

map_twice : {A B C : Type 0} (f : B → C) (g : A → B) (xs : List A) → map f (map g xs) ≡ map (λ x. f (g x)) xs
map_twice f g [] = refl
map_twice f g (x ∷ xs) = ap (λ l. f (g x) ∷ l) (map_twice f g xs)

entries_are : (classes : List ClassDecl) → map as_entry (keys_from 0 classes) ≡ numbered (λ i c. map (λ op. entry (s.Operations i) op.name) c.ops) classes
entries_are classes =
    map_join as_entry (λ p. map (λ op. (p.0, (op.name.text, op.name.place))) p.1.ops) (λ p. map (λ op. entry (s.Operations p.0) op.name) p.1.ops)
    (λ p. map_twice as_entry (λ op. (p.0, (op.name.text, op.name.place))) p.1.ops) (enumerate_from 0 classes)

count-append : {A : Type 0} (p : A → Bool) (xs ys : List A) → count p (xs ++ ys) ≡ count p xs + count p ys
count-append p [] ys = omega arith
count-append p (x ∷ xs) ys = let e = count-append p xs ys in omega arith

count-map : {A B : Type 0} (p : B → Bool) (q : A → Bool) (f : A → B) → ((x : A) → q x ≡ p (f x)) → (xs : List A) → count q xs ≡ count p (map f xs)
count-map p q f h [] = refl
count-map p q f h (x ∷ xs) = ap₂ (λ b n. cond b 1 0 + n) (h x) (count-map p q f h xs)

-- a name stands no oftener in a class than its key among all
own_count : (t : List ℕ) (q : Place) (n : ℕ) (classes : List ClassDecl) (i : ℕ) (d : ClassDecl) → slice_get classes i ≡ Some d →
    count (same_text t) (map (λ op. op.name.text) d.ops) ≤ count (same_key (n + i, (t, q))) (keys_from n classes)
own_count t q n [] i d e = cc
own_count t q n (c ∷ cs) zero d e =
    let k : c ≡ d = cc in
    let z : n + 0 ≡ n = omega arith in
    let own : Key → Bool = same_key (n + 0, (t, q)) in
    let a = count-append own (map (λ op. (n, (op.name.text, op.name.place))) c.ops) (keys_from (n + 1) cs) in
    let b : count (same_text t) (map (λ op. op.name.text) c.ops) ≡ count own (map (λ op. (n, (op.name.text, op.name.place))) c.ops) =
    sym (count-map (same_text t) (λ op. same_text t op.name.text) (λ op. op.name.text) (λ op. refl) c.ops)
    ∙ count-map own (λ op. same_text t op.name.text) (λ op. (n, (op.name.text, op.name.place)))
    (λ op. ap (λ x. x && same_text t op.name.text) (sym (ap (λ j. nat_eq j n) z ∙ self_is n))) c.ops in
    let f : count (same_text t) (map (λ op. op.name.text) c.ops) ≡ count (same_text t) (map (λ op. op.name.text) d.ops) = ap
    (λ (x : ClassDecl). count (same_text t) (map (λ op. op.name.text) x.ops)) k in
    omega arith
own_count t q n (c ∷ cs) (suc i) d e =
    let z : n + suc i ≡ (n + 1) + i = omega arith in
    let a = count-append (same_key ((n + 1) + i, (t, q))) (map (λ op. (n, (op.name.text, op.name.place))) c.ops) (keys_from (n + 1) cs) in
    let b = own_count t q (n + 1) cs i d e in
    subst (λ j. count (same_text t) (map (λ op. op.name.text) d.ops) ≤ count (same_key (j, (t, q))) (keys_from n (c ∷ cs))) (sym z) (omega arith)

-- different texts that are all among others are no more than these
abbrev remove_one : List ℕ → List (List ℕ) → List (List ℕ)
remove_one t [] = []
remove_one t (x ∷ xs) = cond (same_text x t) xs (x ∷ remove_one t xs)

or_later : (a b : Bool) → b ≡ true → (a || b) ≡ true
or_later true b e = refl
or_later false b e = e

removed_by : (b : Bool) (x : List ℕ) (xs rest : List (List ℕ)) → (b ≡ false → length xs ≡ suc (length rest)) → suc (length xs) ≡ suc
    (length (cond b xs (x ∷ rest)))
removed_by true x xs rest h = refl
removed_by false x xs rest h = ap suc (h refl)

kept_by : (b : Bool) (x : List ℕ) (xs rest : List (List ℕ)) (u : List ℕ) → (b ≡ true → has_text xs u ≡ true) → has_text (x ∷ rest) u ≡ true → has_text
    (cond b xs (x ∷ rest)) u ≡ true
kept_by true x xs rest u h g = h refl
kept_by false x xs rest u h g = g

removed_length : (t : List ℕ) (xs : List (List ℕ)) → has_text xs t ≡ true → length xs ≡ suc (length (remove_one t xs))
removed_length t [] h = absurd (true≢false (sym h))
removed_length t (x ∷ xs) h = removed_by (same_text x t) x xs (remove_one t xs) (λ no. removed_length t xs (sym (ap (λ b. b || has_text xs t) no) ∙ h))

kept_text : (t u : List ℕ) (xs : List (List ℕ)) → same_text t u ≡ false → has_text xs u ≡ true → has_text (remove_one t xs) u ≡ true
kept_text t u [] unlike h = h
kept_text t u (x ∷ xs) unlike h =
    kept_by (same_text x t) x xs (remove_one t xs) u
    (λ e. sym (ap (λ b. b || has_text xs u) (ap (λ y. same_text y u) (same_is x t e) ∙ unlike)) ∙ h)
    (or_cases (same_text x u) (has_text xs u) (λ e. ap (λ b. b || has_text (remove_one t xs) u) e)
    (λ e. or_later (same_text x u) (has_text (remove_one t xs) u) (kept_text t u xs unlike e)) h)

one_if : (b : Bool) → b ≡ true → cond {A = ℕ} b 1 0 ≡ 1
one_if true e = refl
one_if false e = absurd (true≢false (sym e))

counted : (t : List ℕ) (xs : List (List ℕ)) → has_text xs t ≡ true → 0 < count (same_text t) xs
counted t [] h = absurd (true≢false (sym h))
counted t (x ∷ xs) h =
    or_cases (same_text x t) (has_text xs t)
    (λ e. let k : same_text t x ≡ true = ap (same_text t) (same_is x t e) ∙ text_self t in let n = one_if (same_text t x) k in omega arith)
    (λ e. let k = counted t xs e in omega arith) h

absent : (w t : List ℕ) (ws : List (List ℕ)) → same_text w t ≡ true → has_text ws t ≡ true → count (same_text w) ws ≡ 0 → ⊥
absent w t ws e h none =
    let k : has_text ws w ≡ true = ap (has_text ws) (same_is w t e) ∙ h in
    let c = counted w ws k in
    omega arith

pigeon : (ws xs : List (List ℕ)) → ((t : List ℕ) → count (same_text t) ws ≤ 1) → ((t : List ℕ) → has_text ws t ≡ true → has_text xs t ≡ true) →
    length ws ≤ length xs
pigeon [] xs one within = omega arith
pigeon (w ∷ ws) xs one within =
    let there : has_text xs w ≡ true = within w (ap (λ b. b || has_text ws w) (text_self w)) in
    let size = removed_length w xs there in
    let none : count (same_text w) ws ≡ 0 = (let k = one w in let n = one_if (same_text w w) (text_self w) in omega arith) in
    let rest = pigeon ws (remove_one w xs) (λ t. let k = one t in omega arith)
    (λ t h. kept_text w t xs (not_true (same_text w t) (λ e. absent w t ws e h none)) (within t (or_later (same_text w t) (has_text ws t) h))) in
    omega arith

has-append : (xs ys : List (List ℕ)) (t : List ℕ) → has_text (xs ++ ys) t ≡ (has_text xs t || has_text ys t)
has-append xs ys t = list_any-append (λ y. same_text y t) xs ys

here_has : (f : ClassDecl → List (List ℕ)) (d : ClassDecl) (o : Option ClassDecl) (xs : List ClassDecl) (t : List ℕ) → o ≡ Some d → has_text (f d) t ≡ true →
    has_text (flat_map f (cons_option o xs)) t ≡ true
here_has f d None xs t e h = cc
here_has f d (Some x) xs t e h =
    let k : x ≡ d = cc in
    has-append (f x) (flat_map f xs) t ∙ ap (λ b. b || has_text (flat_map f xs) t) (ap (λ y. has_text (f y) t) k ∙ h)

later_has : (f : ClassDecl → List (List ℕ)) (o : Option ClassDecl) (xs : List ClassDecl) (t : List ℕ) → has_text (flat_map f xs) t ≡ true → has_text
    (flat_map f (cons_option o xs)) t ≡ true
later_has f None xs t h = h
later_has f (Some x) xs t h = has-append (f x) (flat_map f xs) t ∙ or_later (has_text (f x) t) (has_text (flat_map f xs) t) h

-- the texts that a class declares are among those of all its classes
joined_has : (g : ℕ → Option ClassDecl) (f : ClassDecl → List (List ℕ)) (ns : List ℕ) (c : ℕ) (d : ClassDecl) (t : List ℕ) → is_among ns c ≡ true → g c
    ≡ Some d → has_text (f d) t ≡ true →
    has_text (flat_map f (filter_map g ns)) t ≡ true
joined_has g f [] c d t e h i = absurd (true≢false (sym e))
joined_has g f (n ∷ ns) c d t e h i =
    or_cases (nat_eq c n) (is_among ns c)
    (λ a. here_has f d (g n) (filter_map g ns) t (ap g (sym (number_is c n a)) ∙ h) i)
    (λ a. later_has f (g n) (filter_map g ns) t (joined_has g f ns c d t a h i)) e

nothing_first : (ps : List Place) → first_place ps ≡ None → ps ≡ []
nothing_first [] e = refl
nothing_first (p ∷ ps) e = cc

module _ (ds : Decls) (ok : broken_rule ds ≡ None) where
  no_twice : again (map as_entry (bag_of key_cmp (keys_from 0 ds.classes))) ≡ []
  no_twice =
      ap again (sym (bag-map (keys_from 0 ds.classes)) ∙ ap (bag_of entry_cmp) (entries_are ds.classes))
      ∙ nothing_first (again (bag_of entry_cmp (numbered (λ i c. map (λ op. entry (s.Operations i) op.name) c.ops) ds.classes))) (operations_differ ds ok)

  key_once : (k : Key) → count (same_key k) (keys_from 0 ds.classes) ≤ 1
  key_once k =
      let a = once k (bag_of key_cmp (keys_from 0 ds.classes))
      (differ (bag_of key_cmp (keys_from 0 ds.classes)) (Ascends-bag_of key_cmp key_total (keys_from 0 ds.classes)) no_twice) in
      let b = count-bag (same_key k) (keys_from 0 ds.classes) in
      omega arith

  few_ops : (i : ℕ) (d : ClassDecl) → slice_get ds.classes i ≡ Some d → length d.ops ≤ 64
  few_ops i d is =
      let f : ClassDecl → List (List ℕ) = λ c. map (λ op. op.name.text) c.ops in
      let z : 0 + i ≡ i = omega arith in
      let p = pigeon (f d) (ops_of (above ds i))
      (λ t. let a = own_count t (record { line = 0; col = 0 }) 0 ds.classes i d is in let b = key_once (0 + i, (t, record { line = 0; col = 0 })) in
      omega arith)
      (λ t h. has_text-set_of (flat_map f (above ds i)) (ops_of (above ds i)) t refl
      ∙ joined_has (class_numbered ds) f (ancestor_numbers ds i) (stands ds ok i d is).at d t (there ds ok i d is) (numbered_class ds ok i d is) h) in
      let l = length-map d.ops (λ op. op.name.text) in
      let n = op_names ds ok i d is in
      omega arith

pub in_range : (ds : Decls) → broken_rule ds ≡ None → IsInRange (model_of ds)
in_range ds ok = ranges ds ok (few_attrs ds ok) (few_ops ds ok)
