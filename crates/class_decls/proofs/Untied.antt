-- Names no two of which are the same: none of them is declared again.
use Rattle.std.proofs.Common.{◌≡◌, ℕ, ◌+◌, ◌≤◌, ◌<◌, Bool, true, false, not, ◌&&◌, ◌||◌, List, [], ◌∷◌, ◌++◌, map, nat_eq, None, refl, sym, ap, ap₂, ◌∙◌, map-id, true≢false, arith}
use Rattle.std.specs.Cmp.Lexicographic.{nat_list_eq_equiv}
use Rattle.std.specs.List.{AllByRecursion, enumerate_from, flat_map, list_all}
use Rattle.std.specs.Ordering.{is_lt}
use Rattle.std.proofs.lemmas.Bool.{cond_both, ne_eqb}
use Rattle.use_orders.specs.Canon.{bag_of, insert_in}
use Rattle.use_orders.proofs.Bags.{all-insert_in, all_weaker}
use Rattle.class_decls.specs.declared.decls.CondKind.{CondKind}
use Rattle.class_decls.specs.declared.decls.CondKind.TheVariants.{Inv, Pre, Post}
use Rattle.class_decls.specs.declared.decls.Decls.{Decls}
use Rattle.class_decls.specs.declared.decls.EnumDecl.{EnumDecl}
use Rattle.class_decls.specs.declared.decls.OpDecl.{OpDecl}
use Rattle.class_decls.specs.declared.entry.Entry.{Entry}
use Rattle.class_decls.specs.declared.entry.Space.{Space}
use Rattle.class_decls.specs.declared.entry.Space.TheVariants.{Contracts, Invariants, Literals, Operations, Parameters, Parents, Types}
use Rattle.class_decls.specs.contracts.entry.SpacePartialEq.TheImpl.{ghosts as space_ghosts}
use Rattle.class_decls.specs.Different.{all_differ, names_differ, param_texts, type_texts}
use Rattle.class_decls.specs.Entries.{again, again_from, declared_again, entry_cmp, first_place, is_same_name}
use Rattle.class_decls.specs.Names.{cond_entries, cond_space, entry, given, heads, literal_entries, name_declared_twice, param_entries, params_of, type_entries}
use Rattle.class_decls.specs.Texts.{bound_names, has_text, plain_types, same_text}

both_true : (a b : Bool) → (a && b) ≡ true → (a ≡ true) × (b ≡ true)
both_true true b h = (refl, h)
both_true false b h = absurd (true≢false (sym h))

both_false : (a b : Bool) → (a || b) ≡ false → (a ≡ false) × (b ≡ false)
both_false true b h = absurd (true≢false h)
both_false false b h = (refl, h)

not_true : (a : Bool) → not a ≡ true → a ≡ false
not_true true h = absurd (true≢false (sym h))
not_true false h = refl

and_false : (a b : Bool) → b ≡ false → (a && b) ≡ false
and_false true b h = h
and_false false b h = refl

unequal : (i j : ℕ) → i < j → nat_eq i j ≡ false
unequal i j h = ne_eqb i j (λ e. omega (arith, h, e))

unequal_back : (i j : ℕ) → i < j → nat_eq j i ≡ false
unequal_back i j h = ne_eqb j i (λ e. omega (arith, h, e))

abbrev Apart : Space → Space → Type 0
Apart a b = (space_ghosts.eq a b ≡ false) × (space_ghosts.eq b a ≡ false)

abbrev Differ : Entry → Entry → Type 0
Differ a b = (is_same_name a b ≡ false) × (is_same_name b a ≡ false)

abbrev Untied : List Entry → Type 0
Untied [] = Unit {0}
Untied (e ∷ es) = AllByRecursion (Differ e) es × Untied es

abbrev tag : Space → ℕ
tag Types = 0
tag (Literals i) = 1
tag (Parameters i) = 2
tag (Invariants c) = 3
tag (Contracts c o) = 3
tag (Parents i) = 4
tag (Operations i) = 5

apart_tags : (a b : Space) → tag a < tag b → Apart a b
apart_tags Types Types h = absurd (omega arith)
apart_tags Types (Literals i2) h = (refl, refl)
apart_tags Types (Parameters i2) h = (refl, refl)
apart_tags Types (Invariants c2) h = (refl, refl)
apart_tags Types (Contracts c2 o2) h = (refl, refl)
apart_tags Types (Parents i2) h = (refl, refl)
apart_tags Types (Operations i2) h = (refl, refl)
apart_tags (Literals i) Types h = absurd (omega arith)
apart_tags (Literals i) (Literals i2) h = absurd (omega arith)
apart_tags (Literals i) (Parameters i2) h = (refl, refl)
apart_tags (Literals i) (Invariants c2) h = (refl, refl)
apart_tags (Literals i) (Contracts c2 o2) h = (refl, refl)
apart_tags (Literals i) (Parents i2) h = (refl, refl)
apart_tags (Literals i) (Operations i2) h = (refl, refl)
apart_tags (Parameters i) Types h = absurd (omega arith)
apart_tags (Parameters i) (Literals i2) h = absurd (omega arith)
apart_tags (Parameters i) (Parameters i2) h = absurd (omega arith)
apart_tags (Parameters i) (Invariants c2) h = (refl, refl)
apart_tags (Parameters i) (Contracts c2 o2) h = (refl, refl)
apart_tags (Parameters i) (Parents i2) h = (refl, refl)
apart_tags (Parameters i) (Operations i2) h = (refl, refl)
apart_tags (Invariants c) Types h = absurd (omega arith)
apart_tags (Invariants c) (Literals i2) h = absurd (omega arith)
apart_tags (Invariants c) (Parameters i2) h = absurd (omega arith)
apart_tags (Invariants c) (Invariants c2) h = absurd (omega arith)
apart_tags (Invariants c) (Contracts c2 o2) h = absurd (omega arith)
apart_tags (Invariants c) (Parents i2) h = (refl, refl)
apart_tags (Invariants c) (Operations i2) h = (refl, refl)
apart_tags (Contracts c o) Types h = absurd (omega arith)
apart_tags (Contracts c o) (Literals i2) h = absurd (omega arith)
apart_tags (Contracts c o) (Parameters i2) h = absurd (omega arith)
apart_tags (Contracts c o) (Invariants c2) h = absurd (omega arith)
apart_tags (Contracts c o) (Contracts c2 o2) h = absurd (omega arith)
apart_tags (Contracts c o) (Parents i2) h = (refl, refl)
apart_tags (Contracts c o) (Operations i2) h = (refl, refl)
apart_tags (Parents i) Types h = absurd (omega arith)
apart_tags (Parents i) (Literals i2) h = absurd (omega arith)
apart_tags (Parents i) (Parameters i2) h = absurd (omega arith)
apart_tags (Parents i) (Invariants c2) h = absurd (omega arith)
apart_tags (Parents i) (Contracts c2 o2) h = absurd (omega arith)
apart_tags (Parents i) (Parents i2) h = absurd (omega arith)
apart_tags (Parents i) (Operations i2) h = (refl, refl)
apart_tags (Operations i) Types h = absurd (omega arith)
apart_tags (Operations i) (Literals i2) h = absurd (omega arith)
apart_tags (Operations i) (Parameters i2) h = absurd (omega arith)
apart_tags (Operations i) (Invariants c2) h = absurd (omega arith)
apart_tags (Operations i) (Contracts c2 o2) h = absurd (omega arith)
apart_tags (Operations i) (Parents i2) h = absurd (omega arith)
apart_tags (Operations i) (Operations i2) h = absurd (omega arith)

all_join : {X : Type 0} (P : X → Type 0) (xs ys : List X) → AllByRecursion P xs → AllByRecursion P ys → AllByRecursion P (xs ++ ys)
all_join P [] ys h k = k
all_join P (x ∷ xs) ys h k = (h.0, all_join P xs ys h.1 k)

all_map : {X Y : Type 0} (P : Y → Type 0) (f : X → Y) → ((x : X) → P (f x)) → (xs : List X) → AllByRecursion P (map f xs)
all_map P f h [] = tt
all_map P f h (x ∷ xs) = (h x, all_map P f h xs)

all_true : {X : Type 0} (test : X → Bool) (xs : List X) → list_all test xs ≡ true → AllByRecursion (λ x. test x ≡ true) xs
all_true test [] h = tt
all_true test (x ∷ xs) h = let p = both_true (test x) (list_all test xs) h in (p.0, all_true test xs p.1)

-- lists of names that stay apart make one
joined : (cs bs : List Entry) → Untied cs → Untied bs → AllByRecursion (λ a. AllByRecursion (Differ a) bs) cs → Untied (cs ++ bs)
joined [] bs p q c = q
joined (a ∷ cs) bs p q c = (all_join (Differ a) cs bs p.0 c.0, joined cs bs p.1 q c.1)

differ_by_space : (a b : Entry) → Apart a.space b.space → Differ a b
differ_by_space a b h = (ap (λ x. x && same_text a.text b.text) h.0, ap (λ x. x && same_text b.text a.text) h.1)

crossed : (P Q : Space → Type 0) → ((a b : Space) → P a → Q b → Apart a b) → (cs bs : List Entry) → AllByRecursion (λ e. P e.space) cs → AllByRecursion (λ e. Q e.space) bs →
    AllByRecursion (λ a. AllByRecursion (Differ a) bs) cs
crossed P Q h cs bs p q =
    all_weaker (λ e. P e.space) (λ a. AllByRecursion (Differ a) bs)
    (λ a r. all_weaker (λ e. Q e.space) (Differ a) (λ b s. differ_by_space a b (h a.space b.space r s)) bs q) cs p

by_tags : (k : ℕ) (cs bs : List Entry) → Untied cs → Untied bs → AllByRecursion (λ e. tag e.space < k) cs → AllByRecursion (λ e. tag e.space ≡ k) bs → Untied (cs ++ bs)
by_tags k cs bs u v p q = joined cs bs u v (crossed (λ s. tag s < k) (λ s. tag s ≡ k) (λ a b r s. apart_tags a b (omega (arith, r, s))) cs bs p q)

-- texts tell names apart
none_among : (e : Entry) (es : List Entry) → has_text (map (λ x. x.text) es) e.text ≡ false → AllByRecursion (Differ e) es
none_among e [] h = tt
none_among e (x ∷ xs) h =
    let p = both_false (same_text x.text e.text) (has_text (map (λ y. y.text) xs) e.text) h in (
      (
        and_false (space_ghosts.eq e.space x.space) (same_text e.text x.text) (nat_list_eq_equiv.symm e.text x.text ∙ p.0),
        and_false (space_ghosts.eq x.space e.space) (same_text x.text e.text) p.0,
      ),
      none_among e xs p.1,
    )

by_texts : (es : List Entry) → all_differ (map (λ x. x.text) es) ≡ true → Untied es
by_texts [] h = tt
by_texts (e ∷ es) h =
    let p = both_true (not (has_text (map (λ x. x.text) es) e.text)) (all_differ (map (λ x. x.text) es)) h in
    (none_among e es (not_true (has_text (map (λ x. x.text) es) e.text) p.0), by_texts es p.1)

-- names of spaces that are counted
module _ {X : Type 0} (f : ℕ → X → List Entry) where
  abbrev from : ℕ → List X → List Entry
  from n xs = flat_map (λ p. f p.0 p.1) (enumerate_from n xs)

  all_from : (P : Entry → Type 0) → ((i : ℕ) (x : X) → AllByRecursion P (f i x)) → (n : ℕ) (xs : List X) → AllByRecursion P (from n xs)
  all_from P h n [] = tt
  all_from P h n (x ∷ xs) = all_join P (f n x) (from (n + 1) xs) (h n x) (all_from P h (n + 1) xs)

  module _ (space : ℕ → Space) (others : (i j : ℕ) → i < j → Apart (space i) (space j)) (own : (i : ℕ) (x : X) → AllByRecursion (λ e. e.space ≡ space i) (f i x)) where
    abbrev Later : ℕ → Space → Type 0
    Later n s = (j : ℕ) × (n ≤ j) × (s ≡ space j)

    later : (n : ℕ) (xs : List X) → AllByRecursion (λ e. Later n e.space) (from n xs)
    later n [] = tt
    later n (x ∷ xs) =
        all_join (λ e. Later n e.space) (f n x) (from (n + 1) xs)
        (all_weaker (λ e. e.space ≡ space n) (λ e. Later n e.space) (λ e h. (n, omega arith, h)) (f n x) (own n x))
        (all_weaker (λ e. Later (n + 1) e.space) (λ e. Later n e.space) (λ e h. (h.0, omega (arith, h.1), h.2)) (from (n + 1) xs) (later (n + 1) xs))

    counted : (Ok : X → Type 0) → ((i : ℕ) (x : X) → Ok x → Untied (f i x)) → (n : ℕ) (xs : List X) → AllByRecursion Ok xs → Untied (from n xs)
    counted Ok h n [] a = tt
    counted Ok h n (x ∷ xs) a =
        joined (f n x) (from (n + 1) xs) (h n x a.0) (counted Ok h (n + 1) xs a.1)
        (crossed (λ s. s ≡ space n) (Later (n + 1))
        (λ s t p q. rw (p, q.2) (others n q.0 (omega (arith, q.1))))
        (f n x) (from (n + 1) xs) (own n x) (later (n + 1) xs))

-- in order, they are cs far apart
untied_in : (ys : List Entry) (x : Entry) → AllByRecursion (Differ x) ys → Untied ys → Untied (insert_in entry_cmp ys x)
untied_in [] x d u = (tt, tt)
untied_in (y ∷ ys) x d u =
    cond_both (is_lt (entry_cmp y x)) (y ∷ insert_in entry_cmp ys x) (x ∷ y ∷ ys) Untied
    (λ _. (all-insert_in entry_cmp (Differ y) ys x (d.0.1, d.0.0) u.0, untied_in ys x d.1 u.1))
    (λ _. (d, u))

all_bag : (P : Entry → Type 0) (xs : List Entry) → AllByRecursion P xs → AllByRecursion P (bag_of entry_cmp xs)
all_bag P [] h = tt
all_bag P (x ∷ xs) h = all-insert_in entry_cmp P (bag_of entry_cmp xs) x h.0 (all_bag P xs h.1)

untied_bag : (xs : List Entry) → Untied xs → Untied (bag_of entry_cmp xs)
untied_bag [] u = tt
untied_bag (x ∷ xs) u = untied_in (bag_of entry_cmp xs) x (all_bag (Differ x) xs u.0) (untied_bag xs u.1)

none_from : (a : Entry) (rest : List Entry) → Untied (a ∷ rest) → again_from a rest ≡ []
none_from a [] u = refl
none_from a (b ∷ rest) u = rw u.0.0.0 (none_from b rest u.1)

none_again : (xs : List Entry) → Untied xs → again xs ≡ []
none_again [] u = refl
none_again (x ∷ xs) u = none_from x xs u

-- none is declared again
undeclared : (xs : List Entry) → Untied xs → declared_again xs ≡ None
undeclared xs u = ap first_place (none_again (bag_of entry_cmp xs) (untied_bag xs u))

-- the names of a model
texts_of : {X : Type 0} (f : X → Entry) (g : X → List ℕ) → ((x : X) → (f x).text ≡ g x) → (xs : List X) → map (λ e. e.text) (map f xs) ≡ map g xs
texts_of f g h [] = refl
texts_of f g h (x ∷ xs) = ap₂ (λ a b. a ∷ b) (h x) (texts_of f g h xs)

joined_texts : (cs bs : List Entry) → map (λ e. e.text) (cs ++ bs) ≡ map (λ e. e.text) cs ++ map (λ e. e.text) bs
joined_texts [] bs = refl
joined_texts (a ∷ cs) bs = ap (λ l. a.text ∷ l) (joined_texts cs bs)

cond_tag : (heads : List OpDecl) (class : List ℕ) (kind : CondKind) → tag (cond_space heads class kind) ≡ 3
cond_tag heads class Inv = refl
cond_tag heads class (Pre op) = refl
cond_tag heads class (Post op) = refl

literals_apart : (i j : ℕ) → i < j → Apart (Literals i) (Literals j)
literals_apart i j h = (unequal i j h, unequal_back i j h)

params_apart : (i j : ℕ) → i < j → Apart (Parameters i) (Parameters j)
params_apart i j h = (unequal i j h, unequal_back i j h)

module _ (ds : Decls) where
  tagged : {X : Type 0} (k : ℕ) (f : X → Entry) → ((x : X) → tag (f x).space ≡ k) → (xs : List X) → AllByRecursion (λ e. tag e.space ≡ k) (map f xs)
  tagged k = all_map (λ e. tag e.space ≡ k)

  type_tags : AllByRecursion (λ e. tag e.space ≡ 0) (type_entries ds)
  type_tags =
      let E = map (λ e. entry Types e.name) ds.enums in
      let C = map (λ c. entry Types c.name) ds.classes in
      let A = map (λ a. entry Types a.name) ds.assocs in
      let G = map (given Types) plain_types in
      all_join (λ e. tag e.space ≡ 0) (G ++ E ++ C) A
      (all_join (λ e. tag e.space ≡ 0) (G ++ E) C
      (all_join (λ e. tag e.space ≡ 0) G E (tagged 0 (given Types) (λ x. refl) plain_types) (tagged 0 (λ e. entry Types e.name) (λ x. refl) ds.enums))
      (tagged 0 (λ c. entry Types c.name) (λ x. refl) ds.classes))
      (tagged 0 (λ a. entry Types a.name) (λ x. refl) ds.assocs)

  literal_tags : AllByRecursion (λ e. tag e.space ≡ 1) (literal_entries ds)
  literal_tags = all_from (λ i e. map (entry (Literals i)) e.literals) (λ e. tag e.space ≡ 1) (λ i e. tagged 1 (entry (Literals i)) (λ x. refl) e.literals) 0 ds.enums

  param_tags : AllByRecursion (λ e. tag e.space ≡ 2) (param_entries ds)
  param_tags =
      all_from params_of (λ e. tag e.space ≡ 2)
      (λ i op. all_join (λ e. tag e.space ≡ 2) (map (given (Parameters i)) bound_names) _ (tagged 2 (given (Parameters i)) (λ x. refl) bound_names)
      (tagged 2 (λ p. entry (Parameters i) p.name) (λ x. refl) op.params)) 0 (heads ds)

  cond_tags : AllByRecursion (λ e. tag e.space ≡ 3) (cond_entries ds)
  cond_tags = tagged 3 (λ c. entry (cond_space ds.context_heads c.class.text c.kind) c.name) (λ c. cond_tag ds.context_heads c.class.text c.kind) ds.conds

  type_texts_are : map (λ e. e.text) (type_entries ds) ≡ type_texts ds
  type_texts_are =
      let E = map (λ e. entry Types e.name) ds.enums in
      let C = map (λ c. entry Types c.name) ds.classes in
      let A = map (λ a. entry Types a.name) ds.assocs in
      let G = map (given Types) plain_types in
      joined_texts (G ++ E ++ C) A
      ∙ ap₂ (λ x y. x ++ y)
      (joined_texts (G ++ E) C
      ∙ ap₂ (λ x y. x ++ y)
      (joined_texts G E
      ∙ ap₂ (λ x y. x ++ y) (texts_of (given Types) (λ t. t) (λ t. refl) plain_types ∙ map-id plain_types)
      (texts_of (λ e. entry Types e.name) (λ e. e.name.text) (λ e. refl) ds.enums))
      (texts_of (λ c. entry Types c.name) (λ c. c.name.text) (λ c. refl) ds.classes))
      (texts_of (λ a. entry Types a.name) (λ a. a.name.text) (λ a. refl) ds.assocs)

  literals_untied : (i : ℕ) (e : EnumDecl) → all_differ (map (λ l. l.text) e.literals) ≡ true → Untied (map (entry (Literals i)) e.literals)
  literals_untied i e h = by_texts (map (entry (Literals i)) e.literals) (ap all_differ (texts_of (entry (Literals i)) (λ l. l.text) (λ l. refl) e.literals) ∙ h)

  params_untied : (i : ℕ) (op : OpDecl) → all_differ (param_texts op) ≡ true → Untied (params_of i op)
  params_untied i op h =
      by_texts (params_of i op)
      (ap all_differ
      (joined_texts (map (given (Parameters i)) bound_names) (map (λ p. entry (Parameters i) p.name) op.params)
      ∙ ap₂ (λ x y. x ++ y) (texts_of (given (Parameters i)) (λ t. t) (λ t. refl) bound_names ∙ map-id bound_names)
      (texts_of (λ p. entry (Parameters i) p.name) (λ p. p.name.text) (λ p. refl) op.params)) ∙ h)

  own_literals : (i : ℕ) (e : EnumDecl) → AllByRecursion (λ x. x.space ≡ Literals i) (map (entry (Literals i)) e.literals)
  own_literals i e = all_map (λ x. x.space ≡ Literals i) (entry (Literals i)) (λ l. refl) e.literals

  own_params : (i : ℕ) (op : OpDecl) → AllByRecursion (λ x. x.space ≡ Parameters i) (params_of i op)
  own_params i op =
      all_join (λ x. x.space ≡ Parameters i) (map (given (Parameters i)) bound_names) _
      (all_map (λ x. x.space ≡ Parameters i) (given (Parameters i)) (λ t. refl) bound_names)
      (all_map (λ x. x.space ≡ Parameters i) (λ p. entry (Parameters i) p.name) (λ p. refl) op.params)

  below : (k n : ℕ) (es : List Entry) → n < k → AllByRecursion (λ e. tag e.space ≡ n) es → AllByRecursion (λ e. tag e.space < k) es
  below k n es h = all_weaker (λ e. tag e.space ≡ n) (λ e. tag e.space < k) (λ e q. omega (arith, h, q)) es

  -- names that are told apart by their texts alone
  pub none_twice : names_differ ds ≡ true → name_declared_twice ds ≡ None
  none_twice h =
      let T = type_entries ds in
      let L = literal_entries ds in
      let P = param_entries ds in
      let C = cond_entries ds in
      let t = all_differ (type_texts ds) in
      let l = list_all (λ e. all_differ (map (λ x. x.text) e.literals)) ds.enums in
      let p = list_all (λ op. all_differ (param_texts op)) (heads ds) in
      let c = all_differ (map (λ x. x.name.text) ds.conds) in
      let s = both_true (t && l && p) c h in
      let s2 = both_true (t && l) p s.0 in
      let s3 = both_true t l s2.0 in
      let types : Untied T = by_texts T (ap all_differ type_texts_are ∙ s3.0) in
      let literals : Untied L = counted (λ i e. map (entry (Literals i)) e.literals) Literals literals_apart own_literals
      (λ e. all_differ (map (λ x. x.text) e.literals) ≡ true) literals_untied 0 ds.enums (all_true (λ e. all_differ (map (λ x. x.text) e.literals)) ds.enums s3.1) in
      let params : Untied P = counted params_of Parameters params_apart own_params
      (λ op. all_differ (param_texts op) ≡ true) params_untied 0 (heads ds) (all_true (λ op. all_differ (param_texts op)) (heads ds) s2.1) in
      let conds : Untied C = by_texts C
      (ap all_differ (texts_of (λ x. entry (cond_space ds.context_heads x.class.text x.kind) x.name) (λ x. x.name.text) (λ x. refl) ds.conds) ∙ s.1) in
      let two : Untied (T ++ L) = by_tags 1 T L types literals (below 1 0 T (omega arith) type_tags) literal_tags in
      let three : Untied (T ++ L ++ P) = by_tags 2 (T ++ L) P two params
      (all_join (λ e. tag e.space < 2) T L (below 2 0 T (omega arith) type_tags) (below 2 1 L (omega arith) literal_tags)) param_tags in
      let all : Untied (T ++ L ++ P ++ C) = by_tags 3 (T ++ L ++ P) C three conds
      (all_join (λ e. tag e.space < 3) (T ++ L) P
      (all_join (λ e. tag e.space < 3) T L (below 3 0 T (omega arith) type_tags) (below 3 1 L (omega arith) literal_tags))
      (below 3 2 P (omega arith) param_tags)) cond_tags in
      undeclared (T ++ L ++ P ++ C) all
