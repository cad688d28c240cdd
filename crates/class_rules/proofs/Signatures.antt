-- Operations of one name that all have the same signature.
use Rattle.std.proofs.Common.{◌≡◌, ℕ, zero, suc, ◌+◌, ◌<◌, ◌≤◌, get_or, Bool, true, false, not, ◌&&◌, ◌||◌, nat_eq, List, [], ◌∷◌, ◌++◌, length, map, filter, find, cond, nat_lt, unwrap_or, slice_get, Option, Some, None, refl, sym, ap, ap₂, ◌∙◌, arith, true≢false, ⊎_elim}
use Rattle.std.specs.Cmp.Lexicographic.{pointwise}
use Rattle.std.specs.List.{cons_option, filter_map, list_all, list_any, position_from}
use Rattle.std.specs.Option.{option_and_then, option_eq, option_map, option_map_or, option_or}
use Rattle.std.proofs.lemmas.Bool.{cases_Bool}
use Rattle.std.proofs.lemmas.Bool.Decides.{eqb_tells}
use Rattle.ocl_values.specs.declared.value.Kind.{Kind}
use Rattle.ocl_values.specs.declared.value.Kind.TheVariants as v
use Rattle.ocl_values.specs.contracts.value.KindPartialEq.TheImpl.{ghosts as kind_ghosts}
use Rattle.std.specs.Ordering.{is_eq}
use Rattle.use_orders.specs.Canon.{has}
use Rattle.use_orders.proofs.Sets.{equal}
use Rattle.class_decls.proofs.TextSets.{text_cmp, text_exact}
use Rattle.class_decls.specs.Texts.{first_numbered, same_text}
use Rattle.class_decls.specs.declared.decls.BodyKind.{BodyKind}
use Rattle.class_decls.specs.declared.decls.BodyKind.TheVariants as b
use Rattle.class_decls.specs.declared.decls.ClassDecl.{ClassDecl}
use Rattle.class_decls.specs.declared.decls.Decls.{Decls}
use Rattle.class_decls.specs.declared.decls.OpDecl.{OpDecl}
use Rattle.class_decls.specs.declared.decls.ParamDecl.{ParamDecl}
use Rattle.class_rules.specs.Agreeing.{all_ops, bodies_agree, is_as_first, is_query, is_soil, names_with, signatures_agree}
use Rattle.class_rules.specs.declared.by_class.ClassRule.TheVariants as r
use Rattle.class_rules.specs.declared.clash.Clash.{Clash}
use Rattle.class_rules.specs.declared.clash.Clash.TheVariants as k
use Rattle.class_rules.specs.Ancestors.{ancestor_numbers, class_numbered, number_at, properly_above}
use Rattle.class_rules.specs.Numbering.{numbering, parent_places}
use Rattle.class_rules.specs.ClassRules.{broken_by, first_broken, first_op}
use Rattle.class_rules.specs.Operations.{clash, clashes_above, mixes, same_signature, same_type}
use Rattle.class_rules.proofs.Ordered.{first_of, second_of}
use Rattle.class_rules.proofs.Different.{tied}
use Rattle.class_rules.proofs.PlacedClasses.{same_is}
use Rattle.class_rules.proofs.Queued.{or_left, or_right}
use Rattle.class_rules.proofs.Unnumbered.{false_of}

-- two that are the same as a third are the same
abbrev Shares : {A : Type 0} → (A → A → Bool) → Type 0
Shares {A = A} same = (x y z : A) → same x y ≡ true → same x z ≡ true → same y z ≡ true

both_shared : (a b c d e f : Bool) → (a && b) ≡ true → (c && d) ≡ true → (a ≡ true → c ≡ true → e ≡ true) → (b ≡ true → d ≡ true → f ≡ true) → (e && f) ≡ true
both_shared a b c d e f h k g j = ap₂ (λ p q. p && q) (g (first_of a b h) (first_of c d k)) (j (second_of a b h) (second_of c d k))

list_shared : {A : Type 0} (same : A → A → Bool) → Shares same → Shares (pointwise same)
list_shared same share [] [] [] h k = refl
list_shared same share [] [] (z ∷ zs) h k = absurd (true≢false (sym k))
list_shared same share [] (y ∷ ys) zs h k = absurd (true≢false (sym h))
list_shared same share (x ∷ xs) [] zs h k = absurd (true≢false (sym h))
list_shared same share (x ∷ xs) (y ∷ ys) [] h k = absurd (true≢false (sym k))
list_shared same share (x ∷ xs) (y ∷ ys) (z ∷ zs) h k =
    both_shared (same x y) (pointwise same xs ys) (same x z) (pointwise same xs zs) (same y z) (pointwise same ys zs) h k (share x y z)
    (list_shared same share xs ys zs)

number_shared : Shares nat_eq
number_shared x y z h k =
    ⊎_elim
    (λ t. ap (λ n. nat_eq n z) (sym t.1) ∙ k)
    (λ t. absurd (true≢false (sym h ∙ t.0)))
    (eqb_tells x y)

option_shared : {A : Type 0} (same : A → A → Bool) → Shares same → Shares (option_eq same)
option_shared same share None None None h k = refl
option_shared same share None None (Some z) h k = absurd (true≢false (sym k))
option_shared same share None (Some y) o h k = absurd (true≢false (sym h))
option_shared same share (Some x) None o h k = absurd (true≢false (sym h))
option_shared same share (Some x) (Some y) None h k = absurd (true≢false (sym k))
option_shared same share (Some x) (Some y) (Some z) h k = share x y z h k

kind_is : (a b : Kind) → kind_ghosts.eq a b ≡ true → a ≡ b
kind_is v.Set v.Set h = refl
kind_is v.OrderedSet v.OrderedSet h = refl
kind_is v.Bag v.Bag h = refl
kind_is v.Sequence v.Sequence h = refl
kind_is v.Set v.OrderedSet h = absurd (true≢false (sym h))
kind_is v.Set v.Bag h = absurd (true≢false (sym h))
kind_is v.Set v.Sequence h = absurd (true≢false (sym h))
kind_is v.OrderedSet v.Set h = absurd (true≢false (sym h))
kind_is v.OrderedSet v.Bag h = absurd (true≢false (sym h))
kind_is v.OrderedSet v.Sequence h = absurd (true≢false (sym h))
kind_is v.Bag v.Set h = absurd (true≢false (sym h))
kind_is v.Bag v.OrderedSet h = absurd (true≢false (sym h))
kind_is v.Bag v.Sequence h = absurd (true≢false (sym h))
kind_is v.Sequence v.Set h = absurd (true≢false (sym h))
kind_is v.Sequence v.OrderedSet h = absurd (true≢false (sym h))
kind_is v.Sequence v.Bag h = absurd (true≢false (sym h))

kind_shared : Shares kind_ghosts.eq
kind_shared x y z h k = ap (λ a. kind_ghosts.eq a z) (sym (kind_is x y h)) ∙ k

type_shared : Shares same_type
type_shared x y z h k =
    both_shared (pointwise kind_ghosts.eq x.kinds y.kinds) (same_text x.name.text y.name.text) (pointwise kind_ghosts.eq x.kinds z.kinds)
    (same_text x.name.text z.name.text)
    (pointwise kind_ghosts.eq y.kinds z.kinds) (same_text y.name.text z.name.text) h k
    (list_shared kind_ghosts.eq kind_shared x.kinds y.kinds z.kinds) (list_shared nat_eq number_shared x.name.text y.name.text z.name.text)

pub signature_shared : Shares same_signature
signature_shared x y z h k =
    let param : ParamDecl → ParamDecl → Bool = λ p q. same_type p.of_type q.of_type in
    both_shared (pointwise param x.params y.params) (option_eq same_type x.result_type y.result_type)
    (pointwise param x.params z.params) (option_eq same_type x.result_type z.result_type)
    (pointwise param y.params z.params) (option_eq same_type y.result_type z.result_type) h k
    (list_shared param (λ p q s. type_shared p.of_type q.of_type s.of_type) x.params y.params z.params)
    (option_shared same_type type_shared x.result_type y.result_type z.result_type)

-- two operations of one name that are both as the first
agree_by : (o p : Option OpDecl) (a b : OpDecl) → o ≡ p → option_map_or (λ first. same_signature first a) o false ≡ true →
    option_map_or (λ first. same_signature first b) p false ≡ true → same_signature a b ≡ true
agree_by None p a b e h k = absurd (true≢false (sym h))
agree_by (Some f) p a b e h k = signature_shared f a b h (ap (λ q. option_map_or (λ first. same_signature first b) q false) e ∙ k)

agree : (ops : List OpDecl) (a b : OpDecl) → same_text b.name.text a.name.text ≡ true → is_as_first ops a ≡ true → is_as_first ops b ≡ true
    → same_signature a b ≡ true
agree ops a b same h k =
    agree_by (option_and_then (slice_get ops) (position_from (λ other. same_text other.name.text a.name.text) 0 ops))
    (option_and_then (slice_get ops) (position_from (λ other. same_text other.name.text b.name.text) 0 ops)) a b
    (ap (λ t. option_and_then (slice_get ops) (position_from (λ other. same_text other.name.text t) 0 ops)) (sym (same_is b.name.text a.name.text same))) h k

all_left : {A : Type 0} (f : A → Bool) (xs ys : List A) → list_all f (xs ++ ys) ≡ true → list_all f xs ≡ true
all_left f [] ys h = refl
all_left f (x ∷ xs) ys h = ap₂ (λ a b. a && b) (first_of (f x) (list_all f (xs ++ ys)) h) (all_left f xs ys (second_of (f x) (list_all f (xs ++ ys)) h))

all_right : {A : Type 0} (f : A → Bool) (xs ys : List A) → list_all f (xs ++ ys) ≡ true → list_all f ys ≡ true
all_right f [] ys h = h
all_right f (x ∷ xs) ys h = all_right f xs ys (second_of (f x) (list_all f (xs ++ ys)) h)

-- what holds of all operations holds of those of each class
of_class : (f : OpDecl → Bool) (classes : List ClassDecl) (i : ℕ) (c : ClassDecl) → slice_get classes i ≡ Some c → list_all f (all_ops classes) ≡ true
    → list_all f c.ops ≡ true
of_class f [] i c e h = cc
of_class f (d ∷ ds) zero c e h = let k : d ≡ c = cc in ap (λ x. list_all f x.ops) (sym k) ∙ all_left f d.ops (all_ops ds) h
of_class f (d ∷ ds) (suc i) c e h = of_class f ds i c e (all_right f d.ops (all_ops ds) h)

chosen_from : (f : OpDecl → Bool) (classes : List ClassDecl) (o : Option ℕ) (c : ClassDecl) → option_and_then (slice_get classes) o ≡ Some c
    → list_all f (all_ops classes) ≡ true → list_all f c.ops ≡ true
chosen_from f classes None c e h = cc
chosen_from f classes (Some p) c e h = of_class f classes p c e h

and_false : (a : Bool) → (a && false) ≡ false
and_false true = refl
and_false false = refl

and_not : (a b : Bool) → (a ≡ true → b ≡ false) → (a && b) ≡ false
and_not true b h = h refl
and_not false b h = refl

wider : (a b c : Bool) → (a || b) ≡ true → (a || (c || b)) ≡ true
wider true b c h = refl
wider false b c h = or_right c b h

-- what each operation has, so that no two of one name clash
module _ (kind : Clash) (has : OpDecl → Bool)
    (pair : (op other : OpDecl) → same_text other.name.text op.name.text ≡ true → has op ≡ true → has other ≡ true → clash kind op other ≡ false) where
  none_here : (op : OpDecl) → has op ≡ true → (ops : List OpDecl) → list_all has ops ≡ true →
      list_any (λ other. same_text other.name.text op.name.text && clash kind op other) ops ≡ false
  none_here op h [] e = refl
  none_here op h (other ∷ ops) e =
      ap₂ (λ a b. a || b)
      (and_not (same_text other.name.text op.name.text) (clash kind op other)
      (λ same. pair op other same h (first_of (has other) (list_all has ops) e)))
      (none_here op h ops (second_of (has other) (list_all has ops) e))

pub none_by : (test : ClassDecl → Bool) (o : Option ClassDecl) (rest : List ClassDecl) → ((d : ClassDecl) → o ≡ Some d → test d ≡ false) →
    list_any test rest ≡ false → list_any test (cons_option o rest) ≡ false
none_by test None rest f h = h
none_by test (Some d) rest f h = ap₂ (λ a b. a || b) (f d refl) h

pub not_found : (b : Bool) (op : OpDecl) (o : Option OpDecl) → b ≡ false → option_map (λ x. x.name.place) o ≡ None
    → option_map (λ x. x.name.place) (cond b (Some op) o) ≡ None
not_found true op o h e = absurd (true≢false h)
not_found false op o h e = e

nothing_at : {A B : Type 0} (f : ℕ → A → Option B) (n : ℕ) (xs : List A) → ((i : ℕ) (x : A) → slice_get xs i ≡ Some x → f (n + i) x ≡ None)
    → first_numbered f n xs ≡ None
nothing_at f n [] h = refl
nothing_at f n (x ∷ xs) h =
    let z : n + 0 ≡ n = omega arith in
    ap (λ o. option_or o (first_numbered f (n + 1) xs)) (rw z at (h 0 x refl))
    ∙ nothing_at f (n + 1) xs (λ i y e. let m : n + suc i ≡ (n + 1) + i = omega arith in rw m at (h (suc i) y e))

module _ (kind : Clash) (has : OpDecl → Bool)
    (pair : (op other : OpDecl) → same_text other.name.text op.name.text ≡ true → has op ≡ true → has other ≡ true → clash kind op other ≡ false)
    (ds : Decls) (all : list_all has (all_ops ds.classes) ≡ true) where
  none_above : (op : OpDecl) → has op ≡ true → (ns : List ℕ) → clashes_above kind (filter_map (class_numbered ds) ns) op ≡ false
  none_above op h [] = refl
  none_above op h (n ∷ ns) =
      none_by (λ c. list_any (λ other. same_text other.name.text op.name.text && clash kind op other) c.ops) (class_numbered ds n) (filter_map
      (class_numbered ds) ns)
      (λ d e. none_here kind has pair op h d.ops (chosen_from has ds.classes (slice_get (numbering (parent_places ds)) n) d e all))
      (none_above op h ns)

  none_found : (ns : List ℕ) (ops : List OpDecl) → list_all has ops ≡ true →
      option_map (λ op. op.name.place) (find (clashes_above kind (filter_map (class_numbered ds) ns)) ops) ≡ None
  none_found ns [] h = refl
  none_found ns (op ∷ ops) h =
      not_found (clashes_above kind (filter_map (class_numbered ds) ns) op) op
      (find (clashes_above kind (filter_map (class_numbered ds) ns)) ops)
      (none_above op (first_of (has op) (list_all has ops) h) ns)
      (none_found ns ops (second_of (has op) (list_all has ops) h))

  -- no operation of a class clashes with one that it overrides
  none_of_class : (i : ℕ) (c : ClassDecl) → slice_get ds.classes i ≡ Some c → first_op (clashes_above kind (properly_above ds i)) c ≡ None
  none_of_class i c e =
      none_found (filter (λ n. nat_lt n (unwrap_or (number_at ds i) 0)) (ancestor_numbers ds i)) c.ops (of_class has ds.classes i c e all)

pub no_change : (ds : Decls) → signatures_agree (all_ops ds.classes) ≡ true → first_broken r.SignatureChanges ds ≡ None
no_change ds all =
    nothing_at (broken_by r.SignatureChanges ds) 0 ds.classes
    (λ i c e. none_of_class k.Signature (is_as_first (all_ops ds.classes))
    (λ op other same h g. ap not (agree (all_ops ds.classes) op other same h g)) ds all (0 + i) c
    (let z : 0 + i ≡ i = omega arith in rw z e))

-- an operation whose body passes a test has its name among those that do
abbrev listed : (BodyKind → Bool) → List (List ℕ) → OpDecl → Bool
listed test names op = not (test op.body) || has text_cmp names op.name.text

more_names : (test : BodyKind → Bool) (names : List (List ℕ)) (name : List ℕ) (ops : List OpDecl) → list_all (listed test names) ops ≡ true
    → list_all (listed test (name ∷ names)) ops ≡ true
more_names test names name [] h = refl
more_names test names name (op ∷ ops) h =
    ap₂ (λ a b. a && b)
    (wider (not (test op.body)) (has text_cmp names op.name.text) (is_eq (text_cmp op.name.text name)) (first_of (listed test names op) (list_all
    (listed test names) ops) h))
    (more_names test names name ops (second_of (listed test names op) (list_all (listed test names) ops) h))

listed_by : (test : BodyKind → Bool) (op : OpDecl) (ops : List OpDecl) (b : Bool) → test op.body ≡ b → list_all (listed test (names_with test ops)) ops ≡ true
    → list_all (listed test (map (λ o. o.name.text) (cond b (op ∷ filter (λ o. test o.body) ops) (filter (λ o. test o.body) ops)))) (op ∷ ops) ≡ true
listed_by test op ops true e h =
    ap₂ (λ a b. a && b)
    (or_right (not (test op.body)) (has text_cmp (op.name.text ∷ names_with test ops) op.name.text)
    (or_left (is_eq (text_cmp op.name.text op.name.text)) (has text_cmp (names_with test ops) op.name.text) (tied op.name.text)))
    (more_names test (names_with test ops) op.name.text ops h)
listed_by test op ops false e h =
    ap₂ (λ a b. a && b) (or_left (not (test op.body)) (has text_cmp (names_with test ops) op.name.text) (ap not e)) h

all_listed : (test : BodyKind → Bool) (ops : List OpDecl) → list_all (listed test (names_with test ops)) ops ≡ true
all_listed test [] = refl
all_listed test (op ∷ ops) = listed_by test op ops (test op.body) refl (all_listed test ops)

both_all : (f g : OpDecl → Bool) (ops : List OpDecl) → list_all f ops ≡ true → list_all g ops ≡ true → list_all (λ op. f op && g op) ops ≡ true
both_all f g [] h k = refl
both_all f g (op ∷ ops) h k =
    ap₂ (λ a b. a && b) (ap₂ (λ a b. a && b) (first_of (f op) (list_all f ops) h) (first_of (g op) (list_all g ops) k))
    (both_all f g ops (second_of (f op) (list_all f ops) h) (second_of (g op) (list_all g ops) k))

has_not : (names others : List (List ℕ)) → list_all (λ t. not (has text_cmp names t)) others ≡ true → (t : List ℕ) → has text_cmp others t ≡ true
    → has text_cmp names t ≡ false
has_not names [] h t e = absurd (true≢false (sym e))
has_not names (o ∷ os) h t e =
    ⊎_elim
    (λ s. ap (has text_cmp names) (text_exact t o (equal (text_cmp t o) s)) ∙ false_of (has text_cmp names o) (first_of (not (has text_cmp names o))
    (list_all (λ t. not (has text_cmp names t)) os) h))
    (λ s. has_not names os (second_of (not (has text_cmp names o)) (list_all (λ t. not (has text_cmp names t)) os) h) t (sym (ap
    (λ b. b || has text_cmp os t) s) ∙ e))
    (cases_Bool (is_eq (text_cmp t o)))

module _ (ops : List OpDecl) where
  abbrev placed : OpDecl → Bool
  placed op = listed is_query (names_with is_query ops) op && listed is_soil (names_with is_soil ops) op

module _ (ops : List OpDecl) (apart : bodies_agree ops ≡ true) where
  never : (t : List ℕ) → has text_cmp (names_with is_query ops) t ≡ true → has text_cmp (names_with is_soil ops) t ≡ true → ⊥
  never t h e = true≢false (sym h ∙ has_not (names_with is_query ops) (names_with is_soil ops) apart t e)

  not_mixed : (a b : BodyKind) (t : List ℕ) → (not (is_query a) || has text_cmp (names_with is_query ops) t) ≡ true →
      (not (is_soil a) || has text_cmp (names_with is_soil ops) t) ≡ true → (not (is_query b) || has text_cmp (names_with is_query ops) t) ≡ true →
      (not (is_soil b) || has text_cmp (names_with is_soil ops) t) ≡ true → mixes a b ≡ false
  not_mixed b.Bare other t aq a_s bq bs = refl
  not_mixed b.Query b.Bare t aq a_s bq bs = refl
  not_mixed b.Query b.Query t aq a_s bq bs = refl
  not_mixed b.Query b.Soil t aq a_s bq bs = absurd (never t aq bs)
  not_mixed b.Soil b.Bare t aq a_s bq bs = refl
  not_mixed b.Soil b.Query t aq a_s bq bs = absurd (never t bq a_s)
  not_mixed b.Soil b.Soil t aq a_s bq bs = refl

-- the first place that passes, of what elements stand for
pub position_of : {A B : Type 0} (f : A → B) (test : B → Bool) (n : ℕ) (xs : List A) → position_from test n (map f xs) ≡ position_from (λ x. test (f x)) n xs
position_of f test n [] = refl
position_of f test n (x ∷ xs) = ap (λ o. cond (test (f x)) (Some n) o) (position_of f test (n + 1) xs)

pub get_of : {A B : Type 0} (f : A → B) (xs : List A) (i : ℕ) → slice_get (map f xs) i ≡ option_map f (slice_get xs i)
get_of f [] i = refl
get_of f (x ∷ xs) zero = refl
get_of f (x ∷ xs) (suc i) = get_of f xs i

-- one does not pass
pub one_not : {A B : Type 0} (test : B → Bool) (f : A → B) (xs : List A) (i : ℕ) (x : A) → i < length xs → x ≡ get_or xs i x → test (f x) ≡ false
    → list_all test (map f xs) ≡ false
one_not test f [] i x low e h = absurd (omega arith)
one_not test f (y ∷ ys) zero x low e h = ap (λ b. b && list_all test (map f ys)) (ap (λ z. test (f z)) (sym e) ∙ h)
one_not test f (y ∷ ys) (suc i) x low e h = ap (λ b. test (f y) && b) (one_not test f ys i x (omega arith) e h) ∙ and_false (test (f y))

module _ {A : Type 0} (f : A → OpDecl) (ops : List A) (op : OpDecl) where
  by_place : (o : Option ℕ) → o ≡ position_from (λ other. same_text other.name.text op.name.text) 0 (map f ops) →
      option_map_or (λ first. same_signature first op) (option_and_then (slice_get (map f ops)) o) false ≡ is_as_first (map f ops) op
  by_place o e = ap (λ p. option_map_or (λ first. same_signature first op) (option_and_then (slice_get (map f ops)) p) false) e

  get_past : (xs : List A) (i : ℕ) → length xs ≤ i → slice_get (map f xs) i ≡ None
  get_past [] i h = refl
  get_past (x ∷ xs) zero h = absurd (omega arith)
  get_past (x ∷ xs) (suc i) h = get_past xs i (omega arith)

  get_at : (xs : List A) (i : ℕ) (x : A) → i < length xs → x ≡ get_or xs i x → slice_get (map f xs) i ≡ Some (f x)
  get_at [] i x h e = absurd (omega arith)
  get_at (y ∷ ys) zero x h e = ap (λ z. Some (f z)) (sym e)
  get_at (y ∷ ys) (suc i) x h e = get_at ys i x (omega arith) e

  -- no operation has the name
  pub nowhere : ◌≡◌ {A = Option ℕ} None (position_from (λ other. same_text other.name.text op.name.text) 0 (map f ops)) → false ≡ is_as_first (map f ops) op
  nowhere e = by_place None e

  pub past : (i : ℕ) → ◌≡◌ {A = Option ℕ} (Some i) (position_from (λ other. same_text other.name.text op.name.text) 0 (map f ops)) → length ops ≤ i
      → false ≡ is_as_first (map f ops) op
  past i e h = sym (ap (λ o. option_map_or (λ first. same_signature first op) o false) (get_past ops i h)) ∙ by_place (Some i) e

  pub at_place : (i : ℕ) (x : A) → ◌≡◌ {A = Option ℕ} (Some i) (position_from (λ other. same_text other.name.text op.name.text) 0 (map f ops)) → i < length ops
      → x ≡ get_or ops i x → same_signature (f x) op ≡ is_as_first (map f ops) op
  at_place i x e h k = sym (ap (λ o. option_map_or (λ first. same_signature first op) o false) (get_at ops i x h k)) ∙ by_place (Some i) e

bodies_pair : (ops : List OpDecl) → bodies_agree ops ≡ true → (op other : OpDecl) → same_text other.name.text op.name.text ≡ true →
    placed ops op ≡ true → placed ops other ≡ true → mixes op.body other.body ≡ false
bodies_pair ops apart op other same h g =
    let e = same_is other.name.text op.name.text same in
    let q = listed is_query (names_with is_query ops) in
    let s = listed is_soil (names_with is_soil ops) in
    not_mixed ops apart op.body other.body op.name.text (first_of (q op) (s op) h) (second_of (q op) (s op) h)
    (ap (λ t. not (is_query other.body) || has text_cmp (names_with is_query ops) t) (sym e) ∙ first_of (q other) (s other) g)
    (ap (λ t. not (is_soil other.body) || has text_cmp (names_with is_soil ops) t) (sym e) ∙ second_of (q other) (s other) g)

pub no_mixture : (ds : Decls) → bodies_agree (all_ops ds.classes) ≡ true → first_broken r.BodiesMixed ds ≡ None
no_mixture ds apart =
    let ops = all_ops ds.classes in
    nothing_at (broken_by r.BodiesMixed ds) 0 ds.classes
    (λ i c e. none_of_class k.Bodies (placed ops) (bodies_pair ops apart) ds
    (both_all (listed is_query (names_with is_query ops)) (listed is_soil (names_with is_soil ops)) ops (all_listed is_query ops)
    (all_listed is_soil ops)) (0 + i) c
    (let z : 0 + i ≡ i = omega arith in rw z e))
