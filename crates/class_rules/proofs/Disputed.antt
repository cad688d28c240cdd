-- An operation is ambiguous exactly if the last class that declares it is not below all others that do.
use Rattle.std.proofs.Common.{◌≡◌, ℕ, suc, ◌<◌, ◌≤◌, Bool, true, false, not, ◌&&◌, ◌||◌, cond, nat_eq, nat_lt, List, [], ◌∷◌, ◌++◌, Option, Some, None, refl, sym, ap, ap₂, ◌∙◌, arith, true≢false, ⊎_elim}
use Rattle.std.specs.List.{AllByRecursion, cons_option, filter_map, list_all, list_any}
use Rattle.std.specs.Option.{option_map_or}
use Rattle.std.proofs.lemmas.Bool.{cases_Bool}
use Rattle.std.proofs.lemmas.Bool.Decides.{eqb_tells, leb_tells}
use Rattle.std.proofs.lemmas.List.Folds.{list_any-append}
use Rattle.std.specs.Ordering.{nat_cmp}
use Rattle.use_orders.specs.Canon.{has_all}
use Rattle.class_decls.specs.Texts.{same_text}
use Rattle.class_decls.specs.declared.decls.ClassDecl.{ClassDecl}
use Rattle.class_decls.specs.declared.decls.Decls.{Decls}
use Rattle.class_decls.specs.declared.decls.OpDecl.{OpDecl}
use Rattle.class_rules.specs.Ancestors.{IsDownward, ancestors, class_numbered, parent_numbers}
use Rattle.class_rules.specs.Declaring.{declaring, is_disputed, ops_numbered, times_declared}
use Rattle.class_rules.specs.Numbering.{is_among, row_at}
use Rattle.class_rules.specs.Operations.{declares_op, has_overriding, is_ambiguous, overrides_all}
use Rattle.class_rules.proofs.LeastAbove.{among_has, least_above}
use Rattle.class_rules.proofs.Ordered.{downward, first_of, second_of}
use Rattle.class_rules.proofs.PlacedClasses.{same_is}
use Rattle.class_rules.proofs.Queued.{itself, or_left, or_right}
use Rattle.class_rules.proofs.Single.{all_at, all_of, any_of, found, same_self}

-- two tests that tell the same
same_by : (a b : Bool) → (a ≡ true → b ≡ true) → (b ≡ true → a ≡ true) → a ≡ b
same_by true b f g = sym (f refl)
same_by false true f g = g refl
same_by false false f g = refl

not_of : (a : Bool) → (a ≡ true → ⊥) → not a ≡ true
not_of true h = absurd (h refl)
not_of false h = refl

both_true : (a b : Bool) → a ≡ true → b ≡ true → (a && b) ≡ true
both_true true b h g = g
both_true false b h g = absurd (true≢false (sym h))

-- ancestors have no greater numbers
not_greater : (c d : ℕ) → d ≤ c → not (nat_lt c d) ≡ true
not_greater c d h = ⊎_elim (λ t. let k : c < d = t.1 in absurd (omega arith)) (λ t. ap not t.0) (leb_tells (suc c) d)

no_greater : (c d : ℕ) → not (nat_lt c d) ≡ true → d ≤ c
no_greater c d h = ⊎_elim (λ t. absurd (true≢false (sym h ∙ ap not t.0))) (λ t. let k : d < suc c = t.1 in omega arith) (leb_tells (suc c) d)

lower_held : (c d : ℕ) (ps : List ℕ) → d ≤ c → AllByRecursion (λ p. p < d) ps → AllByRecursion (λ p. not (nat_lt c p) ≡ true) ps
lower_held c d [] h ps = tt
lower_held c d (p ∷ rest) h ps = (not_greater c p (let k : p < d = ps.0 in omega arith), lower_held c d rest h ps.1)

ancestor_low : (parents : List (List ℕ)) → IsDownward parents → (c d : ℕ) → is_among (ancestors parents c) d ≡ true → d ≤ c
ancestor_low parents down c d h =
    no_greater c d (
    (least_above parents down c).least (λ e. not (nat_lt c e)) (not_greater c c (let k : c ≤ c = omega arith in k)) (λ e k. lower_held c e (row_at
    parents e) (no_greater c e k) (down e)) d h
    )

-- the greatest of some numbers
record Greatest (xs : List ℕ) : Type 0 where
  at : ℕ
  there : is_among xs at ≡ true
  last : list_all (λ d. not (nat_lt at d)) xs ≡ true

none_greater : (m n : ℕ) (xs : List ℕ) → m ≤ n → list_all (λ d. not (nat_lt m d)) xs ≡ true → list_all (λ d. not (nat_lt n d)) xs ≡ true
none_greater m n [] h e = refl
none_greater m n (x ∷ xs) h e =
    both_true (not (nat_lt n x)) (list_all (λ d. not (nat_lt n d)) xs)
    (not_greater n x (let k : x ≤ m = no_greater m x (first_of (not (nat_lt m x)) (list_all (λ d. not (nat_lt m d)) xs) e) in omega arith))
    (none_greater m n xs h (second_of (not (nat_lt m x)) (list_all (λ d. not (nat_lt m d)) xs) e))

greatest_of : (x : ℕ) (xs : List ℕ) → Greatest (x ∷ xs)
greatest_of x [] = record { at = x; there = or_left (nat_eq x x) false (itself x); last = both_true (not (nat_lt x x)) true (not_greater x x (omega arith)) refl }
greatest_of x (y ∷ ys) =
    let g = greatest_of y ys in
    ⊎_elim
    (λ t. record {
      at = g.at;
      there = or_right (nat_eq (g.at) x) (is_among (y ∷ ys) (g.at)) (g.there);
      last = both_true (not (nat_lt (g.at) x)) (list_all (λ d. not (nat_lt (g.at) d)) (y ∷ ys)) (not_greater (g.at) x (let k : x < g.at = t.1 in omega arith)) (g.last);
    })
    (λ t. record {
      at = x;
      there = or_left (nat_eq x x) (is_among (y ∷ ys) x) (itself x);
      last = both_true (not (nat_lt x x)) (list_all (λ d. not (nat_lt x d)) (y ∷ ys)) (not_greater x x (omega arith))
          (none_greater (g.at) x (y ∷ ys) (let k : g.at < suc x = t.1 in omega arith) (g.last));
    })
    (leb_tells (suc x) (g.at))

greatest : (xs : List ℕ) (z : ℕ) → is_among xs z ≡ true → Greatest xs
greatest [] z h = absurd (true≢false (sym h))
greatest (x ∷ xs) z h = greatest_of x xs

-- which classes are among those that declare an operation
and_false : (a : Bool) → false ≡ (a && false)
and_false true = refl
and_false false = refl

once : (a r : Bool) → (a || (a && r)) ≡ (a && true)
once true r = refl
once false r = refl

kept_times : (n z : ℕ) (b : Bool) (rest : List ℕ) (r : Bool) → is_among rest z ≡ (nat_eq z n && r) → is_among (cond b (n ∷ []) [] ++ rest) z ≡ (nat_eq z n && (b || r))
kept_times n z true rest r h = ap (λ a. nat_eq z n || a) h ∙ once (nat_eq z n) r
kept_times n z false rest r h = h

times_among : (n z : ℕ) (t : List ℕ) (ops : List OpDecl) →
    is_among (times_declared n t ops) z ≡ (nat_eq z n && list_any (λ op. same_text op.name.text t) ops)
times_among n z t [] = and_false (nat_eq z n)
times_among n z t (op ∷ ops) =
    kept_times n z (same_text op.name.text t) (times_declared n t ops) (list_any (λ o. same_text o.name.text t) ops) (times_among n z t ops)

declares_by : (t : List ℕ) (o : Option ClassDecl) →
    option_map_or (λ d. list_any (λ op. same_text op.name.text t) d.ops) o false ≡ list_any (λ op. same_text op.name.text t) (option_map_or (λ c. c.ops) o [])
declares_by t None = refl
declares_by t (Some c) = refl

pub declares_is : (ds : Decls) (t : List ℕ) (n : ℕ) → declares_op ds t n ≡ list_any (λ op. same_text op.name.text t) (ops_numbered ds n)
declares_is ds t n = declares_by t (class_numbered ds n)

absorbed : (a b : Bool) → (true && a || (b && a)) ≡ ((true || b) && a)
absorbed true b = refl
absorbed false true = refl
absorbed false false = refl

module _ (ds : Decls) (t : List ℕ) where
  -- those that declare an operation are those of the classes that do
  one_declares : (n z : ℕ) (b : Bool) → (nat_eq z n && declares_op ds t n || (b && declares_op ds t z)) ≡ ((nat_eq z n || b) && declares_op ds t z)
  one_declares n z b =
      ⊎_elim
      (λ e. ap (λ m. nat_eq z n && declares_op ds t m || (b && declares_op ds t z)) (sym e.1) ∙ ap (λ a. a && declares_op ds t z || (b && declares_op ds t z)) e.0
      ∙ absorbed (declares_op ds t z) b ∙ ap (λ a. (a || b) && declares_op ds t z) (sym e.0))
      (λ e. ap (λ a. a && declares_op ds t n || (b && declares_op ds t z)) e.0 ∙ ap (λ a. (a || b) && declares_op ds t z) (sym e.0))
      (eqb_tells z n)

  pub declaring_among : (ns : List ℕ) (z : ℕ) → is_among (declaring ds ns t) z ≡ (is_among ns z && declares_op ds t z)
  declaring_among [] z = refl
  declaring_among (n ∷ ns) z =
      list_any-append (nat_eq z) (times_declared n t (ops_numbered ds n)) (declaring ds ns t)
      ∙ ap₂ (λ a b. a || b) (times_among n z t (ops_numbered ds n) ∙ ap (λ a. nat_eq z n && a) (sym (declares_is ds t n))) (declaring_among ns z)
      ∙ one_declares n z (is_among ns z)

  module _ (ns : List ℕ) where
    abbrev parents : List (List ℕ)
    parents = parent_numbers ds

    abbrev those : List ℕ
    those = declaring ds ns t

    -- a class that is among those is one of the classes, and declares the operation
    of_those : (z : ℕ) → is_among those z ≡ true → (is_among ns z && declares_op ds t z) ≡ true
    of_those z h = sym (declaring_among ns z) ∙ h

    to_those : (z : ℕ) → is_among ns z ≡ true → declares_op ds t z ≡ true → is_among those z ≡ true
    to_those z h e = declaring_among ns z ∙ both_true (is_among ns z) (declares_op ds t z) h e

    implied : (a b : Bool) → (not a || b) ≡ true → a ≡ true → b ≡ true
    implied true b h e = h
    implied false b h e = absurd (true≢false (sym e))

    implies : (a b : Bool) → (a ≡ true → b ≡ true) → (not a || b) ≡ true
    implies true b f = f refl
    implies false b f = refl

    -- where one overrides all, those are all among the ancestors of the last
    below_all : (n : ℕ) → is_among those n ≡ true → list_all (λ d. not (nat_lt n d)) those ≡ true → (c : ℕ) → is_among ns c ≡ true →
        overrides_all ds ns t c ≡ true → list_all (is_among (ancestors parents n)) those ≡ true
    below_all n here last c there h =
        let declares = first_of (declares_op ds t c) (list_all (λ d. not (declares_op ds t d) || is_among (ancestors parents c) d) ns) h in
        let all = second_of (declares_op ds t c) (list_all (λ d. not (declares_op ds t d) || is_among (ancestors parents c) d) ns) h in
        let up : ((d : ℕ) → is_among those d ≡ true → is_among (ancestors parents c) d ≡ true)
        = λ d e. implied (declares_op ds t d) (is_among (ancestors parents c) d)
        (all_at (λ k. not (declares_op ds t k) || is_among (ancestors parents c) k) ns d all (first_of (is_among ns d) (declares_op ds t d) (of_those d e)))
        (second_of (is_among ns d) (declares_op ds t d) (of_those d e)) in
        let low : n ≤ c = ancestor_low parents (downward ds) c n (up n here) in
        let high : c ≤ n = no_greater n c (all_at (λ d. not (nat_lt n d)) those c last (to_those c there declares)) in
        let same : c ≡ n = omega arith in
        all_of (is_among (ancestors parents n)) those (λ d e. ap (λ k. is_among (ancestors parents k) d) (sym same) ∙ up d e)

    -- a disputed operation has none that overrides all
    disputed_none : (n : ℕ) → is_among ns n ≡ true → declares_op ds t n ≡ true → is_disputed parents those n ≡ true → not (has_overriding ds ns t) ≡ true
    disputed_none n h e d =
        not_of (has_overriding ds ns t) (λ o.
        let f = found (overrides_all ds ns t) ns o in
        let all = below_all n (to_those n h e) (first_of (list_all (λ k. not (nat_lt n k)) those) (not (list_all (is_among (ancestors parents n)) those)) d)
        (f.at) (f.there) (f.passes) in
        true≢false (sym (second_of (list_all (λ k. not (nat_lt n k)) those) (not (list_all (is_among (ancestors parents n)) those)) d) ∙ ap not all))

    -- where none overrides all, the last is disputed
    none_disputed : (m : ℕ) → is_among those m ≡ true → list_all (λ d. not (nat_lt m d)) those ≡ true → not (has_overriding ds ns t) ≡ true
        → is_disputed parents those m ≡ true
    none_disputed m h last none =
        both_true (list_all (λ d. not (nat_lt m d)) those) (not (list_all (is_among (ancestors parents m)) those)) last
        (not_of (list_all (is_among (ancestors parents m)) those) (λ all.
        let over : overrides_all ds ns t m ≡ true
        = both_true (declares_op ds t m) (list_all (λ d. not (declares_op ds t d) || is_among (ancestors parents m) d) ns)
        (second_of (is_among ns m) (declares_op ds t m) (of_those m h))
        (all_of (λ d. not (declares_op ds t d) || is_among (ancestors parents m) d) ns (λ d k. implies (declares_op ds t d) (is_among (ancestors parents m) d)
        (λ e. all_at (is_among (ancestors parents m)) those d all (to_those d k e)))) in
        true≢false (sym none ∙ ap not (any_of (overrides_all ds ns t) ns m (first_of (is_among ns m) (declares_op ds t m) (of_those m h)) over))))

-- what holds of an operation of a name
any_within : (f g : OpDecl → Bool) (ops : List OpDecl) →
    ((op : OpDecl) → list_any (λ o. same_text o.name.text op.name.text) ops ≡ true → f op ≡ true → g op ≡ true) → list_any f ops ≡ true → list_any g ops ≡ true
any_within f g [] h e = e
any_within f g (op ∷ ops) h e =
    ⊎_elim
    (λ k. or_left (g op) (list_any g ops) (h op (or_left (same_text op.name.text op.name.text) (list_any (λ o. same_text o.name.text op.name.text) ops)
    (same_self op.name.text)) k))
    (λ k. or_right (g op) (list_any g ops) (any_within f g ops (λ o there p. h o (or_right (same_text op.name.text o.name.text) (list_any
    (λ q. same_text q.name.text o.name.text) ops) there) p) (sym (ap (λ b. b || list_any f ops) k) ∙ e)))
    (cases_Bool (f op))

-- an operation that passes, or of a name that does
record Passing (f : OpDecl → Bool) (ops : List OpDecl) : Type 0 where
  op : OpDecl
  there : list_any (λ o. same_text o.name.text op.name.text) ops ≡ true
  passes : f op ≡ true

passing : (f : OpDecl → Bool) (ops : List OpDecl) → list_any f ops ≡ true → Passing f ops
passing f [] h = absurd (true≢false (sym h))
passing f (op ∷ ops) h =
    ⊎_elim
    (λ k. record {
      op = op;
      there = or_left (same_text op.name.text op.name.text) (list_any (λ o. same_text o.name.text op.name.text) ops) (same_self op.name.text);
      passes = k;
    })
    (λ k. let p = passing f ops (sym (ap (λ b. b || list_any f ops) k) ∙ h) in record {
      op = p.op;
      there = or_right (same_text op.name.text (p.op).name.text) (list_any (λ o. same_text o.name.text (p.op).name.text) ops) (p.there);
      passes = p.passes;
    })
    (cases_Bool (f op))

any_same : (f : List ℕ → Bool) (t : List ℕ) (ops : List OpDecl) → list_any (λ op. same_text op.name.text t) ops ≡ true → f t ≡ true →
    list_any (λ op. f op.name.text) ops ≡ true
any_same f t [] h e = h
any_same f t (op ∷ ops) h e =
    ⊎_elim
    (λ k. or_left (f op.name.text) (list_any (λ o. f o.name.text) ops) (ap f (same_is op.name.text t k) ∙ e))
    (λ k. or_right (f op.name.text) (list_any (λ o. f o.name.text) ops) (any_same f t ops (sym (ap (λ b. b || list_any (λ o. same_text o.name.text t) ops) k) ∙ h) e))
    (cases_Bool (same_text op.name.text t))

one_numbered : (f : OpDecl → Bool) (o : Option ClassDecl) (rest : List ClassDecl) (r : Bool) → list_any (λ c. list_any f c.ops) rest ≡ r →
    list_any (λ c. list_any f c.ops) (cons_option o rest) ≡ (list_any f (option_map_or (λ c. c.ops) o []) || r)
one_numbered f None rest r h = h
one_numbered f (Some c) rest r h = ap (λ b. list_any f c.ops || b) h

any_numbered : (f : OpDecl → Bool) (ds : Decls) (ns : List ℕ) →
    list_any (λ c. list_any f c.ops) (filter_map (class_numbered ds) ns) ≡ list_any (λ n. list_any f (ops_numbered ds n)) ns
any_numbered f ds [] = refl
any_numbered f ds (n ∷ ns) = one_numbered f (class_numbered ds n) (filter_map (class_numbered ds) ns) (list_any (λ m. list_any f (ops_numbered ds m)) ns) (any_numbered f ds ns)

-- some operation is disputed exactly if one is ambiguous
pub some_disputed : (ds : Decls) (ns : List ℕ) →
    list_any (λ n. list_any (λ op. is_disputed (parent_numbers ds) (declaring ds ns op.name.text) n) (ops_numbered ds n)) ns ≡ is_ambiguous ds ns
some_disputed ds ns =
    same_by
    (list_any (λ n. list_any (λ op. is_disputed (parent_numbers ds) (declaring ds ns op.name.text) n) (ops_numbered ds n)) ns)
    (list_any (λ n. list_any (λ op. not (has_overriding ds ns op.name.text)) (ops_numbered ds n)) ns)
    (λ h.
    let f = found (λ n. list_any (λ op. is_disputed (parent_numbers ds) (declaring ds ns op.name.text) n) (ops_numbered ds n)) ns h in
    any_of (λ n. list_any (λ op. not (has_overriding ds ns op.name.text)) (ops_numbered ds n)) ns (f.at) (f.there)
    (any_within (λ op. is_disputed (parent_numbers ds) (declaring ds ns op.name.text) (f.at)) (λ op. not (has_overriding ds ns op.name.text)) (ops_numbered ds
    (f.at)) (λ op there d. disputed_none ds op.name.text ns (f.at) (f.there) (declares_is ds op.name.text (f.at) ∙ there) d) (f.passes)))
    (λ h.
    let f = found (λ n. list_any (λ op. not (has_overriding ds ns op.name.text)) (ops_numbered ds n)) ns h in
    let p = passing (λ op. not (has_overriding ds ns op.name.text)) (ops_numbered ds (f.at)) (f.passes) in
    let t : List ℕ = (p.op).name.text in
    let g = greatest (declaring ds ns t) (f.at) (to_those ds t ns (f.at) (f.there) (declares_is ds t (f.at) ∙ p.there)) in
    any_of (λ n. list_any (λ op. is_disputed (parent_numbers ds) (declaring ds ns op.name.text) n) (ops_numbered ds n)) ns (g.at)
    (first_of (is_among ns (g.at)) (declares_op ds t (g.at)) (of_those ds t ns (g.at) (g.there)))
    (any_same (λ text. is_disputed (parent_numbers ds) (declaring ds ns text) (g.at)) t (ops_numbered ds (g.at))
    (sym (declares_is ds t (g.at)) ∙ second_of (is_among ns (g.at)) (declares_op ds t (g.at)) (of_those ds t ns (g.at) (g.there)))
    (none_disputed ds t ns (g.at) (g.there) (g.last) (p.passes))))
    ∙ sym (any_numbered (λ op. not (has_overriding ds ns op.name.text)) ds ns)

and_not : (a b : Bool) → b ≡ true → false ≡ (a && not b)
and_not true b h = sym (ap not h)
and_not false b h = refl

-- one that alone declares an operation is among its own ancestors
pub alone_undisputed : (ds : Decls) (xs : List ℕ) (n : ℕ) → list_all (nat_eq n) xs ≡ true → false ≡ is_disputed (parent_numbers ds) xs n
alone_undisputed ds xs n h =
    and_not (list_all (λ d. not (nat_lt n d)) xs) (list_all (is_among (ancestors (parent_numbers ds) n)) xs)
    (all_of (is_among (ancestors (parent_numbers ds) n)) xs (λ d e.
    ⊎_elim
    (λ t. ap (is_among (ancestors (parent_numbers ds) n)) (sym t.1) ∙ (least_above (parent_numbers ds) (downward ds) n).class)
    (λ t. absurd (true≢false (sym (all_at (nat_eq n) xs d h e) ∙ t.0)))
    (eqb_tells n d)))

pub not_last : (parents : List (List ℕ)) (xs : List ℕ) (n : ℕ) → list_all (λ d. not (nat_lt n d)) xs ≡ false → false ≡ is_disputed parents xs n
not_last parents xs n h = sym (ap (λ a. a && not (list_all (is_among (ancestors parents n)) xs)) h)

has_all_among : (above xs : List ℕ) → has_all nat_cmp above xs ≡ list_all (is_among above) xs
has_all_among above [] = refl
has_all_among above (x ∷ xs) = ap₂ (λ a b. a && b) (sym (among_has above x)) (has_all_among above xs)

pub last_disputed : (parents : List (List ℕ)) (xs : List ℕ) (n : ℕ) (all : Bool) → list_all (λ d. not (nat_lt n d)) xs ≡ true →
    all ≡ has_all nat_cmp (ancestors parents n) xs → not all ≡ is_disputed parents xs n
last_disputed parents xs n all h e =
    ap not (e ∙ has_all_among (ancestors parents n) xs) ∙ sym (ap (λ a. a && not (list_all (is_among (ancestors parents n)) xs)) h)
