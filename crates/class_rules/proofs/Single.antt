-- Where no class has two parents, no operation is ambiguous.
use Rattle.std.proofs.Common.{◌≡◌, ℕ, zero, suc, ◌<◌, Bool, true, false, not, ◌&&◌, ◌||◌, nat_eq, nat_lt, List, [], ◌∷◌, length, Option, Some, None, refl, sym, ap, ap₂, ◌∙◌, subst, arith, true≢false, ⊎_elim}
use Rattle.std.specs.List.{AllByRecursion, cons_option, filter_map, list_all, list_any}
use Rattle.std.specs.Option.{option_map_or}
use Rattle.std.proofs.lemmas.Bool.{cases_Bool}
use Rattle.std.proofs.lemmas.Bool.Decides.{eqb_tells, nat_tests}
use Rattle.class_decls.specs.Texts.{same_text}
use Rattle.class_decls.specs.declared.decls.ClassDecl.{ClassDecl}
use Rattle.class_decls.specs.declared.decls.Decls.{Decls}
use Rattle.class_decls.specs.declared.decls.OpDecl.{OpDecl}
use Rattle.class_rules.specs.Ancestors.{IsDownward, ancestors, class_numbered, parent_numbers}
use Rattle.class_rules.specs.Numbering.{is_among, row_at}
use Rattle.class_rules.specs.Operations.{declares_op, has_overriding, is_ambiguous, overrides_all}
use Rattle.class_rules.proofs.LeastAbove.{least_above}
use Rattle.class_rules.proofs.Ordered.{downward, first_of, second_of}
use Rattle.class_rules.proofs.Queued.{itself, or_left, or_right}

-- one that passes
pub record Found (f : ℕ → Bool) (xs : List ℕ) : Type 0 where
  pub at : ℕ
  pub there : is_among xs at ≡ true
  pub passes : f at ≡ true

found_by : (f : ℕ → Bool) (x : ℕ) (xs : List ℕ) → (f x || list_any f xs) ≡ true → (list_any f xs ≡ true → Found f xs) → Found f (x ∷ xs)
found_by f x xs h rest =
    ⊎_elim
    (λ e. record { at = x; there = or_left (nat_eq x x) (is_among xs x) (itself x); passes = e })
    (λ e. let r = rest (sym (ap (λ b. b || list_any f xs) e) ∙ h) in
    record { at = r.at; there = or_right (nat_eq r.at x) (is_among xs r.at) r.there; passes = r.passes })
    (cases_Bool (f x))

pub found : (f : ℕ → Bool) (xs : List ℕ) → list_any f xs ≡ true → Found f xs
found f [] h = absurd (true≢false (sym h))
found f (x ∷ xs) h = found_by f x xs h (found f xs)

any_by : (f : ℕ → Bool) (x z : ℕ) (a b : Bool) → (nat_eq z x || a) ≡ true → f z ≡ true → (a ≡ true → b ≡ true) → (f x || b) ≡ true
any_by f x z a b h e rest = ⊎_elim (λ t. or_left (f x) b (ap f (sym t.1) ∙ e)) (λ t. or_right (f x) b (rest (sym (ap (λ c. c || a) t.0) ∙ h))) (eqb_tells z x)

pub any_of : (f : ℕ → Bool) (xs : List ℕ) (z : ℕ) → is_among xs z ≡ true → f z ≡ true → list_any f xs ≡ true
any_of f [] z h e = absurd (true≢false (sym h))
any_of f (x ∷ xs) z h e = any_by f x z (is_among xs z) (list_any f xs) h e (λ k. any_of f xs z k e)

pub all_of : (f : ℕ → Bool) (xs : List ℕ) → ((z : ℕ) → is_among xs z ≡ true → f z ≡ true) → list_all f xs ≡ true
all_of f [] h = refl
all_of f (x ∷ xs) h =
    ap₂ (λ a b. a && b) (h x (or_left (nat_eq x x) (is_among xs x) (itself x))) (all_of f xs (λ z e. h z (or_right (nat_eq z x) (is_among xs z) e)))

each_of : (f : ℕ → Bool) (x z : ℕ) (a b : Bool) → (f x && b) ≡ true → (nat_eq z x || a) ≡ true → (b ≡ true → a ≡ true → f z ≡ true) → f z ≡ true
each_of f x z a b h e rest =
    ⊎_elim (λ t. ap f t.1 ∙ first_of (f x) b h) (λ t. rest (second_of (f x) b h) (sym (ap (λ c. c || a) t.0) ∙ e)) (eqb_tells z x)

pub all_at : (f : ℕ → Bool) (xs : List ℕ) (z : ℕ) → list_all f xs ≡ true → is_among xs z ≡ true → f z ≡ true
all_at f [] z h e = absurd (true≢false (sym e))
all_at f (x ∷ xs) z h e = each_of f x z (is_among xs z) (list_all f xs) h e (all_at f xs z)

pub none_of : (f : ℕ → Bool) (xs : List ℕ) → ((z : ℕ) → is_among xs z ≡ true → f z ≡ false) → list_any f xs ≡ false
none_of f [] h = refl
none_of f (x ∷ xs) h =
    ap₂ (λ a b. a || b) (h x (or_left (nat_eq x x) (is_among xs x) (itself x))) (none_of f xs (λ z e. h z (or_right (nat_eq z x) (is_among xs z) e)))

-- no parent, or one
pub data Parents : List ℕ → Type 0 where
  NoParent : Parents []
  OneParent : (p : ℕ) → Parents (p ∷ [])

few_parents : (row : List ℕ) → nat_lt (length row) 2 ≡ true → Parents row
few_parents [] h = NoParent
few_parents (p ∷ []) h = OneParent p
few_parents (p ∷ q ∷ rest) h = absurd (let k : length (p ∷ q ∷ rest) < 2 = grind (arith, nat_tests) in omega arith)

rows_few : (rows : List (List ℕ)) → list_all (λ row. nat_lt (length row) 2) rows ≡ true → (c : ℕ) → Parents (row_at rows c)
rows_few [] h c = NoParent
rows_few (r ∷ rs) h zero = few_parents r (first_of (nat_lt (length r) 2) (list_all (λ row. nat_lt (length row) 2) rs) h)
rows_few (r ∷ rs) h (suc c) = rows_few rs (second_of (nat_lt (length r) 2) (list_all (λ row. nat_lt (length row) 2) rs) h) c

-- a class, and what is above it besides
pub record Splits (all : List ℕ) (c : ℕ) (rest : List ℕ) : Type 0 where
  pub top : is_among all c ≡ true
  pub split : (z : ℕ) → is_among all z ≡ true → (nat_eq z c || is_among rest z) ≡ true
  pub join : (z : ℕ) → is_among rest z ≡ true → is_among all z ≡ true

only : (c d : ℕ) → (nat_eq d c || false) ≡ true → d ≡ c
only c d h = ⊎_elim (λ t. t.1) (λ t. absurd (true≢false (sym h ∙ ap (λ b. b || false) t.0))) (eqb_tells d c)

all_or : (c : ℕ) (xs ps : List ℕ) → AllByRecursion (λ p. is_among xs p ≡ true) ps → AllByRecursion (λ p. (nat_eq p c || is_among xs p) ≡ true) ps
all_or c xs [] h = tt
all_or c xs (p ∷ ps) h = (or_right (nat_eq p c) (is_among xs p) h.0, all_or c xs ps h.1)

pub same_self : (t : List ℕ) → same_text t t ≡ true
same_self [] = refl
same_self (x ∷ xs) = ap₂ (λ a b. a && b) (itself x) (same_self xs)

-- no operation of a class fails
none_fail : (ok : List ℕ → Bool) (ops : List OpDecl) → ((text : List ℕ) → list_any (λ op. same_text op.name.text text) ops ≡ true → ok text ≡ true) →
    list_any (λ op. not (ok op.name.text)) ops ≡ false
none_fail ok [] h = refl
none_fail ok (op ∷ ops) h =
    ap₂ (λ a b. not a || b)
    (h op.name.text (or_left (same_text op.name.text op.name.text) (list_any (λ o. same_text o.name.text op.name.text) ops) (same_self op.name.text)))
    (none_fail ok ops (λ text e. h text (or_right (same_text op.name.text text) (list_any (λ o. same_text o.name.text text) ops) e)))

skip_class : (test : ClassDecl → Bool) (o : Option ClassDecl) (rest : List ClassDecl) → ((d : ClassDecl) → o ≡ Some d → test d ≡ false) →
    list_any test rest ≡ false → list_any test (cons_option o rest) ≡ false
skip_class test None rest f h = h
skip_class test (Some d) rest f h = ap₂ (λ a b. a || b) (f d refl) h

none_ambiguous : (ds : Decls) (all ns : List ℕ) → ((n : ℕ) → is_among ns n ≡ true → (text : List ℕ) → declares_op ds text n ≡ true
    → has_overriding ds all text ≡ true) →
    list_any (λ c. list_any (λ op. not (has_overriding ds all op.name.text)) c.ops) (filter_map (class_numbered ds) ns) ≡ false
none_ambiguous ds all [] h = refl
none_ambiguous ds all (n ∷ ns) h =
    skip_class (λ c. list_any (λ op. not (has_overriding ds all op.name.text)) c.ops) (class_numbered ds n) (filter_map (class_numbered ds) ns)
    (λ d e. none_fail (has_overriding ds all) d.ops (λ text k. h n (or_left (nat_eq n n) (is_among ns n) (itself n)) text
    (ap (λ o. option_map_or (λ d. list_any (λ op. same_text op.name.text text) d.ops) o false) e ∙ k)))
    (none_ambiguous ds all ns (λ m k. h m (or_right (nat_eq m n) (is_among ns m) k)))

module _ (parents : List (List ℕ)) (down : IsDownward parents) where
  no_parent : (c : ℕ) → row_at parents c ≡ [] → Splits (ancestors parents c) c []
  no_parent c e =
      let least = least_above parents down c in
      record {
        top = least.class;
        split = λ z h.
            least.least (λ z. nat_eq z c || is_among [] z) (or_left (nat_eq c c) false (itself c))
            (λ d k. subst (AllByRecursion (λ p. (nat_eq p c || is_among [] p) ≡ true)) (sym (ap (row_at parents) (only c d k) ∙ e)) tt) z h;
        join = λ z h. absurd (true≢false (sym h));
      }

  one_parent : (c p : ℕ) → row_at parents c ≡ p ∷ [] → Splits (ancestors parents c) c (ancestors parents p)
  one_parent c p e =
      let least = least_above parents down c in
      let above = least_above parents down p in
      let held : ℕ → Bool = λ z. nat_eq z c || is_among (ancestors parents p) z in
      record {
        top = least.class;
        split = λ z h.
            least.least held (or_left (nat_eq c c) (is_among (ancestors parents p) c) (itself c))
            (λ d k. ⊎_elim
            (λ t. subst (AllByRecursion (λ q. held q ≡ true)) (sym (ap (row_at parents) t.1 ∙ e))
            (or_right (nat_eq p c) (is_among (ancestors parents p) p) above.class, tt))
            (λ t. all_or c (ancestors parents p) (row_at parents d)
            (above.parents_too d (sym (ap (λ b. b || is_among (ancestors parents p) d) t.0) ∙ k)))
            (eqb_tells d c)) z h;
        join = λ z h.
            above.least (is_among (ancestors parents c)) ((subst (AllByRecursion (λ q. is_among (ancestors parents c) q ≡ true)) e
            (least.parents_too c least.class)).0) least.parents_too z h;
      }

module _ (ds : Decls) (text : List ℕ) where
  abbrev declares : ℕ → Bool
  declares c = declares_op ds text c

  abbrev anc : ℕ → List ℕ
  anc c = ancestors (parent_numbers ds) c

  -- a class that declares it overrides all
  own_overrides : (c : ℕ) → is_among (anc c) c ≡ true → declares c ≡ true → has_overriding ds (anc c) text ≡ true
  own_overrides c top e =
      any_of (overrides_all ds (anc c) text) (anc c) c top
      (ap₂ (λ a b. a && b) e (all_of (λ d. not (declares d) || is_among (anc c) d) (anc c) (λ z h. or_right (not (declares z)) (is_among (anc c) z) h)))

  covered : (c d : ℕ) (rest others : List ℕ) → declares c ≡ false → (nat_eq d c || is_among rest d) ≡ true →
      list_all (λ z. not (declares z) || is_among others z) rest ≡ true → (not (declares d) || is_among others d) ≡ true
  covered c d rest others e h all =
      ⊎_elim
      (λ t. or_left (not (declares d)) (is_among others d) (ap (λ b. not b) (ap declares t.1 ∙ e)))
      (λ t. all_at (λ z. not (declares z) || is_among others z) rest d all (sym (ap (λ b. b || is_among rest d) t.0) ∙ h))
      (eqb_tells d c)

  -- what overrides all others above the parent still does
  further_down : (c : ℕ) (rest : List ℕ) → Splits (anc c) c rest → declares c ≡ false → has_overriding ds rest text ≡ true
      → has_overriding ds (anc c) text ≡ true
  further_down c rest s e h =
      let one = found (overrides_all ds rest text) rest h in
      any_of (overrides_all ds (anc c) text) (anc c) one.at (s.join one.at one.there)
      (ap₂ (λ a b. a && b)
      (first_of (declares one.at) (list_all (λ d. not (declares d) || is_among (anc one.at) d) rest) one.passes)
      (all_of (λ d. not (declares d) || is_among (anc one.at) d) (anc c) (λ z k. covered c z rest (anc one.at) e (s.split z k)
      (second_of (declares one.at) (list_all (λ d. not (declares d) || is_among (anc one.at) d) rest) one.passes))))

  declared_above : (c z : ℕ) (rest : List ℕ) → declares c ≡ false → declares z ≡ true → (nat_eq z c || is_among rest z) ≡ true → list_any declares rest ≡ true
  declared_above c z rest e h k =
      ⊎_elim
      (λ t. absurd (true≢false (sym h ∙ ap declares t.1 ∙ e)))
      (λ t. any_of declares rest z (sym (ap (λ b. b || is_among rest z) t.0) ∙ k) h)
      (eqb_tells z c)

  by_own : (c : ℕ) (rest : List ℕ) → Splits (anc c) c rest → (list_any declares rest ≡ true → has_overriding ds rest text ≡ true) →
      list_any declares (anc c) ≡ true → has_overriding ds (anc c) text ≡ true
  by_own c rest s before h =
      ⊎_elim
      (λ e. own_overrides c s.top e)
      (λ e. let one = found declares (anc c) h in
      further_down c rest s e (before (declared_above c one.at rest e one.passes (s.split one.at one.there))))
      (cases_Bool (declares c))

by_row : (ds : Decls) (text : List ℕ) (n c : ℕ) (row : List ℕ) → row_at (parent_numbers ds) c ≡ row → Parents row →
    ((p : ℕ) → row_at (parent_numbers ds) c ≡ p ∷ [] → list_any (declares_op ds text) (ancestors (parent_numbers ds) p) ≡ true →
    has_overriding ds (ancestors (parent_numbers ds) p) text ≡ true) →
    list_any (declares_op ds text) (ancestors (parent_numbers ds) c) ≡ true → has_overriding ds (ancestors (parent_numbers ds) c) text ≡ true
by_row ds text n c _ e NoParent f h = by_own ds text c [] (no_parent (parent_numbers ds) (downward ds) c e) (λ k. absurd (true≢false (sym k))) h
by_row ds text n c _ e (OneParent p) f h =
    by_own ds text c (ancestors (parent_numbers ds) p) (one_parent (parent_numbers ds) (downward ds) c p e) (f p e) h

module _ (ds : Decls) (single : list_all (λ row. nat_lt (length row) 2) (parent_numbers ds) ≡ true) where
  overridden : (text : List ℕ) (n c : ℕ) → c < n → list_any (declares_op ds text) (ancestors (parent_numbers ds) c) ≡ true
      → has_overriding ds (ancestors (parent_numbers ds) c) text ≡ true
  overridden text zero c low h = absurd (omega arith)
  overridden text (suc n) c low h =
      by_row ds text n c (row_at (parent_numbers ds) c) refl (rows_few (parent_numbers ds) single c)
      (λ p e k. overridden text n p (let less = (subst (AllByRecursion (λ q. q < c)) e (downward ds c)).0 in omega arith) k) h

  pub not_ambiguous : (c : ℕ) → is_ambiguous ds (ancestors (parent_numbers ds) c) ≡ false
  not_ambiguous c =
      none_ambiguous ds (ancestors (parent_numbers ds) c) (ancestors (parent_numbers ds) c)
      (λ n there text e. overridden text (suc c) c (omega arith) (any_of (declares_op ds text) (ancestors (parent_numbers ds) c) n there e))
