-- Counts that are replaced one after the other.
use Rattle.std.proofs.Common.{◌≡◌, ℕ, ◌+◌, Bool, true, false, cond, ◌&&◌, Option, None, refl, sym, ap, ◌∙◌, subst, true≢false, arith}
use Rattle.std.specs.BTreeMap.{is_at}
use Rattle.std.specs.Cmp.{nat_eq_equiv}
use Rattle.std.specs.Option.{option_and_then}
use Rattle.std.specs.Prelude.{nat_eq, nat_lt}
use Rattle.std.proofs.lemmas.Bool.{eq-eqb, eqb-true, lt-ltb, ltb-true, ltb-false}
use Rattle.class_model.specs.declared.numbers.End.{End}
use Rattle.class_model.specs.declared.numbers.End.TheVariants.{First, Second}
use Rattle.class_model.specs.declared.object_model.ObjectModel.{ObjectModel}
use Rattle.object_state.specs.declared.change.LinkChange.{LinkChange}
use Rattle.object_state.proofs.Hits.{same_end}
use Rattle.object_state.proofs.Keyed.{by_test}
use Rattle.invariant_cache.specs.Broken.{Navigation, unless_allowed}
use Rattle.invariant_cache.specs.Counts.{Counts, counted, found, navigation_cmp}
use Rattle.invariant_cache.specs.Noting.{Recount, Recounts, at, linked, may_start, started, to_first, to_second}
use Rattle.invariant_cache.proofs.Navigations.{at_itself, at_parts, by_navigation}

skip : {X : Type 0} (b : Bool) (x y : X) → b ≡ false → cond b x y ≡ y
skip true x y h = absurd (true≢false h)
skip false x y h = refl

take : {X : Type 0} (b : Bool) (x y : X) → b ≡ true → cond b x y ≡ x
take true x y h = refl
take false x y h = absurd (true≢false (sym h))

-- what is replaced at one navigation, and what stays at the others
pub at_here : (k : Navigation) (f : Option ℕ → Option ℕ) (count : Option ℕ) → at k f k count ≡ f count
at_here k f count = take (is_at (navigation_cmp k) k) (f count) count (at_itself k)

pub at_other : (k n : Navigation) (f : Option ℕ → Option ℕ) (count : Option ℕ) → is_at (navigation_cmp n) k ≡ false → at k f n count ≡ count
at_other k n f count h = skip (is_at (navigation_cmp n) k) (f count) count h

module _ (m : ObjectModel) where
  -- the same of the counts that there are
  pub recounts_as : (f g : Recount) (old new : Counts) → Recounts m f old new → ((n : Navigation) → f n (counted old.counts n) ≡ g n (counted old.counts n))
      → Recounts m g old new
  recounts_as f g old new r h = record { counts = λ n. r.counts n ∙ h n; broken = r.broken }

  -- nothing is replaced
  pub recounts_none : (g : Recount) (k : Counts) → ((n : Navigation) → counted k.counts n ≡ g n (counted k.counts n)) → Recounts m g k k
  recounts_none g k h = record { counts = h; broken = λ s. s }

  -- one after the other
  pub recounts_then : (f g h : Recount) (a b c : Counts) → Recounts m f a b → Recounts m g b c → ((n : Navigation) (x : Option ℕ) → g n (f n x) ≡ h n x)
      → Recounts m h a c
  recounts_then f g h a b c r t e = record {
    counts = λ n. t.counts n ∙ ap (g n) (r.counts n) ∙ e n (counted a.counts n);
    broken = λ s. t.broken (r.broken s);
  }

  -- another count at a navigation, and in the list if it is not allowed
  pub recounts_at : (old new : Counts) (k : Navigation) (v w : Option ℕ) → ((n : Navigation) → counted new.counts n ≡ at k (λ x. v) n (counted old.counts n))
      → ((n : Navigation) → found new.broken n ≡ at k (λ x. w) n (found old.broken n)) → w ≡ option_and_then (unless_allowed m k) v
      → Recounts m (at k (λ x. v)) old new
  recounts_at old new k v w counts broken both = record {
    counts = counts;
    broken = λ split n. by_navigation n k
        (λ e. rw e (broken k ∙ at_here k (λ x. w) (found old.broken k) ∙ both ∙ ap (option_and_then (unless_allowed m k)) (sym (counts k
        ∙ at_here k (λ x. v) (counted old.counts k)))))
        (λ h. broken n ∙ at_other k n (λ x. w) (found old.broken n) h ∙ split n ∙ ap (option_and_then (unless_allowed m n)) (sym (counts n
        ∙ at_other k n (λ x. v) (counted old.counts n) h)));
  }

  -- a navigation that has no count keeps none
  pub recounts_absent : (k : Counts) (n : Navigation) (f : Option ℕ → Option ℕ) → counted k.counts n ≡ None → f None ≡ None → Recounts m (at n f) k k
  recounts_absent k n f none stays = recounts_none (at n f) k (λ q. by_navigation q n
      (λ e. rw e (none ∙ sym stays ∙ ap f (sym none) ∙ sym (at_here n f (counted k.counts n))))
      (λ h. sym (at_other n q f (counted k.counts q) h)))

  -- a navigation that has one gets another
  pub recounts_present : (old new : Counts) (n : Navigation) (f : Option ℕ → Option ℕ) (v : Option ℕ) → Recounts m (at n (λ x. v)) old new
      → f (counted old.counts n) ≡ v → Recounts m (at n f) old new
  recounts_present old new n f v r is = recounts_as (at n (λ x. v)) (at n f) old new r (λ q. by_navigation q n
      (λ e. rw e (at_here n (λ x. v) (counted old.counts n) ∙ sym is ∙ sym (at_here n f (counted old.counts n))))
      (λ h. at_other n q (λ x. v) (counted old.counts q) h ∙ sym (at_other n q f (counted old.counts q) h)))

  -- the same, where what was there before is known otherwise
  pub recounts_from : (f : Recount) (a b new : Counts) → a ≡ b → Recounts m f a new → Recounts m f b new
  recounts_from f a b new e r = subst (λ (z : Counts). Recounts m f z new) e r

  -- another count, if a test passes
  pub recounts_if : (n : Navigation) (b : Bool) (v : Option ℕ) (old new : Counts) → true ≡ b → Recounts m (at n (λ x. v)) old new
      → Recounts m (at n (λ x. cond b v x)) old new
  recounts_if n b v old new h r = subst (λ (z : Bool). Recounts m (at n (λ x. cond z v x)) old new) h r

  pub recounts_unless : (n : Navigation) (b : Bool) (v : Option ℕ) (k : Counts) → false ≡ b → Recounts m (at n (λ x. cond b v x)) k k
  recounts_unless n b v k h = subst (λ (z : Bool). Recounts m (at n (λ x. cond z v x)) k k) h (recounts_none (at n (λ x. x)) k (λ q.
      by_navigation q n (λ e. rw e (sym (at_here n (λ x. x) (counted k.counts n)))) (λ h. sym (at_other n q (λ x. x) (counted k.counts q) h))))

reached : (a b : Bool) → (a && true && b) ≡ (a && b)
reached a b = and_true a b
  where
    and_true : (a b : Bool) → (a && true && b) ≡ (a && b)
    and_true true b = refl
    and_true false b = refl

unreached : (a b : Bool) → (a && false && b) ≡ false
unreached true b = refl
unreached false b = refl

swapped : (a b c d : ℕ) → (nat_eq a b && nat_eq c d) ≡ (nat_eq b a && nat_eq d c)
swapped a b c d = λ i. nat_eq_equiv.symm a b i && nat_eq_equiv.symm c d i

-- a link is reached by the two navigations from its objects, which differ by their ends
pub linked_twice : (d : LinkChange) (f : Option ℕ → Option ℕ) (n : Navigation) (x : Option ℕ) → at (to_second d) f n (at (to_first d) f n x) ≡ linked d f n x
linked_twice d f (a, (First, p)) x =
    at_other (to_second d) (a, (First, p)) f _ (at_parts (a, (First, p)) (to_second d) ∙ unreached (nat_eq a d.assoc) (nat_eq p d.first))
    ∙ ap (λ b. cond b (f x) x) (at_parts (a, (First, p)) (to_first d) ∙ reached (nat_eq a d.assoc) (nat_eq p d.second) ∙ swapped a d.assoc p d.second)
linked_twice d f (a, (Second, p)) x =
    ap (λ y. at (to_second d) f (a, (Second, p)) y) (at_other (to_first d) (a, (Second, p)) f x (at_parts (a, (Second, p)) (to_first d)
    ∙ unreached (nat_eq a d.assoc) (nat_eq p d.second)))
    ∙ ap (λ b. cond b (f x) x) (at_parts (a, (Second, p)) (to_second d) ∙ reached (nat_eq a d.assoc) (nat_eq p d.first) ∙ swapped a d.assoc p d.first)

pub linked_two : (m : ObjectModel) (d : LinkChange) (f : Option ℕ → Option ℕ) (n k : Navigation) (a b e : Counts) → n ≡ to_first d → k ≡ to_second d
    → Recounts m (at n f) a b → Recounts m (at k f) b e → Recounts m (linked d f) a e
linked_two m d f n k a b e p q r t =
    recounts_then m (at (to_first d) f) (at (to_second d) f) (linked d f) a b e (subst (λ (z : Navigation). Recounts m (at z f) a b) p r)
    (subst (λ (z : Navigation). Recounts m (at z f) b e) q t) (linked_twice d f)

-- the navigations of one association more
module _ (m : ObjectModel) (c o : ℕ) (v : Option ℕ) where
  abbrev pub start : Navigation → Recount
  start n = at n (λ x. cond (may_start m c n) v x)

  below_none : (a : ℕ) → nat_lt a 0 ≡ false
  below_none a = by_test (nat_lt a 0) (λ y. let l = ltb-true a 0 y in absurd (omega arith)) (λ n. n)

  pub started_none : (n : Navigation) (x : Option ℕ) → x ≡ started m c o v 0 n x
  started_none n x = sym (ap (λ b. cond (b && (nat_eq n.1.1 o && may_start m c n)) v x) (below_none n.0))

  elsewhere : (a i p : ℕ) (e f : End) → nat_eq a i ≡ false → is_at (navigation_cmp (a, (e, p))) (i, (f, o)) ≡ false
  elsewhere a i p e f h = at_parts (a, (e, p)) (i, (f, o)) ∙ ap (λ b. b && same_end e f && nat_eq p o) h

  not_before : (a i : ℕ) → nat_eq a i ≡ false → nat_lt a i ≡ nat_lt a (i + 1)
  not_before a i h = by_test (nat_lt a i)
      (λ y. let l = ltb-true a i y in y ∙ sym (lt-ltb a (i + 1) (omega arith)))
      (λ n. let l = ltb-false a i n in by_test (nat_lt a (i + 1))
      (λ y. let k = ltb-true a (i + 1) y in let same : a ≡ i = omega arith in absurd (true≢false (sym (eq-eqb a i same) ∙ h)))
      (λ k. n ∙ sym k))

  here_before : (a i : ℕ) → a ≡ i → nat_lt a i ≡ false
  here_before a i h = by_test (nat_lt a i) (λ y. let l = ltb-true a i y in absurd (omega arith)) (λ n. n)

  chosen : (s : Bool) (t : Bool) (x : Option ℕ) → cond t (cond s v x) x ≡ cond (t && s) v x
  chosen s true x = refl
  chosen s false x = refl

  abbrev first : ℕ → Navigation
  first i = (i, (First, o))

  abbrev second : ℕ → Navigation
  second i = (i, (Second, o))

  pub started_more : (i : ℕ) (n : Navigation) (x : Option ℕ) → start (second i) n (start (first i) n (started m c o v i n x)) ≡ started m c o v (i + 1) n x
  started_more i (a, (e, p)) x = by_test (nat_eq a i) (λ y. here e (eqb-true a i y)) (λ h.
      at_other (second i) (a, (e, p)) (λ x. cond (may_start m c (second i)) v x) (start (first i) (a, (e, p)) (started m c o v i (a, (e, p)) x))
      (elsewhere a i p e Second h)
      ∙ at_other (first i) (a, (e, p)) (λ x. cond (may_start m c (first i)) v x) (started m c o v i (a, (e, p)) x) (elsewhere a i p e First h)
      ∙ ap (λ b. cond (b && (nat_eq p o && may_start m c (a, (e, p)))) v x) (not_before a i h))
    where
      none : (e : End) → a ≡ i → started m c o v i (a, (e, p)) x ≡ x
      none e s = ap (λ b. cond (b && (nat_eq p o && may_start m c (a, (e, p)))) v x) (here_before a i s)

      now : (e : End) → a ≡ i → cond (nat_eq p o && may_start m c (i, (e, o))) v x ≡ started m c o v (i + 1) (a, (e, p)) x
      now e s = ap (λ (z : ℕ). cond (nat_eq p o && may_start m c (z, (e, o))) v x) (sym s)
          ∙ ap (λ b. cond (b && (nat_eq p o && may_start m c (a, (e, p)))) v x) (sym (lt-ltb a (i + 1) (omega arith)))

      here : (e : End) → a ≡ i → start (second i) (a, (e, p)) (start (first i) (a, (e, p)) (started m c o v i (a, (e, p)) x)) ≡ started m c o v (i + 1) (a, (e, p)) x
      here First s =
          at_other (second i) (a, (First, p)) (λ x. cond (may_start m c (second i)) v x) (start (first i) (a, (First, p)) (started m c o v i (a, (First, p)) x))
          (at_parts (a, (First, p)) (second i) ∙ unreached (nat_eq a i) (nat_eq p o))
          ∙ ap (start (first i) (a, (First, p))) (none First s)
          ∙ ap (λ b. cond b (cond (may_start m c (first i)) v x) x) (at_parts (a, (First, p)) (first i) ∙ reached (nat_eq a i) (nat_eq p o)
          ∙ ap (λ b. b && nat_eq p o) (eq-eqb a i s))
          ∙ chosen (may_start m c (first i)) (nat_eq p o) x
          ∙ now First s
      here Second s =
          ap (start (second i) (a, (Second, p))) (at_other (first i) (a, (Second, p)) (λ x. cond (may_start m c (first i)) v x)
          (started m c o v i (a, (Second, p)) x) (at_parts (a, (Second, p)) (first i) ∙ unreached (nat_eq a i) (nat_eq p o)) ∙ none Second s)
          ∙ ap (λ b. cond b (cond (may_start m c (second i)) v x) x) (at_parts (a, (Second, p)) (second i) ∙ reached (nat_eq a i) (nat_eq p o)
          ∙ ap (λ b. b && nat_eq p o) (eq-eqb a i s))
          ∙ chosen (may_start m c (second i)) (nat_eq p o) x
          ∙ now Second s

  pub started_two : (i : ℕ) (a b d e : Counts) → Recounts m (started m c o v i) a b → Recounts m (start (first i)) b d → Recounts m (start (second i)) d e
      → Recounts m (started m c o v (i + 1)) a e
  started_two i a b d e r s t =
      recounts_then m (λ n x. start (first i) n (started m c o v i n x)) (start (second i)) (started m c o v (i + 1)) a d e
      (recounts_then m (started m c o v i) (start (first i)) (λ n x. start (first i) n (started m c o v i n x)) a b d r s (λ n x. refl)) t (started_more i)

  pub started_all : (i k : ℕ) (a b : Counts) → i ≡ k → Recounts m (started m c o v i) a b → Recounts m (started m c o v k) a b
  started_all i k a b h r = subst (λ (z : ℕ). Recounts m (started m c o v z) a b) h r
