-- Links and their indexes.
use Rattle.std.proofs.Common.{◌≡◌, ◌↔◌, ℕ, Bool, true, false, cond, ◌&&◌, List, [], ◌∷◌, map}
use Rattle.std.proofs.Common.{Option, Some, None, refl, sym, ap, ◌∙◌, subst, true≢false, Ordering, Less, Equal, Greater, is_eq}
use Rattle.std.specs.BTreeMap.{insert_entry, is_at}
use Rattle.std.specs.Cmp.{nat_cmp_total}
use Rattle.std.specs.List.{filter, find}
use Rattle.std.specs.List.Sorted.{IsStrictlySortedBy}
use Rattle.std.specs.Map.{keys_of, lookup, remove_entry, update}
use Rattle.std.specs.Option.{option_and_then, option_map}
use Rattle.std.specs.Ordering.{nat_cmp, ordering_then}
use Rattle.std.specs.Prelude.{nat_eq}
use Rattle.std.proofs.lemmas.Cmp.{tied_itself}
use Rattle.std.proofs.lemmas.Bool.{eq-eqb, eqb-true}
use Rattle.std.proofs.lemmas.Map.Lookups.{exact_unsigned}
use Rattle.object_state.specs.State.{link_cmp}
use Rattle.object_store.specs.Indexes.{LinksAreTied, RowsAreOrdered, same_pair, stamp_in, with_row}
use Rattle.object_state.proofs.Back.{link_exact, link_total}
use Rattle.object_state.proofs.Keyed.{both, both_true, equal, find_none, find_some, map_twice, some≢none, sorted_insert}
use Rattle.object_state.proofs.Keyed.{sorted_remove}
use Rattle.object_store.proofs.Stamped.{stamped_less, stamped_more}
use Rattle.object_store.proofs.Grouped.{lookup_selected, selected, sorted_selected}
use Rattle.object_store.proofs.Listed.{same_entries}
use Rattle.object_store.proofs.Tied.{rows_ordered, stand_less, stand_more}

sorted_none : {K : Type 0} (R : K → K → Ordering) → IsStrictlySortedBy R []
unfolding IsStrictlySortedBy
sorted_none R = tt

nothing : {X Y : Type 0} (x : X) (y : Y) → (None ≡ Some y) ↔ (None ≡ Some x)
nothing x y = (λ e. absurd (some≢none y (sym e)), λ e. absurd (some≢none x (sym e)))

pub tied_empty : LinksAreTied [] (λ k. None) (λ k. []) (λ k. [])
tied_empty = record {
  ordered = sorted_none link_cmp;
  seconds_ordered = λ k. sorted_none nat_cmp;
  firsts_ordered = λ k. sorted_none nat_cmp;
  stamps_tied = λ e. nothing e.1 e.0.1;
  seconds_tied = λ e. nothing e.1 e.1.1;
  firsts_tied = λ e. nothing e.1 e.1.0;
}

module _ (links : List ((ℕ × ℕ) × (ℕ × ℕ))) (stamps : ℕ × (ℕ × ℕ) → Option ℕ) (seconds firsts : ℕ × ℕ → List (ℕ × ℕ))
    (tied : LinksAreTied links stamps seconds firsts) where
  is_pair : ℕ → ℕ → ℕ → (ℕ × ℕ) × (ℕ × ℕ) → Bool
  is_pair a f g e = nat_eq e.0.0 a && nat_eq e.1.0 f && nat_eq e.1.1 g

  inside : (a b : ℕ) → Some a ≡ Some b → a ≡ b
  inside a b e = cc

  -- the stamp of a pair
  pub stamp_found : (a f g : ℕ) → stamps (a, (f, g)) ≡ stamp_in links a f g
  stamp_found a f g = by (find (λ e. nat_eq e.0.0 a && nat_eq e.1.0 f && nat_eq e.1.1 g) links) refl
    where
      none : (u : Option ℕ) → find (λ e. nat_eq e.0.0 a && nat_eq e.1.0 f && nat_eq e.1.1 g) links ≡ None
          → stamps (a, (f, g)) ≡ u → u ≡ None
      none None h t = refl
      none (Some n) h t =
          let l : lookup (is_at (link_cmp (a, n))) links ≡ Some (f, g) = (tied.stamps_tied ((a, n), (f, g))).0 t in
          let r = find_none (λ e. nat_eq e.0.0 a && nat_eq e.1.0 f && nat_eq e.1.1 g) links h (is_at (link_cmp (a, n))) (f, g) l in
          let here : (a, n) ≡ r.0 = link_exact (a, n) r.0 (equal _ r.1) in
          absurd (true≢false (sym (both_true (nat_eq r.0.0 a) (nat_eq f f) (nat_eq g g) (eq-eqb _ _ (sym (ap (λ z. z.0) here))) (eq-eqb f f refl)
          (eq-eqb g g refl)) ∙ r.2))

      by : (u : Option ((ℕ × ℕ) × (ℕ × ℕ))) → find (λ e. nat_eq e.0.0 a && nat_eq e.1.0 f && nat_eq e.1.1 g) links ≡ u
          → stamps (a, (f, g)) ≡ option_map (λ e. e.0.1) u
      by None h = none (stamps (a, (f, g))) h refl
      by (Some e) h =
          let r = find_some link_total (λ e. nat_eq e.0.0 a && nat_eq e.1.0 f && nat_eq e.1.1 g) links e h tied.ordered in
          let p = both (nat_eq e.0.0 a && nat_eq e.1.0 f) (nat_eq e.1.1 g) r.1 in
          let q = both (nat_eq e.0.0 a) (nat_eq e.1.0 f) p.0 in
          let first : e.0.0 ≡ a = eqb-true _ _ q.0 in
          let second : e.1.0 ≡ f = eqb-true _ _ q.1 in
          let third : e.1.1 ≡ g = eqb-true _ _ p.1 in
          subst (λ (k : ℕ × (ℕ × ℕ)). stamps k ≡ Some e.0.1) (λ i. (first i, (second i, third i))) ((tied.stamps_tied e).1 r.0)

  no_entry : (u : Option ℕ) → ((n : ℕ) → u ≡ Some n → ⊥) → u ≡ None
  no_entry None h = refl
  no_entry (Some n) h = absurd (h n refl)

  -- what is free in the links is free in the rows
  pub first_free : (a f st : ℕ) → lookup (is_at (link_cmp (a, st))) links ≡ None → lookup (is_at (nat_cmp st)) (seconds (a, f)) ≡ None
  first_free a f st free = no_entry (lookup (is_at (nat_cmp st)) (seconds (a, f))) (λ p h.
      some≢none (f, p) (sym ((tied.seconds_tied ((a, st), (f, p))).0 h) ∙ free))

  second_free : (a f st : ℕ) → lookup (is_at (link_cmp (a, st))) links ≡ None → lookup (is_at (nat_cmp st)) (firsts (a, f)) ≡ None
  second_free a f st free = no_entry (lookup (is_at (nat_cmp st)) (firsts (a, f))) (λ p h.
      some≢none (p, f) (sym ((tied.firsts_tied ((a, st), (p, f))).0 h) ∙ free))

  module _ (a st f g : ℕ) (new : ℕ × (ℕ × ℕ) → Option ℕ) (seconds' firsts' : ℕ × ℕ → List (ℕ × ℕ)) where
    -- a link more
    pub tied_more : lookup (is_at (link_cmp (a, st))) links ≡ None → stamp_in links a f g ≡ None
        → ((k : ℕ × (ℕ × ℕ)) → new k ≡ update same_pair stamps (a, (f, g)) (Some st) k)
        → ((k : ℕ × ℕ) → seconds' k ≡ with_row seconds (a, f) (insert_entry nat_cmp (seconds (a, f)) st g) k)
        → ((k : ℕ × ℕ) → firsts' k ≡ with_row firsts (a, g) (insert_entry nat_cmp (firsts (a, g)) st f) k)
        → LinksAreTied (insert_entry link_cmp links (a, st) (f, g)) new seconds' firsts'
    tied_more free fresh more more_seconds more_firsts =
        let pair_free : stamps (a, (f, g)) ≡ None = stamp_found a f g ∙ fresh in
        record {
          ordered = sorted_insert link_total links (a, st) (f, g) tied.ordered;
          seconds_ordered = rows_ordered seconds seconds' (a, f) (λ row. insert_entry nat_cmp row st g) more_seconds
              (λ row. sorted_insert nat_cmp_total row st g) tied.seconds_ordered;
          firsts_ordered = rows_ordered firsts firsts' (a, g) (λ row. insert_entry nat_cmp row st f) more_firsts
              (λ row. sorted_insert nat_cmp_total row st f) tied.firsts_ordered;
          stamps_tied = stamped_more links stamps new tied.stamps_tied ((a, st), (f, g)) more free pair_free;
          seconds_tied = stand_more (λ x. x.0) (λ x. x.1) (λ x y s t i. (s i, t i)) links seconds seconds' ((a, st), (f, g)) tied.seconds_tied more_seconds free
              (first_free a f st free);
          firsts_tied = stand_more (λ x. x.1) (λ x. x.0) (λ x y s t i. (t i, s i)) links firsts firsts' ((a, st), (f, g)) tied.firsts_tied more_firsts free
              (second_free a g st free);
        }

    -- a link less
    pub tied_less : lookup (is_at (link_cmp (a, st))) links ≡ Some (f, g)
        → ((k : ℕ × (ℕ × ℕ)) → new k ≡ update same_pair stamps (a, (f, g)) None k)
        → ((k : ℕ × ℕ) → seconds' k ≡ with_row seconds (a, f) (remove_entry (is_at (nat_cmp st)) (seconds (a, f))) k)
        → ((k : ℕ × ℕ) → firsts' k ≡ with_row firsts (a, g) (remove_entry (is_at (nat_cmp st)) (firsts (a, g))) k)
        → LinksAreTied (remove_entry (is_at (link_cmp (a, st))) links) new seconds' firsts'
    tied_less there less less_seconds less_firsts = record {
      ordered = sorted_remove link_total (is_at (link_cmp (a, st))) links tied.ordered;
      seconds_ordered = rows_ordered seconds seconds' (a, f) (λ row. remove_entry (is_at (nat_cmp st)) row) less_seconds
          (λ row. sorted_remove nat_cmp_total (is_at (nat_cmp st)) row) tied.seconds_ordered;
      firsts_ordered = rows_ordered firsts firsts' (a, g) (λ row. remove_entry (is_at (nat_cmp st)) row) less_firsts
          (λ row. sorted_remove nat_cmp_total (is_at (nat_cmp st)) row) tied.firsts_ordered;
      stamps_tied = stamped_less links stamps new tied.stamps_tied ((a, st), (f, g)) less tied.ordered there;
      seconds_tied = stand_less (λ x. x.0) (λ x. x.1) (λ x y s t i. (s i, t i)) links seconds seconds' ((a, st), (f, g)) tied.seconds_tied less_seconds
          tied.ordered tied.seconds_ordered there;
      firsts_tied = stand_less (λ x. x.1) (λ x. x.0) (λ x y s t i. (t i, s i)) links firsts firsts' ((a, st), (f, g)) tied.firsts_tied less_firsts
          tied.ordered tied.firsts_ordered there;
    }

-- the links of one association, and their ends
pub same_nat : (a b : ℕ) → is_eq (nat_cmp a b) ≡ nat_eq b a
same_nat a b = by (nat_eq b a) (is_eq (nat_cmp a b)) refl refl
  where
    by : (x y : Bool) → nat_eq b a ≡ x → is_eq (nat_cmp a b) ≡ y → y ≡ x
    by true true e f = refl
    by false false e f = refl
    by true false e f = let s : b ≡ a = eqb-true b a e in
        absurd (true≢false (sym (ap is_eq (tied_itself nat_cmp_total a)) ∙ ap (λ z. is_eq (nat_cmp a z)) (sym s) ∙ f))
    by false true e f = let s : a ≡ b = exact_unsigned a b (equal _ f) in absurd (true≢false (sym (eq-eqb b a (sym s)) ∙ e))

then_eq : (r s : Ordering) → is_eq (ordering_then r s) ≡ (is_eq r && is_eq s)
then_eq Less s = refl
then_eq Equal s = refl
then_eq Greater s = refl

first_in : (r s : Ordering) → r ≡ Equal → ordering_then r s ≡ Less → s ≡ Less
first_in Less s h e = absurd (true≢false (sym (ap is_eq h)))
first_in Equal s h e = e
first_in Greater s h e = absurd (true≢false (sym (ap is_eq h)))

module _ (a : ℕ) where
  of_assoc : ℕ × ℕ → Bool
  of_assoc k = nat_eq k.0 a

  pub at_assoc : (n : ℕ) (k : ℕ × ℕ) → (nat_eq k.0 a && is_eq (nat_cmp n k.1)) ≡ is_at (link_cmp (a, n)) k
  at_assoc n k = (λ i. sym (same_nat a k.0) i && is_eq (nat_cmp n k.1)) ∙ sym (then_eq (nat_cmp a k.0) (nat_cmp n k.1))

  pub up_assoc : (k m : ℕ × ℕ) → nat_eq k.0 a ≡ true → nat_eq m.0 a ≡ true → link_cmp k m ≡ Less → nat_cmp k.1 m.1 ≡ Less
  up_assoc k m x y l = first_in (nat_cmp k.0 m.0) (nat_cmp k.1 m.1)
      (ap (λ z. nat_cmp k.0 z) (eqb-true m.0 a y ∙ sym (eqb-true k.0 a x)) ∙ tied_itself nat_cmp_total k.0) l

seconds_of : {A B C : Type 0} (f : B → C) (n : A → ℕ) (h : A → B) (xs : List A) → map (λ e. f (h e)) xs ≡ map (λ (e : ℕ × B). f e.1) (map (λ e. (n e, h e)) xs)
seconds_of f n h [] = refl
seconds_of f n h (x ∷ xs) = ap (λ l. f (h x) ∷ l) (seconds_of f n h xs)

-- the objects and the links at an end, from a row
module _ (near far : ℕ × ℕ → ℕ) (pack : ℕ → ℕ → ℕ × ℕ) (nears : (o p : ℕ) → near (pack o p) ≡ o) (fars : (o p : ℕ) → far (pack o p) ≡ p)
    (packs : (x : ℕ × ℕ) → pack (near x) (far x) ≡ x)
    (links : List ((ℕ × ℕ) × (ℕ × ℕ))) (rows : ℕ × ℕ → List (ℕ × ℕ)) (up : IsStrictlySortedBy link_cmp (keys_of links)) (ups : RowsAreOrdered rows)
    (tied : (e : (ℕ × ℕ) × (ℕ × ℕ)) → (lookup (is_at (nat_cmp e.0.1)) (rows (e.0.0, near e.1)) ≡ Some (far e.1)) ↔ (lookup (is_at (link_cmp e.0)) links
    ≡ Some e.1))
    (a o : ℕ) where
  found_same : (n : ℕ) (u : Option ℕ) (v : Option (ℕ × ℕ)) → lookup (is_at (nat_cmp n)) (rows (a, o)) ≡ u → lookup (is_at (link_cmp (a, n))) links ≡ v
      → u ≡ option_and_then (λ x. cond (nat_eq (near x) o) (Some (far x)) None) v
  found_same n None None h t = refl
  found_same n (Some p) v h t =
      let l : lookup (is_at (link_cmp (a, n))) links ≡ Some (pack o p) =
      (tied ((a, n), pack o p)).0 (subst (λ (z : ℕ × ℕ). lookup (is_at (nat_cmp n)) (rows (a, z.0)) ≡ Some z.1)
      (λ i. (sym (nears o p) i, sym (fars o p) i)) h) in
      sym (ap (λ (w : Option (ℕ × ℕ)). option_and_then (λ x. cond (nat_eq (near x) o) (Some (far x)) None) w) (sym t ∙ l)
      ∙ (λ i. cond (nat_eq (nears o p i) o) (Some (fars o p i)) None) ∙ ap (λ b. cond b (Some p) None) (eq-eqb o o refl))
  found_same n None (Some x) h t = by (nat_eq (near x) o) refl
    where
      by : (b : Bool) → nat_eq (near x) o ≡ b → None ≡ cond (nat_eq (near x) o) (Some (far x)) None
      by false e = rw e refl
      by true e = absurd (some≢none (far x) (sym ((tied ((a, n), x)).1 t) ∙ ap (λ z. lookup (is_at (nat_cmp n)) (rows (a, z))) (eqb-true (near x) o e) ∙ h))

  same_row : rows (a, o) ≡ selected link_total link_exact (λ k. k.1) (λ n. (a, n)) (λ k. nat_eq k.0 a) (λ x. nat_eq (near x) o) far links
  same_row = same_entries nat_cmp_total exact_unsigned _ _ (ups (a, o))
      (sorted_selected link_total link_exact (λ k. k.1) (λ n. (a, n)) (λ k. nat_eq k.0 a) (λ x. nat_eq (near x) o) far (up_assoc a) links up)
      (λ n. found_same n (lookup (is_at (nat_cmp n)) (rows (a, o))) (lookup (is_at (link_cmp (a, n))) links) refl refl
      ∙ sym (lookup_selected link_total link_exact (λ k. k.1) (λ n. (a, n)) (λ k. nat_eq k.0 a) (λ x. nat_eq (near x) o) far (at_assoc a) links n up))

  abbrev pub stands_at : (ℕ × ℕ) × (ℕ × ℕ) → Bool
  stands_at e = nat_eq e.0.0 a && nat_eq (near e.1) o

  pub ends_in_row : {C : Type 0} (h : ℕ → C) → map (λ (e : ℕ × ℕ). h e.1) (rows (a, o))
      ≡ map h (map (λ (e : (ℕ × ℕ) × (ℕ × ℕ)). far e.1) (filter stands_at links))
  ends_in_row h =
      ap (λ (l : List (ℕ × ℕ)). map (λ (e : ℕ × ℕ). h e.1) l) same_row
      ∙ sym (seconds_of h (λ (e : (ℕ × ℕ) × (ℕ × ℕ)). e.0.1) (λ e. far e.1) (filter stands_at links))
      ∙ map_twice h (λ (e : (ℕ × ℕ) × (ℕ × ℕ)). far e.1) (filter stands_at links)

  rebuilt : (es : List ((ℕ × ℕ) × (ℕ × ℕ))) → map (λ (e : (ℕ × ℕ) × (ℕ × ℕ)). ((a, e.0.1), pack o (far e.1))) (filter stands_at es) ≡ filter stands_at es
  rebuilt [] = refl
  rebuilt (e ∷ es) = by (nat_eq e.0.0 a) (nat_eq (near e.1) o) refl refl (rebuilt es)
    where
      by : (b c : Bool) → nat_eq e.0.0 a ≡ b → nat_eq (near e.1) o ≡ c
          → map (λ (e : (ℕ × ℕ) × (ℕ × ℕ)). ((a, e.0.1), pack o (far e.1))) (filter stands_at es) ≡ filter stands_at es
          → map (λ (e : (ℕ × ℕ) × (ℕ × ℕ)). ((a, e.0.1), pack o (far e.1))) (filter stands_at (e ∷ es)) ≡ filter stands_at (e ∷ es)
      by true true x y rest =
          let here : ((a, e.0.1), pack o (far e.1)) ≡ e =
          λ i. ((sym (eqb-true e.0.0 a x) i, e.0.1), (ap (λ z. pack z (far e.1)) (sym (eqb-true (near e.1) o y)) ∙ packs e.1) i) in
          rw (x, y) (λ i. here i ∷ rest i)
      by true false x y rest = rw (x, y) rest
      by false c x y rest = rw x rest

  pub links_in_row : map (λ (e : ℕ × ℕ). ((a, e.0), pack o e.1)) (rows (a, o)) ≡ filter stands_at links
  links_in_row =
      ap (λ (l : List (ℕ × ℕ)). map (λ (e : ℕ × ℕ). ((a, e.0), pack o e.1)) l) same_row
      ∙ sym (map_twice (λ (e : ℕ × ℕ). ((a, e.0), pack o e.1)) (λ (e : (ℕ × ℕ) × (ℕ × ℕ)). (e.0.1, far e.1)) (filter stands_at links))
      ∙ rebuilt links
