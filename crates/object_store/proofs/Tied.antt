-- Rows that stand for links at an end, with one link more and one less.
use Rattle.std.proofs.Common.{◌≡◌, ◌↔◌, ◌⊎◌, inl, inr, ℕ, true, false, cond, List, Some, None, sym, ap, ◌∙◌, subst, is_eq}
use Rattle.std.specs.BTreeMap.{insert_entry, is_at}
use Rattle.std.specs.Cmp.{nat_cmp_total}
use Rattle.std.specs.List.Sorted.{IsStrictlySortedBy}
use Rattle.std.specs.Map.{keys_of, lookup, remove_entry}
use Rattle.std.specs.Ordering.{nat_cmp}
use Rattle.std.proofs.lemmas.Cmp.{tied_itself}
use Rattle.std.proofs.lemmas.Map.Lookups.{exact_unsigned}
use Rattle.object_state.specs.State.{link_cmp}
use Rattle.object_state.proofs.Back.{link_exact, link_total}
use Rattle.object_state.proofs.Keyed.{by_test, found_insert, found_remove, kept_insert, kept_remove, put_insert}
use Rattle.object_store.specs.Indexes.{RowsAreOrdered, with_row}
use Rattle.object_store.proofs.Rows.{other_key, same_key}

module _ (rows new : ℕ × ℕ → List (ℕ × ℕ)) (k : ℕ × ℕ) (change : List (ℕ × ℕ) → List (ℕ × ℕ))
    (changed : (q : ℕ × ℕ) → new q ≡ with_row rows k (change (rows k)) q) where
  pub at_same : (q : ℕ × ℕ) → is_at (link_cmp k) q ≡ true → new q ≡ change (rows q)
  at_same q y =
      changed q ∙ ap (λ b. cond b (change (rows k)) (rows q)) y ∙ ap (λ (z : ℕ × ℕ). change (rows z)) (same_key k q y)

  pub at_other : (q : ℕ × ℕ) → is_at (link_cmp k) q ≡ false → new q ≡ rows q
  at_other q n = changed q ∙ ap (λ b. cond b (change (rows k)) (rows q)) n

  pub rows_ordered : ((row : List (ℕ × ℕ)) → IsStrictlySortedBy nat_cmp (keys_of row) → IsStrictlySortedBy nat_cmp (keys_of (change row)))
      → RowsAreOrdered rows → RowsAreOrdered new
  rows_ordered keeps ups q =
      by_test (is_at (link_cmp k) q)
      (λ y. subst (λ (row : List (ℕ × ℕ)). IsStrictlySortedBy nat_cmp (keys_of row)) (sym (at_same q y)) (keeps (rows q) (ups q)))
      (λ n. subst (λ (row : List (ℕ × ℕ)). IsStrictlySortedBy nat_cmp (keys_of row)) (sym (at_other q n)) (ups q))

module _ (near far : ℕ × ℕ → ℕ) (whole : (x y : ℕ × ℕ) → near x ≡ near y → far x ≡ far y → x ≡ y) where
  abbrev pub place : (ℕ × ℕ) × (ℕ × ℕ) → ℕ × ℕ
  place e = (e.0.0, near e.1)

  abbrev pub Stand : List ((ℕ × ℕ) × (ℕ × ℕ)) → (ℕ × ℕ → List (ℕ × ℕ)) → Type 0
  Stand links rows = (e : (ℕ × ℕ) × (ℕ × ℕ)) → (lookup (is_at (nat_cmp e.0.1)) (rows (e.0.0, near e.1)) ≡ Some (far e.1))
      ↔ (lookup (is_at (link_cmp e.0)) links ≡ Some e.1)

  module _ (links : List ((ℕ × ℕ) × (ℕ × ℕ))) (rows new : ℕ × ℕ → List (ℕ × ℕ)) (d : (ℕ × ℕ) × (ℕ × ℕ)) (tied : Stand links rows) where
    pub stand_more : ((q : ℕ × ℕ) → new q ≡ with_row rows (place d) (insert_entry nat_cmp (rows (place d)) d.0.1 (far d.1)) q)
        → lookup (is_at (link_cmp d.0)) links ≡ None → lookup (is_at (nat_cmp d.0.1)) (rows (place d)) ≡ None
        → Stand (insert_entry link_cmp links d.0 d.1) new
    stand_more more free free' e = (there, back)
      where
        change : List (ℕ × ℕ) → List (ℕ × ℕ)
        change row = insert_entry nat_cmp row d.0.1 (far d.1)

        told : lookup (is_at (nat_cmp e.0.1)) (rows (place e)) ≡ Some (far e.1) → lookup (is_at (link_cmp e.0)) (insert_entry link_cmp links d.0 d.1) ≡ Some e.1
        told f = kept_insert link_total link_exact links d.0 d.1 e.0 e.1 free ((tied e).0 f)

        either : place d ≡ place e → ((e.0.1 ≡ d.0.1) × (far d.1 ≡ far e.1)) ⊎ (lookup (is_at (nat_cmp e.0.1)) (rows (place e)) ≡ Some (far e.1))
            → lookup (is_at (link_cmp e.0)) (insert_entry link_cmp links d.0 d.1) ≡ Some e.1
        either s (inl t) =
            let pair : d.1 ≡ e.1 = whole d.1 e.1 (ap (λ z. z.1) s) (t.1) in
            let same : d ≡ e = λ i. (((s i).0, sym (t.0) i), pair i) in
            subst (λ (x : (ℕ × ℕ) × (ℕ × ℕ)). lookup (is_at (link_cmp x.0)) (insert_entry link_cmp links d.0 d.1) ≡ Some x.1) same
            (put_insert link_total link_exact links d.0 d.1)
        either s (inr f) = told f

        there : lookup (is_at (nat_cmp e.0.1)) (new (place e)) ≡ Some (far e.1) → lookup (is_at (link_cmp e.0)) (insert_entry link_cmp links d.0 d.1) ≡ Some e.1
        there f = by_test (is_at (link_cmp (place d)) (place e))
            (λ y. either (same_key (place d) (place e) y) (found_insert nat_cmp_total exact_unsigned (rows (place e)) d.0.1 (far d.1) e.0.1 (far e.1)
            (ap (λ (row : List (ℕ × ℕ)). lookup (is_at (nat_cmp e.0.1)) row) (sym (at_same rows new (place d) change more (place e) y)) ∙ f)))
            (λ n. told (ap (λ (row : List (ℕ × ℕ)). lookup (is_at (nat_cmp e.0.1)) row) (sym (at_other rows new (place d) change more (place e) n)) ∙ f))

        put : lookup (is_at (nat_cmp d.0.1)) (new (place d)) ≡ Some (far d.1)
        put = ap (λ (row : List (ℕ × ℕ)). lookup (is_at (nat_cmp d.0.1)) row)
            (at_same rows new (place d) change more (place d) (ap is_eq (tied_itself link_total (place d))))
            ∙ put_insert nat_cmp_total exact_unsigned (rows (place d)) d.0.1 (far d.1)

        kept : lookup (is_at (nat_cmp e.0.1)) (rows (place e)) ≡ Some (far e.1) → lookup (is_at (nat_cmp e.0.1)) (new (place e)) ≡ Some (far e.1)
        kept f = by_test (is_at (link_cmp (place d)) (place e))
            (λ y. ap (λ (row : List (ℕ × ℕ)). lookup (is_at (nat_cmp e.0.1)) row) (at_same rows new (place d) change more (place e) y)
            ∙ kept_insert nat_cmp_total exact_unsigned (rows (place e)) d.0.1 (far d.1) e.0.1 (far e.1)
            (ap (λ (z : ℕ × ℕ). lookup (is_at (nat_cmp d.0.1)) (rows z)) (sym (same_key (place d) (place e) y)) ∙ free') f)
            (λ n. ap (λ (row : List (ℕ × ℕ)). lookup (is_at (nat_cmp e.0.1)) row) (at_other rows new (place d) change more (place e) n) ∙ f)

        back : lookup (is_at (link_cmp e.0)) (insert_entry link_cmp links d.0 d.1) ≡ Some e.1 → lookup (is_at (nat_cmp e.0.1)) (new (place e)) ≡ Some (far e.1)
        back f = by (found_insert link_total link_exact links d.0 d.1 e.0 e.1 f)
          where
            by : ((e.0 ≡ d.0) × (d.1 ≡ e.1)) ⊎ (lookup (is_at (link_cmp e.0)) links ≡ Some e.1)
                → lookup (is_at (nat_cmp e.0.1)) (new (place e)) ≡ Some (far e.1)
            by (inl s) = let same : d ≡ e = λ i. (sym (s.0) i, s.1 i) in
                subst (λ (x : (ℕ × ℕ) × (ℕ × ℕ)). lookup (is_at (nat_cmp x.0.1)) (new (x.0.0, near x.1)) ≡ Some (far x.1)) same put
            by (inr s) = kept ((tied e).1 s)

    pub stand_less : ((q : ℕ × ℕ) → new q ≡ with_row rows (place d) (remove_entry (is_at (nat_cmp d.0.1)) (rows (place d))) q)
        → IsStrictlySortedBy link_cmp (keys_of links) → RowsAreOrdered rows → lookup (is_at (link_cmp d.0)) links ≡ Some d.1
        → Stand (remove_entry (is_at (link_cmp d.0)) links) new
    stand_less less up ups at e = (there, back)
      where
        change : List (ℕ × ℕ) → List (ℕ × ℕ)
        change row = remove_entry (is_at (nat_cmp d.0.1)) row

        inside : (x y : ℕ × ℕ) → Some x ≡ Some y → x ≡ y
        inside x y s = cc

        there : lookup (is_at (nat_cmp e.0.1)) (new (place e)) ≡ Some (far e.1) → lookup (is_at (link_cmp e.0)) (remove_entry (is_at (link_cmp d.0)) links) ≡ Some e.1
        there f = by_test (is_at (link_cmp (place d)) (place e))
            (λ y.
            let r = found_remove nat_cmp_total exact_unsigned (rows (place e)) d.0.1 e.0.1 (far e.1) (ups (place e))
            (ap (λ (row : List (ℕ × ℕ)). lookup (is_at (nat_cmp e.0.1)) row) (sym (at_same rows new (place d) change less (place e) y)) ∙ f) in
            kept_remove link_total link_exact links d.0 e.0 e.1 up (λ same. r.1 (ap (λ (z : ℕ × ℕ). z.1) same)) ((tied e).0 r.0))
            (λ n.
            let e' : lookup (is_at (link_cmp e.0)) links ≡ Some e.1 =
            (tied e).0 (ap (λ (row : List (ℕ × ℕ)). lookup (is_at (nat_cmp e.0.1)) row) (sym (at_other rows new (place d) change less (place e) n)) ∙ f) in
            kept_remove link_total link_exact links d.0 e.0 e.1 up (λ same.
            let pair : e.1 ≡ d.1 = inside e.1 d.1 (sym e' ∙ ap (λ (z : ℕ × ℕ). lookup (is_at (link_cmp z)) links) same ∙ at) in
            other_key (place d) (place e) n (λ i. ((same i).0, near (pair i)))) e')

        back : lookup (is_at (link_cmp e.0)) (remove_entry (is_at (link_cmp d.0)) links) ≡ Some e.1 → lookup (is_at (nat_cmp e.0.1)) (new (place e)) ≡ Some (far e.1)
        back f =
            let r = found_remove link_total link_exact links d.0 e.0 e.1 up f in
            let told : lookup (is_at (nat_cmp e.0.1)) (rows (place e)) ≡ Some (far e.1) = (tied e).1 r.0 in
            by_test (is_at (link_cmp (place d)) (place e))
            (λ y. ap (λ (row : List (ℕ × ℕ)). lookup (is_at (nat_cmp e.0.1)) row) (at_same rows new (place d) change less (place e) y)
            ∙ kept_remove nat_cmp_total exact_unsigned (rows (place e)) d.0.1 e.0.1 (far e.1) (ups (place e))
            (λ same. r.1 (λ i. ((sym (same_key (place d) (place e) y) i).0, same i))) told)
            (λ n. ap (λ (row : List (ℕ × ℕ)). lookup (is_at (nat_cmp e.0.1)) row) (at_other rows new (place d) change less (place e) n) ∙ told)
