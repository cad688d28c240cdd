-- Links, and the stamps of their pairs.
use Rattle.std.proofs.Common.{◌≡◌, ◌↔◌, ◌⊎◌, inl, inr, ℕ, true, false, cond, List, [], Option, Some, None, refl, sym, ap, ◌∙◌, subst, true≢false}
use Rattle.std.specs.BTreeMap.{insert_entry, is_at}
use Rattle.std.specs.HashMap.{HashMap}
use Rattle.std.specs.List.Sorted.{IsStrictlySortedBy}
use Rattle.std.specs.Map.{keys_of, lookup, remove_entry, update}
use Rattle.std.specs.Prelude.{nat_eq}
use Rattle.std.proofs.lemmas.Bool.{eq-eqb, eqb-true}
use Rattle.object_state.specs.State.{link_cmp}
use Rattle.object_state.proofs.Back.{link_exact, link_total}
use Rattle.object_state.proofs.Keyed.{both, by_test, found_insert, found_remove, kept_insert, kept_remove, put_insert, some≢none}
use Rattle.object_store.specs.Indexes.{by_pair, same_pair, stamp_at}

equal_pairs : (p q : ℕ × (ℕ × ℕ)) → same_pair p q ≡ true → p ≡ q
equal_pairs p q h =
    let x = both (nat_eq p.0 q.0) _ h in
    let y = both (nat_eq p.1.0 q.1.0) (nat_eq p.1.1 q.1.1) x.1 in
    λ i. (eqb-true p.0 q.0 x.0 i, (eqb-true p.1.0 q.1.0 y.0 i, eqb-true p.1.1 q.1.1 y.1 i))

itself : (p : ℕ × (ℕ × ℕ)) → same_pair p p ≡ true
itself p = rw (eq-eqb p.0 p.0 refl, eq-eqb p.1.0 p.1.0 refl, eq-eqb p.1.1 p.1.1 refl) refl

-- a map without entries has no stamp
pub none_stamped : {S : Type 0} (m : HashMap (ℕ × (ℕ × ℕ)) ℕ S) → m.entries ≡ [] → (k : ℕ × (ℕ × ℕ)) → stamp_at m k ≡ None
none_stamped m e k = ap (λ (es : List ((ℕ × (ℕ × ℕ)) × ℕ)). lookup (same_pair k) es) e

module _ (stamps : ℕ × (ℕ × ℕ) → Option ℕ) (pair : ℕ × (ℕ × ℕ)) (w : Option ℕ) where
  at_pair : update same_pair stamps pair w pair ≡ w
  at_pair = ap (λ b. cond b w (stamps pair)) (itself pair)

  at_other : (k : ℕ × (ℕ × ℕ)) → same_pair pair k ≡ false → update same_pair stamps pair w k ≡ stamps k
  at_other k e = ap (λ b. cond b w (stamps k)) e

-- a free pair that was put and taken
pub restored_stamp : (stamps : ℕ × (ℕ × ℕ) → Option ℕ) (pair : ℕ × (ℕ × ℕ)) (w : Option ℕ) (mid new : ℕ × (ℕ × ℕ) → Option ℕ) → stamps pair ≡ None
    → ((k : ℕ × (ℕ × ℕ)) → mid k ≡ update same_pair stamps pair w k) → ((k : ℕ × (ℕ × ℕ)) → new k ≡ update same_pair mid pair None k)
    → (k : ℕ × (ℕ × ℕ)) → new k ≡ stamps k
restored_stamp stamps pair w mid new free put taken k =
    taken k ∙ by_test (same_pair pair k)
    (λ y. ap (λ b. cond b None (mid k)) y ∙ sym free ∙ ap stamps (equal_pairs pair k y))
    (λ z. ap (λ b. cond b None (mid k)) z ∙ put k ∙ at_other stamps pair w k z)

abbrev pub Stamped : List ((ℕ × ℕ) × (ℕ × ℕ)) → (ℕ × (ℕ × ℕ) → Option ℕ) → Type 0
Stamped links stamps = (e : (ℕ × ℕ) × (ℕ × ℕ)) → (stamps (by_pair e) ≡ Some e.0.1) ↔ (lookup (is_at (link_cmp e.0)) links ≡ Some e.1)

module _ (links : List ((ℕ × ℕ) × (ℕ × ℕ))) (stamps new : ℕ × (ℕ × ℕ) → Option ℕ) (tied : Stamped links stamps) (d : (ℕ × ℕ) × (ℕ × ℕ)) where
  inside : {A : Type 0} (a b : A) → Some a ≡ Some b → a ≡ b
  inside a b e = cc

  -- the pair and the stamp tell the link
  whole : (e : (ℕ × ℕ) × (ℕ × ℕ)) → by_pair d ≡ by_pair e → d.0.1 ≡ e.0.1 → d ≡ e
  whole e s t = λ i. (((s i).0, t i), (s i).1)

  pub stamped_more : ((k : ℕ × (ℕ × ℕ)) → new k ≡ update same_pair stamps (by_pair d) (Some d.0.1) k) → lookup (is_at (link_cmp d.0)) links ≡ None
      → stamps (by_pair d) ≡ None → Stamped (insert_entry link_cmp links d.0 d.1) new
  stamped_more more free fresh e = (there, back)
    where
      there : new (by_pair e) ≡ Some e.0.1 → lookup (is_at (link_cmp e.0)) (insert_entry link_cmp links d.0 d.1) ≡ Some e.1
      there f = by_test (same_pair (by_pair d) (by_pair e))
          (λ y. let s = equal_pairs (by_pair d) (by_pair e) y in
          let t : d.0.1 ≡ e.0.1 = inside d.0.1 e.0.1 (sym (at_pair stamps (by_pair d) (Some d.0.1)) ∙ sym (more (by_pair d)) ∙ ap new s ∙ f) in
          subst (λ (x : (ℕ × ℕ) × (ℕ × ℕ)). lookup (is_at (link_cmp x.0)) (insert_entry link_cmp links d.0 d.1) ≡ Some x.1) (whole e s t)
          (put_insert link_total link_exact links d.0 d.1))
          (λ n. kept_insert link_total link_exact links d.0 d.1 e.0 e.1 free
          ((tied e).0 (sym (at_other stamps (by_pair d) (Some d.0.1) (by_pair e) n) ∙ sym (more (by_pair e)) ∙ f)))

      back : lookup (is_at (link_cmp e.0)) (insert_entry link_cmp links d.0 d.1) ≡ Some e.1 → new (by_pair e) ≡ Some e.0.1
      back f = by (found_insert link_total link_exact links d.0 d.1 e.0 e.1 f)
        where
          by : ((e.0 ≡ d.0) × (d.1 ≡ e.1)) ⊎ (lookup (is_at (link_cmp e.0)) links ≡ Some e.1) → new (by_pair e) ≡ Some e.0.1
          by (inl s) = let same : d ≡ e = λ i. (sym (s.0) i, s.1 i) in
              subst (λ (x : (ℕ × ℕ) × (ℕ × ℕ)). new (by_pair x) ≡ Some x.0.1) same (more (by_pair d) ∙ at_pair stamps (by_pair d) (Some d.0.1))
          by (inr s) = let told : stamps (by_pair e) ≡ Some e.0.1 = (tied e).1 s in
              more (by_pair e) ∙ at_other stamps (by_pair d) (Some d.0.1) (by_pair e) (by_test (same_pair (by_pair d) (by_pair e))
              (λ y. absurd (some≢none e.0.1 (sym told ∙ ap stamps (sym (equal_pairs (by_pair d) (by_pair e) y)) ∙ fresh))) (λ n. n))
              ∙ told

  pub stamped_less : ((k : ℕ × (ℕ × ℕ)) → new k ≡ update same_pair stamps (by_pair d) None k) → IsStrictlySortedBy link_cmp (keys_of links)
      → lookup (is_at (link_cmp d.0)) links ≡ Some d.1 → Stamped (remove_entry (is_at (link_cmp d.0)) links) new
  stamped_less less up at e = (there, back)
    where
      there : new (by_pair e) ≡ Some e.0.1 → lookup (is_at (link_cmp e.0)) (remove_entry (is_at (link_cmp d.0)) links) ≡ Some e.1
      there f = by_test (same_pair (by_pair d) (by_pair e))
          (λ y. absurd (some≢none e.0.1 (sym f ∙ ap new (sym (equal_pairs (by_pair d) (by_pair e) y)) ∙ less (by_pair d) ∙ at_pair stamps (by_pair d) None)))
          (λ n. let e' : lookup (is_at (link_cmp e.0)) links ≡ Some e.1 =
          (tied e).0 (sym (at_other stamps (by_pair d) None (by_pair e) n) ∙ sym (less (by_pair e)) ∙ f) in
          kept_remove link_total link_exact links d.0 e.0 e.1 up (λ same.
          let value : d.1 ≡ e.1 = inside d.1 e.1 (sym at ∙ ap (λ (k : ℕ × ℕ). lookup (is_at (link_cmp k)) links) (sym same) ∙ e') in
          let pairs : by_pair d ≡ by_pair e = λ i. ((sym same i).0, value i) in
          true≢false (sym (itself (by_pair d)) ∙ ap (same_pair (by_pair d)) pairs ∙ n)) e')

      back : lookup (is_at (link_cmp e.0)) (remove_entry (is_at (link_cmp d.0)) links) ≡ Some e.1 → new (by_pair e) ≡ Some e.0.1
      back f =
          let r = found_remove link_total link_exact links d.0 e.0 e.1 up f in
          let told : stamps (by_pair e) ≡ Some e.0.1 = (tied e).1 r.0 in
          less (by_pair e) ∙ at_other stamps (by_pair d) None (by_pair e) (by_test (same_pair (by_pair d) (by_pair e))
          (λ y. let s = equal_pairs (by_pair d) (by_pair e) y in
          let t : d.0.1 ≡ e.0.1 = inside d.0.1 e.0.1 (sym ((tied d).1 at) ∙ ap stamps s ∙ told) in
          absurd (r.1 (λ i. (sym (whole e s t) i).0))) (λ n. n))
          ∙ told
