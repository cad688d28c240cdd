-- Pairs that are put into a list of entries, and taken out.
use denote.Ref.{Bor}
use Rattle.std.proofs.Common.{◌≡◌, ◌≢◌, ℕ, Bool, true, false, cond, List, [], ◌∷◌, map, Option, Some, None, Result, Ok, Err, refl, sym, ap, ◌∙◌, subst, true≢false, is_eq}
use Rattle.std.specs.BTreeMap.{insert_entry, is_at}
use Rattle.std.specs.List.{filter, list_any}
use Rattle.std.specs.List.Sorted.{IsStrictlySortedBy}
use Rattle.std.specs.Map.{keys_of, lookup, remove_entry}
use Rattle.std.specs.Option.{is_some, option_copied}
use Rattle.std.specs.Prelude.{OnErr, OnOk}
use Rattle.std.proofs.lemmas.Cmp.{tied_itself}
use Rattle.object_state.specs.State.{link_cmp}
use Rattle.object_state.proofs.Back.{link_exact, link_total}
use Rattle.object_state.proofs.Keyed.{by_test, equal, gone_remove, lookup_insert, sorted_insert}
use Rattle.object_store.specs.Indexes.{Marks}
use Rattle.object_store.proofs.Classed.{other_remove}

turn : (q k : ℕ × ℕ) → is_at (link_cmp q) k ≡ is_at (link_cmp k) q
turn q k = by_test (is_at (link_cmp q) k)
    (λ y. let same : q ≡ k = link_exact q k (equal _ y) in
    y ∙ sym (ap (λ (z : ℕ × ℕ). is_at (link_cmp z) q) (sym same) ∙ ap is_eq (tied_itself link_total q)))
    (λ n. n ∙ sym (by_test (is_at (link_cmp k) q)
    (λ y. let same : k ≡ q = link_exact k q (equal _ y) in
    absurd (true≢false (sym (ap (λ (z : ℕ × ℕ). is_at (link_cmp z) k) (sym same) ∙ ap is_eq (tied_itself link_total k)) ∙ n)))
    (λ m. m)))

apart : (k q : ℕ × ℕ) → is_at (link_cmp k) q ≡ false → q ≢ k
apart k q n e = true≢false (sym (ap is_eq (tied_itself link_total k)) ∙ ap (λ (z : ℕ × ℕ). is_at (link_cmp k) z) (sym e) ∙ n)

pub is_there : {X : Type 0} (found : Option (Bor X)) (o : Option X) → option_copied found ≡ o → is_some found ≡ true → is_some o ≡ true
is_there (Some x) o e h = ap is_some (sym e)
is_there None o e h = absurd (true≢false (sym h))

pub not_there : {X : Type 0} (found : Option (Bor X)) (o : Option X) → option_copied found ≡ o → is_some found ≡ false → o ≡ None
not_there (Some x) o e h = absurd (true≢false h)
not_there None o e h = sym e

pub on_ok : {A E P Q : Type 0} (r : Result A E) → (P → Q) → OnOk r P → OnOk r Q
on_ok (Ok a) f h = f h
on_ok (Err e) f h = tt

module _ {X : Type 0} where
  keyed_any : (test : ℕ × ℕ → Bool) (es : List ((ℕ × ℕ) × X)) → list_any test (keys_of es) ≡ is_some (lookup test es)
  keyed_any test [] = refl
  keyed_any test (e ∷ es) = by_test (test e.0) (λ y. rw y refl) (λ n. rw n (keyed_any test es))

  some_cond : (b : Bool) (v : X) (o : Option X) → is_some (cond b (Some v) o) ≡ cond b true (is_some o)
  some_cond true v o = refl
  some_cond false v o = refl

  pub mark_put : (es : List ((ℕ × ℕ) × X)) (k : ℕ × ℕ) (v : X) → Marks true k (keys_of es) (keys_of (insert_entry link_cmp es k v))
  mark_put es k v q =
      keyed_any (is_at (link_cmp q)) (insert_entry link_cmp es k v) ∙ ap is_some (lookup_insert link_total es k v q)
      ∙ some_cond (is_at (link_cmp q) k) v (lookup (is_at (link_cmp q)) es)
      ∙ (λ i. cond (turn q k i) true (sym (keyed_any (is_at (link_cmp q)) es) i))

  pub marks_as : (es new : List ((ℕ × ℕ) × X)) (k : ℕ × ℕ) (v : X) → new ≡ insert_entry link_cmp es k v → Marks true k (keys_of es) (keys_of new)
  marks_as es new k v e = subst (λ (ks : List ((ℕ × ℕ) × X)). Marks true k (keys_of es) (keys_of ks)) (sym e) (mark_put es k v)

  -- the order stays, whether there is memory or not
  pub sorted_put : {A E : Type 0} (r : Result A E) (es new : List ((ℕ × ℕ) × X)) (k : ℕ × ℕ) (v : X) → OnOk r (new ≡ insert_entry link_cmp es k v)
      → OnErr r (new ≡ es) → IsStrictlySortedBy link_cmp (keys_of es) → IsStrictlySortedBy link_cmp (keys_of new)
  sorted_put (Ok a) es new k v put same up =
      subst (λ (ks : List ((ℕ × ℕ) × X)). IsStrictlySortedBy link_cmp (keys_of ks)) (sym put) (sorted_insert link_total es k v up)
  sorted_put (Err e) es new k v put same up = subst (λ (ks : List ((ℕ × ℕ) × X)). IsStrictlySortedBy link_cmp (keys_of ks)) (sym same) up

  pub mark_there : (es : List ((ℕ × ℕ) × X)) (k : ℕ × ℕ) → is_some (lookup (is_at (link_cmp k)) es) ≡ true → Marks true k (keys_of es) (keys_of es)
  mark_there es k h q = by_test (is_at (link_cmp k) q)
      (λ y. let same : k ≡ q = link_exact k q (equal _ y) in
      keyed_any (is_at (link_cmp q)) es ∙ ap (λ (z : ℕ × ℕ). is_some (lookup (is_at (link_cmp z)) es)) (sym same) ∙ h
      ∙ sym (ap (λ b. cond b true (list_any (is_at (link_cmp q)) (keys_of es))) y))
      (λ n. sym (ap (λ b. cond b true (list_any (is_at (link_cmp q)) (keys_of es))) n))

  pub mark_taken : (es : List ((ℕ × ℕ) × X)) (k : ℕ × ℕ) → IsStrictlySortedBy link_cmp (keys_of es)
      → Marks false k (keys_of es) (keys_of (remove_entry (is_at (link_cmp k)) es))
  mark_taken es k up q = by_test (is_at (link_cmp k) q)
      (λ y. let same : k ≡ q = link_exact k q (equal _ y) in
      keyed_any (is_at (link_cmp q)) (remove_entry (is_at (link_cmp k)) es)
      ∙ ap (λ (z : ℕ × ℕ). is_some (lookup (is_at (link_cmp z)) (remove_entry (is_at (link_cmp k)) es))) (sym same)
      ∙ ap is_some (gone_remove link_total link_exact es k up)
      ∙ sym (ap (λ b. cond b false (list_any (is_at (link_cmp q)) (keys_of es))) y))
      (λ n. keyed_any (is_at (link_cmp q)) (remove_entry (is_at (link_cmp k)) es)
      ∙ ap is_some (other_remove link_total link_exact es k q up (apart k q n))
      ∙ sym (ap (λ b. cond b false (list_any (is_at (link_cmp q)) (keys_of es))) n ∙ keyed_any (is_at (link_cmp q)) es))

  -- the second numbers of a row, from the keys
  pub row_of_keys : {C : Type 0} (h : ℕ → C) (test : ℕ × ℕ → Bool) (es : List ((ℕ × ℕ) × X))
      → map h (map (λ (e : (ℕ × ℕ) × X). e.0.1) (filter (λ (e : (ℕ × ℕ) × X). test e.0) es)) ≡ map (λ (k : ℕ × ℕ). h k.1) (filter test (keys_of es))
  row_of_keys h test [] = refl
  row_of_keys h test (e ∷ es) = by_test (test e.0)
      (λ y. rw y (ap (λ l. h e.0.1 ∷ l) (row_of_keys h test es)))
      (λ n. rw n (row_of_keys h test es))
