-- Rows of links at associations and objects, with another row of one of them.
use Rattle.std.proofs.Common.{◌≡◌, ◌≢◌, ℕ, Bool, true, false, cond, List, [], ◌∷◌, Option, Some, None, refl, sym, ap, ◌∙◌, true≢false, is_eq, OnErr, OnOk, Result, Ok, Err}
use Rattle.std.specs.BTreeMap.{insert_entry, is_at}
use Rattle.std.specs.Cmp.{eq_by_cmp_equiv, nat_cmp_total}
use Rattle.std.specs.Map.{lookup, remove_entry, set_value}
use Rattle.std.specs.Ordering.{nat_cmp}
use Rattle.std.proofs.lemmas.Cmp.{tied_itself}
use Rattle.std.proofs.lemmas.Map.{lookup-set_value}
use Rattle.object_state.specs.State.{link_cmp}
use Rattle.object_state.proofs.Back.{link_exact, link_total}
use Rattle.object_state.proofs.Keyed.{by_test, equal, lookup_insert, lookup_set_here, remove_inserted}
use Rattle.object_store.specs.declared.ends.Row.{Row}
use Rattle.object_store.specs.Ends.{entries_in, entries_of, row_at}
use Rattle.object_store.specs.Indexes.{with_row}

pub ok_then : {T E : Type 0} {P Q : Type 0} (r : Result T E) → (P → Q) → OnOk r P → OnOk r Q
ok_then (Ok x) f p = f p
ok_then (Err e) f p = tt

pub err_then : {T E : Type 0} {P Q : Type 0} (r : Result T E) → (P → Q) → OnErr r P → OnErr r Q
err_then (Ok x) f p = tt
err_then (Err e) f p = f p

module _ (k q : ℕ × ℕ) where
  pub same_key : is_at (link_cmp k) q ≡ true → k ≡ q
  same_key y = link_exact k q (equal _ y)

  pub other_key : is_at (link_cmp k) q ≡ false → q ≢ k
  other_key n same = true≢false (sym (ap is_eq (tied_itself link_total k)) ∙ ap (λ (z : ℕ × ℕ). is_at (link_cmp k) z) (sym same) ∙ n)

  other_way : is_at (link_cmp k) q ≡ false → is_at (link_cmp q) k ≡ false
  other_way n = by_test (is_at (link_cmp q) k) (λ y. absurd (other_key n (link_exact q k (equal _ y)))) (λ z. z)

  either_way : is_at (link_cmp q) k ≡ is_at (link_cmp k) q
  either_way = by_test (is_at (link_cmp k) q)
      (λ y. ap (λ (z : ℕ × ℕ). is_at (link_cmp z) k) (sym (same_key y)) ∙ ap is_eq (tied_itself link_total k) ∙ sym y)
      (λ n. other_way n ∙ sym n)

-- what is found by a test, where an entry went that it does not find
not_taken : {K X : Type 0} (test gone : K → Bool) → ((x : K) → gone x ≡ true → test x ≡ false) → (es : List (K × X))
    → lookup test (remove_entry gone es) ≡ lookup test es
not_taken test gone apart [] = refl
not_taken test gone apart (e ∷ es) =
    by_test (gone e.0)
    (λ y. rw (y, apart e.0 y) refl)
    (λ n. rw n (ap (λ u. cond (test e.0) (Some e.1) u) (not_taken test gone apart es)))

-- a row for itself
pub with_itself : (rows : ℕ × ℕ → List (ℕ × ℕ)) (k q : ℕ × ℕ) → with_row rows k (rows k) q ≡ rows q
with_itself rows k q = by_test (is_at (link_cmp k) q) (λ y. rw y (ap rows (same_key k q y))) (λ n. rw n refl)

module _ (es : List ((ℕ × ℕ) × Row)) (k : ℕ × ℕ) where
  found_with : (row : Option Row) (q : ℕ × ℕ)
      → entries_of (cond (is_at (link_cmp k) q) row (lookup (is_at (link_cmp q)) es)) ≡ with_row (row_at es) k (entries_of row) q
  found_with row q = by_test (is_at (link_cmp k) q) (λ y. rw y refl) (λ n. rw n refl)

  -- a row that was put
  pub row_put : (row : Row) (q : ℕ × ℕ) → row_at (insert_entry link_cmp es k row) q ≡ with_row (row_at es) k (entries_in row) q
  row_put row q =
      ap entries_of (lookup_insert link_total es k row q ∙ ap (λ b. cond b (Some row) (lookup (is_at (link_cmp q)) es)) (either_way k q))
      ∙ found_with (Some row) q

  module _ (held : Row) (there : lookup (is_at (link_cmp k)) es ≡ Some held) where
    set_found : (w : Row) (q : ℕ × ℕ)
        → lookup (is_at (link_cmp q)) (set_value (is_at (link_cmp k)) es w) ≡ cond (is_at (link_cmp k) q) (Some w) (lookup (is_at (link_cmp q)) es)
    set_found w q = lookup-set_value (eq_by_cmp_equiv link_total) (is_at (link_cmp k)) (λ x y t. ap is_eq (link_total.congr k x y (equal _ t))) q w es (rw there refl)

    -- another row
    row_set : (row : Row) (q : ℕ × ℕ) → row_at (set_value (is_at (link_cmp k)) es row) q ≡ with_row (row_at es) k (entries_in row) q
    row_set row q = ap entries_of (set_found row q) ∙ found_with (Some row) q

  -- what a row was before
  pub was_there : (held : Row) → lookup (is_at (link_cmp k)) es ≡ Some held → row_at es k ≡ entries_in held
  was_there held there = ap entries_of there

  pub was_none : lookup (is_at (link_cmp k)) es ≡ None → row_at es k ≡ []
  was_none none = ap entries_of none

with_over : (rows mid : ℕ × ℕ → List (ℕ × ℕ)) (k : ℕ × ℕ) (one two : List (ℕ × ℕ)) → ((q : ℕ × ℕ) → mid q ≡ with_row rows k one q)
    → (q : ℕ × ℕ) → with_row mid k two q ≡ with_row rows k two q
with_over rows mid k one two h q = by_test (is_at (link_cmp k) q) (λ y. rw y refl) (λ n. rw n (h q ∙ rw n refl))

module _ (es : List ((ℕ × ℕ) × Row)) (k : ℕ × ℕ) (held stand : Row) (there : lookup (is_at (link_cmp k)) es ≡ Some held)
    (mid : List ((ℕ × ℕ) × Row)) (first : mid ≡ set_value (is_at (link_cmp k)) es stand) where
  pub stand_there : lookup (is_at (link_cmp k)) mid ≡ Some stand
  stand_there = ap (λ (m : List ((ℕ × ℕ) × Row)). lookup (is_at (link_cmp k)) m) first ∙ lookup_set_here (is_at (link_cmp k)) es held stand there

  stood : (q : ℕ × ℕ) → row_at mid q ≡ with_row (row_at es) k (entries_in stand) q
  stood q = ap (λ (m : List ((ℕ × ℕ) × Row)). row_at m q) first ∙ row_set es k held there stand q

  -- a row that was replaced for a while
  pub row_changed : (row : Row) (new : List ((ℕ × ℕ) × Row)) → new ≡ set_value (is_at (link_cmp k)) mid row
      → (q : ℕ × ℕ) → row_at new q ≡ with_row (row_at es) k (entries_in row) q
  row_changed row new second q =
      ap (λ (m : List ((ℕ × ℕ) × Row)). row_at m q) second ∙ row_set mid k stand stand_there row q
      ∙ with_over (row_at es) (row_at mid) k (entries_in stand) (entries_in row) stood q

  -- a row that went
  pub row_gone : (new : List ((ℕ × ℕ) × Row)) → new ≡ remove_entry (is_at (link_cmp k)) mid → lookup (is_at (link_cmp k)) new ≡ None
      → (q : ℕ × ℕ) → row_at new q ≡ with_row (row_at es) k [] q
  row_gone new second gone q =
      by_test (is_at (link_cmp k) q)
      (λ y. rw y (ap (λ (z : ℕ × ℕ). row_at new z) (sym (same_key k q y)) ∙ ap entries_of gone))
      (λ n. rw n (ap (λ (m : List ((ℕ × ℕ) × Row)). row_at m q) second
      ∙ ap entries_of (not_taken (is_at (link_cmp q)) (is_at (link_cmp k))
      (λ x y. ap (λ (z : ℕ × ℕ). is_at (link_cmp q) z) (sym (same_key k x y)) ∙ other_way k q n) mid)
      ∙ stood q ∙ rw n refl))

-- a link that was put and taken
pub restored_row : (rows mid new : ℕ × ℕ → List (ℕ × ℕ)) (k : ℕ × ℕ) (s v : ℕ) → lookup (is_at (nat_cmp s)) (rows k) ≡ None
    → ((q : ℕ × ℕ) → mid q ≡ with_row rows k (insert_entry nat_cmp (rows k) s v) q)
    → ((q : ℕ × ℕ) → new q ≡ with_row mid k (remove_entry (is_at (nat_cmp s)) (mid k)) q)
    → (q : ℕ × ℕ) → new q ≡ rows q
restored_row rows mid new k s v free put taken q =
    let here : mid k ≡ insert_entry nat_cmp (rows k) s v =
    put k ∙ ap (λ b. cond b (insert_entry nat_cmp (rows k) s v) (rows k)) (ap is_eq (tied_itself link_total k)) in
    taken q ∙ with_over rows mid k (insert_entry nat_cmp (rows k) s v) (remove_entry (is_at (nat_cmp s)) (mid k)) put q
    ∙ ap (λ (row : List (ℕ × ℕ)). with_row rows k row q) (ap (remove_entry (is_at (nat_cmp s))) here ∙ remove_inserted nat_cmp_total (rows k) s v free)
    ∙ with_itself rows k q
