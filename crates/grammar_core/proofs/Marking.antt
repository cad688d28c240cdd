-- What marking does to the marks.
use Rattle.std.proofs.Common.{◌≡◌, ℕ, ◌+◌, ◌<◌, ◌≤◌, List, [], ◌∷◌, length, Option, Some, None, Bool, true, false, cond, slice_get, slice_set, zero, suc, refl, sym, ap, ◌∙◌, arith, subst, inl, inr, ◌⊎◌, ⊎_elim, add-zero, replicate}
use Rattle.std.proofs.lemmas.List.{length-replicate}
use Rattle.grammar_core.specs.Paths.{IsIn, next, places_of, Path, is_marked}
use Rattle.grammar_core.specs.Marks.{unmarked, set_mark, mark_all, sweep, IsRow}

pub set_outside : (seen : List Bool) (q : ℕ) → length seen ≤ q → seen ≡ set_mark seen q
set_outside [] q h = refl
set_outside (b ∷ bs) zero h = absurd (omega arith)
set_outside (b ∷ bs) (suc q) h = ap (λ (l : List Bool). b ∷ l) (set_outside bs q (omega arith))

pub set_marked : (seen : List Bool) (q : ℕ) → is_marked seen q ≡ true → seen ≡ set_mark seen q
set_marked [] q e = refl
set_marked (b ∷ bs) zero e = ap (λ (x : Bool). x ∷ bs) e
set_marked (b ∷ bs) (suc q) e = ap (λ (l : List Bool). b ∷ l) (set_marked bs q e)

pub set_new : (seen : List Bool) (q : ℕ) → slice_set seen q true ≡ set_mark seen q
set_new [] q = refl
set_new (b ∷ bs) zero = refl
set_new (b ∷ bs) (suc q) = ap (λ (l : List Bool). b ∷ l) (set_new bs q)

pub set_fewer : (seen : List Bool) (q : ℕ) → q < length seen → is_marked seen q ≡ false → unmarked (set_mark seen q) < unmarked seen
set_fewer [] q h e = absurd (omega arith)
set_fewer (true ∷ bs) zero h e = (cc)
set_fewer (false ∷ bs) zero h e = omega arith
set_fewer (true ∷ bs) (suc q) h e = set_fewer bs q (omega arith) e
set_fewer (false ∷ bs) (suc q) h e = let k = set_fewer bs q (omega arith) e in omega arith

pub set_length : (seen : List Bool) (q : ℕ) → length (set_mark seen q) ≡ length seen
set_length [] q = refl
set_length (b ∷ bs) zero = refl
set_length (b ∷ bs) (suc q) = ap suc (set_length bs q)

pub set_keeps : (seen : List Bool) (q r : ℕ) → is_marked seen r ≡ true → is_marked (set_mark seen q) r ≡ true
set_keeps [] q r e = e
set_keeps (b ∷ bs) zero zero e = refl
set_keeps (b ∷ bs) zero (suc r) e = e
set_keeps (b ∷ bs) (suc q) zero e = e
set_keeps (b ∷ bs) (suc q) (suc r) e = set_keeps bs q r e

pub set_marks : (seen : List Bool) (q : ℕ) → q < length seen → is_marked (set_mark seen q) q ≡ true
set_marks [] q h = absurd (omega arith)
set_marks (b ∷ bs) zero h = refl
set_marks (b ∷ bs) (suc q) h = set_marks bs q (omega arith)

pub set_only : (seen : List Bool) (q r : ℕ) → is_marked (set_mark seen q) r ≡ true → (is_marked seen r ≡ true) ⊎ ((r ≡ q) × (q < length seen))
set_only [] q r e = inl e
set_only (b ∷ bs) zero zero e = inr (refl, omega arith)
set_only (b ∷ bs) zero (suc r) e = inl e
set_only (b ∷ bs) (suc q) zero e = inl e
set_only (b ∷ bs) (suc q) (suc r) e = ⊎_elim (λ m. inl m) (λ m. inr (ap suc m.0, omega (arith, m.1))) (set_only bs q r e)

pub all_length : (row : List ℕ) (seen : List Bool) → length (mark_all seen row) ≡ length seen
all_length [] seen = refl
all_length (q ∷ qs) seen = all_length qs (set_mark seen q) ∙ set_length seen q

all_keeps : (row : List ℕ) (seen : List Bool) (r : ℕ) → is_marked seen r ≡ true → is_marked (mark_all seen row) r ≡ true
all_keeps [] seen r e = e
all_keeps (q ∷ qs) seen r e = all_keeps qs (set_mark seen q) r (set_keeps seen q r e)

all_marks : (row : List ℕ) (seen : List Bool) (r : ℕ) → IsIn r row → r < length seen → is_marked (mark_all seen row) r ≡ true
all_marks [] seen r h inside = absurd h
all_marks (q ∷ qs) seen r h inside = ⊎_elim (λ e. all_keeps qs (set_mark seen q) r (subst (λ (x : ℕ). is_marked (set_mark seen x) r ≡ true) e
    (set_marks seen r inside))) (λ i. all_marks qs (set_mark seen q) r i (omega (arith, inside, set_length seen q))) h

all_only : (row : List ℕ) (seen : List Bool) (r : ℕ) → is_marked (mark_all seen row) r ≡ true → (is_marked seen r ≡ true) ⊎ (IsIn r row × (r < length seen))
all_only [] seen r e = inl e
all_only (q ∷ qs) seen r e =
    ⊎_elim (λ m. ⊎_elim (λ a. inl a) (λ a. inr (inl a.0, omega (arith, a.0, a.1))) (set_only seen q r m)) (λ i. inr (
      inr i.0,
      omega
          (arith, i.1, set_length seen q),
    )) (all_only qs (set_mark seen q) r e)

row_keeps : (v : Bool) (seen : List Bool) (row : List ℕ) (r : ℕ) → is_marked seen r ≡ true → is_marked (cond v (mark_all seen row) seen) r ≡ true
row_keeps true seen row r e = all_keeps row seen r e
row_keeps false seen row r e = e

row_length : (v : Bool) (seen : List Bool) (row : List ℕ) → length (cond v (mark_all seen row) seen) ≡ length seen
row_length true seen row = all_length row seen
row_length false seen row = refl

sweep_keeps : (rows : List (List ℕ)) (i : ℕ) (seen : List Bool) (r : ℕ) → is_marked seen r ≡ true → is_marked (sweep seen i rows) r ≡ true
sweep_keeps [] i seen r e = e
sweep_keeps (row ∷ rows) i seen r e = sweep_keeps rows (i + 1) (cond (is_marked seen i) (mark_all seen row) seen) r (row_keeps (is_marked seen i) seen row r e)

pub sweep_length : (rows : List (List ℕ)) (i : ℕ) (seen : List Bool) → length (sweep seen i rows) ≡ length seen
sweep_length [] i seen = refl
sweep_length (row ∷ rows) i seen = sweep_length rows (i + 1) (cond (is_marked seen i) (mark_all seen row) seen) ∙ row_length (is_marked seen i) seen row

-- what is marked has its row marked
sweep_marks : (rows : List (List ℕ)) (i : ℕ) (seen : List Bool) (k r : ℕ) (row : List ℕ) → slice_get rows k ≡ Some row → is_marked seen (i + k) ≡ true
    → IsIn r row → r < length seen → is_marked (sweep seen i rows) r ≡ true
sweep_marks [] i seen k r row e m h inside = (cc)
sweep_marks (x ∷ rows) i seen zero r row e m h inside =
    let same : x ≡ row = cc in
    let at_i : is_marked seen i ≡ true = subst (λ (n : ℕ). is_marked seen n ≡ true) (add-zero i) m in
    sweep_keeps rows (i + 1) (cond (is_marked seen i) (mark_all seen x) seen) r (rw at_i (all_marks x seen r (subst (λ (l : List ℕ). IsIn r l)
    (sym same) h) inside))
sweep_marks (x ∷ rows) i seen (suc k) r row e m h inside =
    let n : i + suc k ≡ (i + 1) + k = omega arith in
    sweep_marks rows (i + 1) (cond (is_marked seen i) (mark_all seen x) seen) k r row e
    (row_keeps (is_marked seen i) seen x (i + 1 + k) (subst (λ (j : ℕ). is_marked seen j ≡ true) n m)) h (omega (
      arith,
      inside,
      row_length
          (is_marked seen i) seen x,
    ))

module _ (graph : List (List ℕ)) (p : ℕ) where
  abbrev pub Sound : List Bool → Type 0
  Sound seen = (q : ℕ) → is_marked seen q ≡ true → Path graph p q

  abbrev pub Started : List Bool → Type 0
  Started seen = (q : ℕ) → IsIn q (next graph p) → q < length graph → is_marked seen q ≡ true

  closed_at : (seen : List Bool) (q r : ℕ) (o : Option (List ℕ)) → slice_get graph q ≡ o → sweep seen 0 graph ≡ seen → is_marked seen q ≡ true
      → IsIn r (places_of o) → r < length seen → is_marked seen r ≡ true
  closed_at seen q r None e same m h inside = absurd h
  closed_at seen q r (Some row) e same m h inside =
      let z : 0 + q ≡ q = omega arith in
      subst (λ (l : List Bool). is_marked l r ≡ true) same (sweep_marks graph 0 seen q r row e (subst (λ (j : ℕ). is_marked seen j ≡ true) (sym z) m) h inside)

  complete : (seen : List Bool) → length seen ≡ length graph → Started seen → sweep seen 0 graph ≡ seen → (q : ℕ) → Path graph p q → is_marked seen q ≡ true
  complete seen long started same _ (Path.first q e i) = started q e i
  complete seen long started same _ (Path.then q r way e i) = closed_at seen q r (slice_get graph q) refl same (complete seen long started same q way) e (omega
      (arith, i, long))

  row_sound : (seen : List Bool) (i : ℕ) (row : List ℕ) → slice_get graph i ≡ Some row → length seen ≡ length graph → Sound seen → (v : Bool)
      → is_marked seen i ≡ v → Sound (cond v (mark_all seen row) seen)
  row_sound seen i row e long sound false m q h = sound q h
  row_sound seen i row e long sound true m q h =
      ⊎_elim (λ old. sound q old) (λ new. Path.then i q (sound i m) (subst (λ (o : Option (List ℕ)). IsIn q (places_of o)) (sym e) new.0) (omega
      (arith, new.1, long))) (all_only row seen q h)

  sweep_sound : (rows : List (List ℕ)) (i : ℕ) (seen : List Bool) → ((k : ℕ) → k < length rows → slice_get rows k ≡ slice_get graph (i + k))
      → length seen ≡ length graph → Sound seen → Sound (sweep seen i rows)
  sweep_sound [] i seen same long sound = sound
  sweep_sound (row ∷ rows) i seen same long sound =
      let e = sym (same zero (omega arith)) in
      let e' = subst (λ (j : ℕ). slice_get graph j ≡ Some row) (add-zero i) e in
      sweep_sound rows (i + 1) (cond (is_marked seen i) (mark_all seen row) seen)
      (λ k h. let n : i + suc k ≡ (i + 1) + k = omega arith in subst (λ (j : ℕ). slice_get rows k ≡ slice_get graph j) n (same (suc k) (omega (arith, h))))
      (row_length (is_marked seen i) seen row ∙ long)
      (row_sound seen i row e' long sound (is_marked seen i) refl)

  pub sweep_is_sound : (seen : List Bool) → length seen ≡ length graph → Sound seen → Sound (sweep seen 0 graph)
  sweep_is_sound seen long sound = sweep_sound graph 0 seen (λ k h. let z : 0 + k ≡ k = omega arith in ap (λ (j : ℕ). slice_get graph j) (sym z)) long sound

  pub sweep_is_started : (seen : List Bool) → Started seen → Started (sweep seen 0 graph)
  sweep_is_started seen started q e i = sweep_keeps graph 0 seen q (started q e i)

  pub row_done : (seen : List Bool) → length seen ≡ length graph → Sound seen → Started seen → sweep seen 0 graph ≡ seen → IsRow graph p seen
  row_done seen long sound started same = record { long = long; sound = sound; complete = complete seen long started same }

pub none_marked : (n q : ℕ) → is_marked (replicate n false) q ≡ true → ⊥
none_marked zero q e = (cc)
none_marked (suc n) zero e = (cc)
none_marked (suc n) (suc q) e = none_marked n q e

module _ (graph : List (List ℕ)) (p : ℕ) (row : List ℕ) (at_p : slice_get graph p ≡ Some row) where
  row_next : (q : ℕ) → IsIn q row → IsIn q (next graph p)
  row_next q i = subst (λ (o : Option (List ℕ)). IsIn q (places_of o)) (sym at_p) i

  next_row : (q : ℕ) → IsIn q (next graph p) → IsIn q row
  next_row q i = subst (λ (o : Option (List ℕ)). IsIn q (places_of o)) at_p i

  pub first_sound : Sound graph p (mark_all (replicate (length graph) false) row)
  first_sound q m = ⊎_elim (λ old. absurd (none_marked (length graph) q old)) (λ new. Path.first q (row_next q new.0) (omega (
    arith,
    new.1,
    length-replicate
        (length graph) false,
  ))) (all_only row (replicate (length graph) false) q m)

  pub first_started : Started graph p (mark_all (replicate (length graph) false) row)
  first_started q i inside = all_marks row (replicate (length graph) false) q (next_row q i) (omega (arith, inside, length-replicate (length graph) false))

  pub first_long : length (mark_all (replicate (length graph) false) row) ≡ length graph
  first_long = all_length row (replicate (length graph) false) ∙ length-replicate (length graph) false
