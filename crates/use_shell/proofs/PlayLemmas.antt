-- Commands that are played a part at a time.
use Rattle.std.proofs.Common.{◌≡◌, ℕ, ◌+◌, ◌≤◌, Bool, true, false, ◌||◌, List, [], ◌∷◌, ◌++◌, refl, sym, ap, ◌∙◌, append_assoc, append-nil, arith, if◌then◌else◌}
use Rattle.use_text.specs.declared.cut.Cut.{Cut}
use Rattle.use_session.specs.Machine.{Machine}
use Rattle.use_shell.specs.Output.{Played, after, followed, nothing, play}

plus_assoc : (m n k : ℕ) → m + (n + k) ≡ (m + n) + k
plus_assoc m n k = omega arith

zero_plus : (n : ℕ) → n ≡ 0 + n
zero_plus n = omega arith

plus_zero : (n : ℕ) → n + 0 ≡ n
plus_zero n = omega arith

pub or_assoc : (s t u : Bool) → s || (t || u) ≡ (s || t) || u
or_assoc true t u = refl
or_assoc false t u = refl

pub or_false : (t : Bool) → t || false ≡ t
or_false true = refl
or_false false = refl

pub or_true : (t : Bool) → t || true ≡ true
or_true true = refl
or_true false = refl

not_both : {P : Type 0} (t : Bool) → t ≡ true → t ≡ false → P
not_both true h k = absurd (cc)
not_both false h k = absurd (cc)

pub after_assoc : (p q r : Played) → after p (after q r) ≡ after (after p q) r
after_assoc p q r =
    ap (λ l. record { machine = r.machine; bytes = l; over = r.over; failed = p.failed || (q.failed || r.failed); units = p.units + (q.units + r.units) })
    (sym (append_assoc p.bytes q.bytes r.bytes))
    ∙ ap (λ t. record { machine = r.machine; bytes = (p.bytes ++ q.bytes) ++ r.bytes; over = r.over; failed = t; units = p.units + (q.units + r.units) })
    (or_assoc p.failed q.failed r.failed)
    ∙ ap (λ n. record { machine = r.machine; bytes = (p.bytes ++ q.bytes) ++ r.bytes; over = r.over; failed = (p.failed || q.failed) || r.failed; units = n })
    (plus_assoc p.units q.units r.units)

pub nothing_before : (m : Machine) (p : Played) → p ≡ after (nothing m) p
nothing_before m p = ap (λ n. record { machine = p.machine; bytes = p.bytes; over = p.over; failed = p.failed; units = n }) (zero_plus p.units)

pub nothing_behind : (p : Played) (m : Machine) → p.over ≡ false → p.machine ≡ m → after p (nothing m) ≡ p
nothing_behind p m on same =
    ap (λ k. record { machine = k; bytes = p.bytes ++ []; over = false; failed = p.failed || false; units = p.units + 0 }) (sym same)
    ∙ ap (λ l. record { machine = p.machine; bytes = l; over = false; failed = p.failed || false; units = p.units + 0 }) (append-nil p.bytes)
    ∙ ap (λ t. record { machine = p.machine; bytes = p.bytes; over = t; failed = p.failed || false; units = p.units + 0 }) (sym on)
    ∙ ap (λ t. record { machine = p.machine; bytes = p.bytes; over = p.over; failed = t; units = p.units + 0 }) (or_false p.failed)
    ∙ ap (λ n. record { machine = p.machine; bytes = p.bytes; over = p.over; failed = p.failed; units = n }) (plus_zero p.units)

pub followed_over : (p : Played) (next : Machine → Played) → p.over ≡ true → followed p next ≡ p
followed_over p next h = ap (λ t. if t then p else after p (next p.machine)) h

pub followed_on : (p : Played) (next : Machine → Played) → p.over ≡ false → followed p next ≡ after p (next p.machine)
followed_on p next h = ap (λ t. if t then p else after p (next p.machine)) h

module _ (c : Machine → Cut → Played) where
  -- behind a command that ended the run nothing is played
  pub play_over : (m : Machine) (xs ys : List Cut) → (play c m xs).over ≡ true → play c m (xs ++ ys) ≡ play c m xs
  play_over m [] ys h = absurd (cc)
  play_over m (x ∷ xs) ys h = by_over (λ k. play_over (c m x).machine xs ys k) (c m x).over refl
    where
      by_over : ((play c (c m x).machine xs).over ≡ true → play c (c m x).machine (xs ++ ys) ≡ play c (c m x).machine xs) → (t : Bool) → (c m x).over ≡ t
          → play c m (x ∷ (xs ++ ys)) ≡ play c m (x ∷ xs)
      by_over more true e = followed_over (c m x) (λ next. play c next (xs ++ ys)) e ∙ sym (followed_over (c m x) (λ next. play c next xs) e)
      by_over more false e =
          let all = followed_on (c m x) (λ next. play c next (xs ++ ys)) e in
          let front = followed_on (c m x) (λ next. play c next xs) e in
          all ∙ ap (after (c m x)) (more (sym (ap (λ p. p.over) front) ∙ h)) ∙ sym front

  -- else the next commands are
  pub play_on : (m : Machine) (xs ys : List Cut) → (play c m xs).over ≡ false
      → play c m (xs ++ ys) ≡ after (play c m xs) (play c (play c m xs).machine ys)
  play_on m [] ys h = nothing_before m (play c m ys)
  play_on m (x ∷ xs) ys h = by_over (λ k. play_on (c m x).machine xs ys k) (c m x).over refl
    where
      by_over : ((play c (c m x).machine xs).over ≡ false
          → play c (c m x).machine (xs ++ ys) ≡ after (play c (c m x).machine xs) (play c (play c (c m x).machine xs).machine ys)) → (t : Bool)
          → (c m x).over ≡ t → play c m (x ∷ (xs ++ ys)) ≡ after (play c m (x ∷ xs)) (play c (play c m (x ∷ xs)).machine ys)
      by_over more true e = not_both (c m x).over e (sym (ap (λ p. p.over) (followed_over (c m x) (λ next. play c next xs) e)) ∙ h)
      by_over more false e =
          let front = followed_on (c m x) (λ next. play c next xs) e in
          followed_on (c m x) (λ next. play c next (xs ++ ys)) e
          ∙ ap (after (c m x)) (more (sym (ap (λ p. p.over) front) ∙ h))
          ∙ after_assoc (c m x) (play c (c m x).machine xs) (play c (play c (c m x).machine xs).machine ys)
          ∙ ap (λ q. after q (play c q.machine ys)) (sym front)

  -- more commands write more
  pub play_front : (m : Machine) (xs ys : List Cut) → (rest : List ℕ) × ((play c m (xs ++ ys)).bytes ≡ (play c m xs).bytes ++ rest)
  play_front m xs ys = by_over (play c m xs).over refl
    where
      by_over : (t : Bool) → (play c m xs).over ≡ t → (rest : List ℕ) × ((play c m (xs ++ ys)).bytes ≡ (play c m xs).bytes ++ rest)
      by_over true h = ([], ap (λ p. p.bytes) (play_over m xs ys h) ∙ sym (append-nil (play c m xs).bytes))
      by_over false h = ((play c (play c m xs).machine ys).bytes, ap (λ p. p.bytes) (play_on m xs ys h))

  -- and spend as many units or more
  pub play_units : (m : Machine) (xs ys : List Cut) → (play c m xs).units ≤ (play c m (xs ++ ys)).units
  play_units m xs ys = by_over (play c m xs).over refl
    where
      by_over : (t : Bool) → (play c m xs).over ≡ t → (play c m xs).units ≤ (play c m (xs ++ ys)).units
      by_over true h = let e : (play c m (xs ++ ys)).units ≡ (play c m xs).units = ap (λ p. p.units) (play_over m xs ys h) in omega (arith, e)
      by_over false h =
          let e : (play c m (xs ++ ys)).units ≡ (play c m xs).units + (play c (play c m xs).machine ys).units = ap (λ p. p.units) (play_on m xs ys h) in
          omega (arith, e)

  -- a command alone
  pub play_one : (m : Machine) (x : Cut) → play c m (x ∷ []) ≡ c m x
  play_one m x = by_over (c m x).over refl
    where
      by_over : (t : Bool) → (c m x).over ≡ t → play c m (x ∷ []) ≡ c m x
      by_over true e = followed_over (c m x) (λ next. play c next []) e
      by_over false e = followed_on (c m x) (λ next. play c next []) e ∙ nothing_behind (c m x) (c m x).machine e refl

pub append_cancel : (xs ys zs : List Cut) → xs ++ ys ≡ xs ++ zs → ys ≡ zs
append_cancel [] ys zs h = h
append_cancel (x ∷ xs) ys zs h = append_cancel xs ys zs (cc)
