-- Bytes that are taken and put a piece at a time.
use Rattle.std.proofs.Common.{ℕ, ◌+◌, ◌-◌, List, [], ◌++◌, length, take, drop, Option, Some, None, refl, sym, ap, ◌∙◌, append_assoc, append-nil, take-add, ◌≤◌, arith, Result, Ok, Err, OnErr}
use Rattle.std.specs.Io.KnownBytes.{Appends, Keeps, Consumes}
use Rattle.std.proofs.lemmas.List.{take_rest, take-append-drop}
use Rattle.use_shell.specs.Output.{max_input, max_piece}
use Rattle.use_shell.specs.Endings.{AppendsFront, IsBounded}

pub appends_then : (a b c : Option (List ℕ)) (xs ys : List ℕ) → Appends a b xs → Appends b c ys → Appends a c (xs ++ ys)
appends_then None b c xs ys h k = tt
appends_then (Some x) None c xs ys h k = absurd h
appends_then (Some x) (Some y) None xs ys h k = absurd k
appends_then (Some x) (Some y) (Some z) xs ys h k = rw (k, h) (append_assoc x xs ys)

pub appends_nothing : (a : Option (List ℕ)) → Appends a a []
appends_nothing None = tt
appends_nothing (Some xs) = sym (append-nil xs)

appends_kept : (a b c : Option (List ℕ)) (xs : List ℕ) → Appends a b xs → Keeps b c → Appends a c xs
appends_kept None b c xs h k = tt
appends_kept (Some x) None c xs h k = absurd h
appends_kept (Some x) (Some y) None xs h k = absurd k
appends_kept (Some x) (Some y) (Some z) xs h k = rw k h

-- one front after another
appends_more : (a b c : Option (List ℕ)) (bytes : List ℕ) (m n : ℕ) → Appends a b (take m bytes) → Appends b c (take n (drop m bytes))
    → Appends a c (take (m + n) bytes)
appends_more a b c bytes m n h k = rw (take-add m n bytes) (appends_then a b c (take m bytes) (take n (drop m bytes)) h k)

-- the same, as the code reads the rest
pub appends_rest : (a b c : Option (List ℕ)) (bytes : List ℕ) (m n : ℕ) → Appends a b (take m bytes)
    → Appends b c (take n (take (length bytes - m) (drop m bytes))) → Appends a c (take (m + n) bytes)
appends_rest a b c bytes m n h k = appends_more a b c bytes m n h (rw (take_rest bytes m) at k)

-- a fault leaves a front
pub front_kept : (a b c : Option (List ℕ)) (bytes : List ℕ) (at : ℕ) → Appends a b (take at bytes) → Keeps b c → AppendsFront a c bytes
front_kept a b c bytes at h k = record {
  front = take at bytes;
  rest = drop at bytes;
  whole = sym (take-append-drop at bytes);
  written = appends_kept a b c
      (take at bytes) h k;
}

-- bytes, and then a front
pub front_after : (a b c : Option (List ℕ)) (xs ys : List ℕ) → Appends a b xs → AppendsFront b c ys → AppendsFront a c (xs ++ ys)
front_after a b c xs ys h k = record {
  front = xs ++ k.front;
  rest = k.rest;
  whole = ap (λ l. xs ++ l) k.whole ∙ sym (append_assoc xs k.front k.rest);
  written = appends_then a b c xs k.front h k.written;
}

pub front_of_none : (a : Option (List ℕ)) (bytes : List ℕ) → AppendsFront a a bytes
front_of_none a bytes = record { front = []; rest = bytes; whole = refl; written = appends_nothing a }

pub front_longer : (a b : Option (List ℕ)) (bytes rest : List ℕ) → AppendsFront a b bytes → AppendsFront a b (bytes ++ rest)
front_longer a b bytes rest k = record { front = k.front; rest = k.rest ++ rest; whole = rw (k.whole) (append_assoc k.front k.rest rest); written = k.written }

pub on_err : {T E : Type 0} (r : Result T E) (P : Type 0) → P → OnErr r P
on_err (Ok x) P h = tt
on_err (Err e) P h = h

-- bytes that are taken one piece after another
pub consumes_then : (a b c : Option (List ℕ)) (xs ys : List ℕ) → Consumes a b xs → Consumes b c ys → Consumes a c (xs ++ ys)
consumes_then None b c xs ys h k = tt
consumes_then (Some x) None c xs ys h k = absurd h
consumes_then (Some x) (Some y) None xs ys h k = absurd k
consumes_then (Some x) (Some y) (Some z) xs ys h k = h ∙ ap (λ l. xs ++ l) k ∙ sym (append_assoc xs ys z)

pub consumes_nothing : (a : Option (List ℕ)) → Consumes a a []
consumes_nothing None = tt
consumes_nothing (Some xs) = refl

pub consumes_kept : (a b c : Option (List ℕ)) (xs : List ℕ) → Consumes a b xs → Keeps b c → Consumes a c xs
consumes_kept None b c xs h k = tt
consumes_kept (Some x) None c xs h k = absurd h
consumes_kept (Some x) (Some y) None xs h k = absurd k
consumes_kept (Some x) (Some y) (Some z) xs h k = h ∙ ap (λ l. xs ++ l) (sym k)

pub nothing_taken : (a : Option (List ℕ)) → IsBounded a a
nothing_taken a = record { taken = []; from = consumes_nothing a; short = omega arith }
