use Rattle.std.proofs.Common.{◌≡◌, ℕ, ◌+◌, ◌≤◌, List, [], ◌++◌, length, take, drop, arith, ap, sym, ◌∙◌}
use Rattle.std.proofs.lemmas.List.{take-append-drop, drop-drop, length-take-le, length-drop}
use Rattle.std.proofs.Math.Seq.{take-append_seam}
use Rattle.std.proofs.Math.ListN.{drop_of_length-le}

-- what is left is the front that was copied and the rest
pub front_and_rest : (bytes buf front : List ℕ) (at n : ℕ) → front ≡ take n (drop at bytes)
    → at + n ≤ length bytes → drop at bytes ≡ take n (front ++ drop n buf) ++ drop (at + n) bytes
front_and_rest bytes buf front at n h k =
    let len : length front ≡ n = ap length h ∙ length-take-le n (drop at bytes) (omega (arith, length-drop at bytes)) in
    let whole : take n (front ++ drop n buf) ≡ front = rw (← len) (take-append_seam front _) in
    rw (whole, h, ← drop-drop n at bytes) (sym (take-append-drop n (drop at bytes)))

pub nothing_past : (xs : List ℕ) (n : ℕ) → length xs ≤ n → drop n xs ≡ []
nothing_past xs n h = drop_of_length-le xs {i = n} h
