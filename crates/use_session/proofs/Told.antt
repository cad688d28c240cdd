-- Answers of commands, from what their parts answer.
use Rattle.std.proofs.Common.{◌≡◌, ◌+◌, ◌++◌, ℕ, List, Result, Ok, Err, refl, sym, subst, arith}
use Rattle.std.specs.Prelude.{IfOk, OnOk}
use Rattle.std.specs.declared.alloc.AllocError.{AllocError}
use Rattle.use_text.specs.declared.code.Code.{Code}
use Rattle.use_text.specs.declared.refusal.Refusal.{Refusal}
use Rattle.undo_log.specs.Kept.{Kept as History}
use Rattle.use_session.specs.declared.machine.Machine.{Machine as Kept}
use Rattle.use_session.specs.declared.session.Turn.{Turn}
use Rattle.use_session.specs.declared.session.Turn.TheVariants.{Refused}
use Rattle.use_session.specs.Answering.{Answers}
use Rattle.use_session.specs.Answers.{refusal_line}
use Rattle.use_session.specs.Kept.{IsKept, machine_of}
use Rattle.use_session.specs.Machine.{Machine, Step, refused, refused_after}

-- a command that is refused with a line
pub line_answers : (m : Machine) (line : List ℕ) (code : Code) (units : ℕ) (bytes : List ℕ) (steps : ℕ) (told : Result Turn AllocError) (k : Kept) (bytes' : List ℕ) (steps' : ℕ)
    → OnOk told (bytes' ≡ bytes ++ line) → IfOk told (λ t. t ≡ Refused code) → IsKept k → machine_of k ≡ m → steps' ≡ steps + units
    → Answers (record { machine = m; bytes = line; turn = Refused code; units = units }) bytes steps told k bytes' steps'
line_answers m line code units bytes steps (Ok t) k bytes' steps' b t' h e u = record { turn = t'; kept = h; machine = e; bytes = b; units = u }
line_answers m line code units bytes steps (Err x) k bytes' steps' b t' h e u = tt

-- a refusal
pub refused_answers : (m : Machine) (r : Refusal) (units : ℕ) (bytes : List ℕ) (steps : ℕ) (told : Result Turn AllocError) (k : Kept) (bytes' : List ℕ) (steps' : ℕ)
    → OnOk told (bytes' ≡ bytes ++ refusal_line r) → IfOk told (λ t. t ≡ Refused r.code) → IsKept k → machine_of k ≡ m → steps' ≡ steps + units
    → Answers (refused_after units m r) bytes steps told k bytes' steps'
refused_answers m r units bytes steps told k bytes' steps' b t' h e u = line_answers m (refusal_line r) r.code units bytes steps told k bytes' steps' b t' h e u

-- where no units are spent, as many as before are counted
added : (n units : ℕ) → 0 ≡ 0 + units → n ≡ n + units
added n units e = omega arith

pub uncounted : (s : Step) (bytes : List ℕ) (told : Result Turn AllocError) (k : Kept) (bytes' : List ℕ) (n : ℕ) → Answers s bytes 0 told k bytes' 0 → Answers s bytes n told k bytes' n
uncounted s bytes (Ok turn) k bytes' n a = record {
  turn = a.turn;
  kept = a.kept;
  machine = a.machine;
  bytes = a.bytes;
  units = added n s.units a.units;
}
uncounted s bytes (Err e) k bytes' n a = tt

-- units that were spent before come on top
more : (n k u a : ℕ) → a ≡ n + k + u → a ≡ n + (k + u)
more n k u a e = omega arith

pub behind_units : (s : Step) (before n : ℕ) (bytes : List ℕ) (told : Result Turn AllocError) (k : Kept) (bytes' : List ℕ) (after : ℕ)
    → Answers s bytes (before + n) told k bytes' after → Answers (record s { units = n + s.units }) bytes before told k bytes' after
behind_units s before n bytes (Ok turn) k bytes' after a = record {
  turn = a.turn;
  kept = a.kept;
  machine = a.machine;
  bytes = a.bytes;
  units = more before n s.units after a.units;
}
behind_units s before n bytes (Err e) k bytes' after a = tt

-- a refusal that leaves the history as it was
module _ (k : Kept) (h : IsKept k) where
  pub unmoved : (s : Step) (r : Refusal) (bytes : List ℕ) (history : History) (told : Result Turn AllocError) (bytes' : List ℕ) → s ≡ refused (machine_of k) r
      → history ≡ k.history → OnOk told (bytes' ≡ bytes ++ refusal_line r) → IfOk told (λ t. t ≡ Refused r.code)
      → Answers s bytes 0 told (record k { history = history }) bytes' 0
  unmoved s r bytes history told bytes' is same b t =
      subst (λ (z : Step × History). Answers z.0 bytes 0 told (record k { history = z.1 }) bytes' 0) (λ i. (sym is i, sym same i))
      (refused_answers (machine_of k) r 0 bytes 0 told k bytes' 0 b t h refl refl)
