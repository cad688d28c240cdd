-- Faults that came later came in the whole.
use Rattle.std.proofs.Common.{◌≡◌, ℕ, ◌≤◌, Result, Ok, Err, IsErrOf, ap, subst, sym, arith}
use Rattle.use_io.specs.Causes.{Rose}
use Rattle.use_shell.specs.declared.stop.Stop.{Stop}
use Rattle.use_shell.specs.declared.stop.Stop.TheVariants.{Read, Write}
use Rattle.use_shell.specs.Stops.{StopsByFile, StopsByWrite}

pub rose_later : (a b d : ℕ) → a ≤ b → Rose b d → Rose a d
rose_later a b d le rose = omega arith

stop_is : {T : Type 0} (stop e : Stop) → IsErrOf {T = T} (Err stop) e → stop ≡ e
stop_is stop e h = cc

-- the same, whatever the other answers are
err_as : {T U : Type 0} (stop e : Stop) → IsErrOf {T = U} (Err stop) e → IsErrOf {T = T} (Err stop) e
err_as stop e h = ap Err (stop_is stop e h)

pub stops_then : {T : Type 0} (a b d x y z : ℕ) (r : Result T Stop) → a ≤ b → x ≤ y → StopsByFile b d y z r → StopsByFile a d x z r
stops_then a b d x y z r shelf sink h = record {
  shelf_later = omega (arith, h.shelf_later);
  sink_later = omega (arith, h.sink_later);
  read = λ k. rose_later a b d shelf (h.read k);
  write = λ k. rose_later x y z sink (h.write k);
}

pub stops_err : {T U : Type 0} (a b d x y z : ℕ) (r : Result U Stop) (stop : Stop) → a ≤ b → x ≤ y → StopsByFile {T = T} b d y z (Err stop) → r ≡ Err stop
    → StopsByFile a d x z r
stops_err a b d x y z r stop shelf sink h is = subst (StopsByFile a d x z) (sym is) (record {
  shelf_later = omega (arith, h.shelf_later);
  sink_later = omega (arith, h.sink_later);
  read = λ k. rose_later a b d shelf (h.read (err_as stop Read k));
  write = λ k. rose_later x y z sink (h.write (err_as stop Write k));
})

pub stops_ok : {T : Type 0} (a b x y : ℕ) (v : T) → a ≤ b → x ≤ y → StopsByFile a b x y (Ok v)
stops_ok a b x y v shelf sink = record { shelf_later = shelf; sink_later = sink; read = λ k. absurd (cc); write = λ k. absurd (cc) }

-- a write that failed
pub stops_written : {T U : Type 0} (a b x y z : ℕ) (r : Result U Stop) (stop : Stop) → a ≤ b → x ≤ y → StopsByWrite {T = T} y z (Err stop) → r ≡ Err stop
    → StopsByFile a b x z r
stops_written a b x y z r stop shelf sink h is = subst (StopsByFile a b x z) (sym is) (record {
  shelf_later = shelf;
  sink_later = omega (arith, h.later);
  read = λ k. absurd (h.no_read (err_as stop Read k));
  write = λ k. rose_later x y z sink (h.cause (err_as stop Write k));
})

pub stops_by_write : {T : Type 0} (a b x y z : ℕ) (r : Result T Stop) → a ≤ b → x ≤ y → StopsByWrite y z r → StopsByFile a b x z r
stops_by_write a b x y z r shelf sink h = record {
  shelf_later = shelf;
  sink_later = omega (arith, h.later);
  read = λ k. absurd (h.no_read k);
  write = λ k. rose_later x y z sink (h.cause k);
}

-- a part that did not fetch in vain was not stopped by reading
pub no_cut : {T U P : Type 0} (a b d y z : ℕ) (r : Result U Stop) (stop : Stop) → a ≤ b → StopsByFile {T = T} b d y z (Err stop) → r ≡ Err stop → IsErrOf r Read
    → ¬ Rose a d → P
no_cut {T = T} {U = U} {P = P} a b d y z r stop shelf h is at none =
    let read : IsErrOf {T = U} (Err stop) Read = subst (λ (q : Result U Stop). IsErrOf q Read) is at in
    absurd (none (rose_later a b d shelf (h.read (err_as stop Read read))))
