-- The lines of a command and of the stream: those of a command count from 0, and its first one is a line of the stream.
use Rattle.std.specs.Prelude.{ℕ, ◌+◌, ◌-◌, ◌^◌, min}
use Rattle.use_text.specs.declared.place.Place.{Place}
use Rattle.use_text.specs.declared.refusal.Refusal.{Refusal}
use Rattle.use_text.specs.Places.{place_at}
use Rattle.use_text.specs.Refusals.{refusal_at}
use Rattle.soil_exec.specs.declared.fault.ExecFault.{ExecFault}
use Rattle.soil_exec.specs.declared.fault.ExecFault.TheVariants.{Broken, Memory, Refused}

-- the place in the stream of a place in a command that begins in a line; the last line that has a number stands for those behind it
abbrev pub place_in_stream : ℕ → Place → Place
place_in_stream line at = place_at (min (line + at.line) (2 ^ 32 - 1)) at.col

abbrev pub refusal_in : ℕ → Refusal → Refusal
refusal_in line r = refusal_at r.code (place_in_stream line r.place)

abbrev pub fault_in : ℕ → ExecFault → ExecFault
fault_in line (Refused r) = Refused (refusal_in line r)
fault_in line (Broken r n v) = Broken (refusal_in line r) n v
fault_in line Memory = Memory
