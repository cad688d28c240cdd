-- Readers and writers of std, behind the traits.
use Rattle.std.specs.Prelude.{ℕ, ◌-◌, List, length, take, Option}
use Rattle.std.specs.Option.{option_map}

-- a reader, and how often it has failed
pub record Counted (T : Type 0) : Type 0 where
  pub inner : T
  pub faults : ℕ

-- a writer, how often it has failed, and how many bytes it holds at its end that were not accepted, since their flush failed
pub record Flushed (T : Type 0) : Type 0 where
  pub inner : T
  pub faults : ℕ
  pub refused : ℕ

-- the bytes that were accepted, of those that a writer tells, by what tells the bytes that it holds
abbrev pub accepted : {T : Type 0} → (T → Option (List ℕ)) → Flushed T → Option (List ℕ)
accepted contents s = option_map (λ bytes. take (length bytes - s.refused) bytes) (contents s.inner)
