-- Sources in memory.
use Rattle.std.specs.Prelude.{ℕ, List, Bool, nat_eq}
use Rattle.std.specs.List.{list_any}

-- the bytes that are left, and the most that one call gives
pub record Reading : Type 0 where
  pub left : List ℕ
  pub piece : ℕ

abbrev pub reading : List ℕ → ℕ → Reading
reading left piece = record { left = left; piece = piece }

-- a source that fails at calls: which they are, how many calls there were, and how often it has failed
pub record FaultyReading : Type 0 where
  pub reading : Reading
  pub fails : List ℕ
  pub calls : ℕ
  pub faults : ℕ

-- one that was not called yet
abbrev pub faulty_reading : Reading → List ℕ → FaultyReading
faulty_reading r fails = record { reading = r; fails = fails; calls = 0; faults = 0 }

-- whether it fails at a call
abbrev pub fails_at : List ℕ → ℕ → Bool
fails_at fails call = list_any (λ n. nat_eq n call) fails
