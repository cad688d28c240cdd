-- When two evaluations come to the same.
use Rattle.std.specs.Prelude.{◌≡◌, ℕ, ◌+◌, true, List}
use Rattle.object_state.specs.Touched.{has_cell}
use Rattle.object_state.specs.declared.cell.Cell.{Cell}
use Rattle.object_state.specs.declared.cell.Look.{Look}
use Rattle.ocl_eval.specs.declared.meter.Meter.{Meter}

-- two pictures of a state agree on some cells
abbrev pub AgreeOn : List Cell → (Cell → Look) → (Cell → Look) → Type 0
AgreeOn cells now other = (c : Cell) → has_cell cells c ≡ true → other c ≡ now c

-- a meter with more units left
abbrev pub with_more : ℕ → Meter → Meter
with_more k m = record m { fuel = m.fuel + k }
