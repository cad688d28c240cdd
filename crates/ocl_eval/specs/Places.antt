-- Places of an environment.
use Rattle.std.specs.Prelude.{ℕ, ◌-◌, List, length, take}

-- an environment without so many of its innermost values
abbrev pub front : {A : Type 0} → ℕ → List A → List A
front k env = take (length env - k) env
