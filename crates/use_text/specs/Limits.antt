-- Limits on texts and streams.
use Rattle.std.specs.Prelude.{ℕ}

-- the most bytes of a command
abbrev pub max_command : ℕ
max_command = 65536

-- the most bytes of a text that is read
abbrev pub max_text : ℕ
max_text = 4194304

-- the most lines of a stream, and the largest number of a line
abbrev pub max_lines : ℕ
max_lines = 4000000000
