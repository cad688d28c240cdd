use Rattle.std.proofs.Common.{◌≡◌, ◌≤◌, length, take}
use Rattle.use_session.specs.FileWords.{trimmed}
use Rattle.use_session.proofs.file_word.trimmed.Given as goal

abbrev pub invariant-bytes : goal.invariant-bytes
invariant-bytes l = record { within : l.end ≤ length l.text; same : trimmed (take l.end l.text) ≡ trimmed l.text }

abbrev pub decreases-bytes : goal.decreases-bytes
decreases-bytes l = l.end
