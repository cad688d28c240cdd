-- What the words of the command line ask for.
use Rattle.std.specs.Prelude.{ℕ, List, Option}
use Rattle.use_words.specs.CommandLine.{Asked, asked}

-- as clap reads them
unfoldable pub wanted : List (List ℕ) → Option Asked
wanted words = asked words
