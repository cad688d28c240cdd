-- The program's command line, and what its words ask for, as clap reads them.
use Rattle.std.specs.Prelude.{ℕ, ◌==◌, Bool, true, false, not, if◌then◌else◌, List, [], ◌∷◌, Option, Some, None, codes, map, String, string_bytes}
use Rattle.std.specs.Option.{option_map, option_map_or}
use Rattle.std.specs.Str.{bytes_eq}
use Rattle.std.specs.declared.alloc.Global.{Global}
use Rattle.clap.specs.Faults.{fault_of}
use Rattle.clap.specs.Simple.{App, matches_of, new_app, new_rule, with_rule}
use Rattle.clap.specs.Walk.{Row, Rule, Text, first_of, is_empty, one_of}
use Rattle.clap.specs.declared.builder.action.ArgAction.TheVariants.{Set, SetTrue}
use Rattle.use_words.specs.declared.words.Words.{Words}

abbrev pub usage_line : List ℕ
usage_line = codes "usage: usesh [--echo] [--strict] MODEL | usesh --sample N\n"

-- the words, each as its bytes
abbrev pub words_of : List (String Global) → List Text
words_of words = map (λ s. string_bytes s) words

abbrev pub flag_rule : Text → Rule
flag_rule name = record (new_rule name) { long = Some name; action = Some SetTrue }

abbrev pub positional_rule : Text → Rule
positional_rule name = record (new_rule name) { action = Some Set }

-- `usesh [--echo] [--strict] MODEL`, without a flag that asks for help
abbrev pub bare : App
bare = let a = new_app (codes "usesh") in record a { top = record a.top { disable_help_flag = true } }

abbrev pub command_line : App
command_line = with_rule (with_rule (with_rule bare (flag_rule (codes "echo"))) (flag_rule (codes "strict"))) (positional_rule (codes "model"))

-- what words ask for
pub record Asked : Type 0 where
  pub echo : Bool
  pub strict : Bool
  pub model : List ℕ

abbrev pub is_true : Text → Bool
is_true t = bytes_eq t (codes "true")

-- a flag was found
abbrev pub is_set : Text → List Row → Bool
is_set name rows = option_map_or is_true (one_of name rows) false

-- by what clap found: a model is wanted
abbrev pub asked_in : List Row → Option Asked
asked_in rows = option_map (λ m. record { echo = is_set (codes "echo") rows; strict = is_set (codes "strict") rows; model = m }) (first_of (codes "model") rows)

-- clap refuses the words
abbrev pub is_refused : App → List Text → Bool
is_refused a words = not (is_empty (fault_of a words))

-- what the words ask for, if clap takes them
abbrev pub asked : List Text → Option Asked
asked words = if is_refused command_line words then None else asked_in (matches_of command_line words)

-- the same, of what is answered
abbrev pub fits : Words → Asked
fits w = record { echo = w.echo; strict = w.strict; model = w.model.now }
