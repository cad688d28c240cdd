-- What is known of a run by the words, where the shelf tells its files.
use Rattle.std.proofs.Common.{◌≡◌, ℕ, true, List, Option, Some, None, Result, Ok, Err, IfOk, refl, ap, ◌∙◌}
use Rattle.std.specs.Option.{ForSome, option_and_then, option_map}
use Rattle.std.specs.Result.{result_ok}
use Rattle.use_io.specs.Shelves.{Files}
use Rattle.use_words.specs.CommandLine.{Asked}
use Rattle.ocl_core.specs.declared.program.ProgramParts.{ProgramParts}
use Rattle.use_shell.specs.declared.status.Status.{Status}
use Rattle.use_shell.specs.declared.stop.Stop.{Stop}
use Rattle.use_shell.specs.declared.status.Status.TheVariants.{TooLong, Strict}
use Rattle.use_shell.specs.Output.{Setting, model_in, of_input, of_model, of_words, output, setting, setting_for}
use Rattle.use_shell.specs.Endings.{IsLong, WhereTold}
use Rattle.use_shell.specs.Finishes.{CommandsEnd, RunStops}
use Rattle.use_shell.specs.Words.{wanted}

-- the setting that words and their model name
pub named_setting : (words : List (List ℕ)) (a : Asked) (files : Files) (p : ProgramParts) → wanted words ≡ Some a → model_in files a ≡ Ok p
    → setting_for words files ≡ Some (setting a files p)
named_setting words a files p asked is =
    ap (option_and_then (λ x. option_map (setting x files) (result_ok (model_in files x)))) asked ∙ ap (λ t. option_map (setting a files) (result_ok t)) is

pub played_output : (words : List (List ℕ)) (a : Asked) (files : Files) (p : ProgramParts) (input : List ℕ) → wanted words ≡ Some a → model_in files a ≡ Ok p
    → output words files input ≡ of_input (setting a files p) input
played_output words a files p input asked is = ap (λ x. of_words x files input) asked ∙ ap (λ t. of_model a files t input) is

module _ (files : Option Files) (words : List (List ℕ)) (s : Files → Setting) (named : ForSome files (λ held. setting_for words held ≡ Some (s held))) where
  pub where_told : (Holds : Setting → Type 0) → ForSome files (λ held. Holds (s held)) → WhereTold words files Holds
  where_told Holds holds = by_files files named holds
    where
      by_files : (o : Option Files) → ForSome o (λ held. setting_for words held ≡ Some (s held)) → ForSome o (λ held. Holds (s held)) → WhereTold words o Holds
      by_files None n h = tt
      by_files (Some held) n h = record { setting = s held; named = n held refl; holds = h held refl }

  pub run_stops : (left now old new : Option (List ℕ)) (u w : ℕ) (r : Result Status Stop)
      → ForSome files (λ held. CommandsEnd left now old new u w r (s held)) → IfOk r (λ status. status ≡ TooLong → IsLong left)
      → IfOk r (λ status. status ≡ Strict → option_map (λ a. a.strict) (wanted words) ≡ Some true) → RunStops words files left now r
  run_stops left now old new u w (Ok status) told long strict = record {
    long = long;
    too_long = λ k. where_told _ (λ held is. (told held is).too_long k);
    within = λ k. where_told _ (λ held is. (told held is).within k);
    strict = λ k. record { asked = strict k; failed = where_told _ (λ held is. (told held is).failed k) };
    not_failed = λ k. where_told _ (λ held is. (told held is).not_failed k);
    taken = λ k. where_told _ (λ held is. (told held is).taken k);
  }
  run_stops left now old new u w (Err stop) told long strict =
      record { long = tt; too_long = tt; within = tt; strict = tt; not_failed = tt; taken = tt }
