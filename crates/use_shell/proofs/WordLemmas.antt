-- What playing the words of a run gives whose model is accepted.
use Rattle.std.proofs.Common.{◌≡◌, ℕ, ◌+◌, ◌≤◌, Bool, true, List, Option, Some, None, Result, Ok, Err, IfSome, IfOk, IsErrOf, refl, sym, ap, ◌∙◌, subst, ◌⊎◌, inl, inr, ⊎_elim}
use Rattle.std.specs.Option.{ForSome, option_map}
use Rattle.use_io.specs.Shelves.{Files, KeepsFiles}
use Rattle.use_words.specs.CommandLine.{Asked}
use Rattle.ocl_core.specs.declared.program.ProgramParts.{ProgramParts}
use Rattle.use_shell.specs.declared.status.Status.{Status}
use Rattle.use_shell.specs.declared.status.Status.TheVariants.{TooLong, Strict}
use Rattle.use_shell.specs.declared.stop.Stop.{Stop}
use Rattle.use_shell.specs.declared.stop.Stop.TheVariants.{Memory as Wanting}
use Rattle.use_shell.specs.Output.{Ending, Setting, budget, model_in, of_input, output, setting, setting_for}
use Rattle.use_shell.specs.Plays.{given}
use Rattle.use_shell.specs.Endings.{AnswersTaken, IsLong, IsWithinBudget, WhereTold}
use Rattle.use_shell.specs.Finishes.{CommandsEnd, Finishes, RunFinishes, RunStops}
use Rattle.use_shell.specs.Words.{wanted}
use Rattle.use_shell.proofs.CommandLemmas.{some_same, still}
use Rattle.use_shell.proofs.ToldLemmas.{named_setting, played_output, run_stops, where_told}

at_some : (o : Option Files) (P : Files → Type 0) → IfSome o P → ForSome o P
at_some None P h held is = absurd (cc)
at_some (Some files) P h held is = subst P (some_same files held is) h

if_told : (o : Option Files) (P : Files → Type 0) → ForSome o P → IfSome o P
if_told None P h = tt
if_told (Some held) P h = h held refl

-- what is told behind the reading of the model is told before
pub told_before : (a b : Option Files) (P : Files → Type 0) → KeepsFiles a b → ForSome b P → ForSome a P
told_before a b P keeps h held told = h held (still a b held keeps told)

module _ (words : List (List ℕ)) (files : Option Files) (a : Asked) (p : ProgramParts) (echo strict : Bool) (asked : wanted words ≡ Some a)
    (same_echo : echo ≡ a.echo) (same_strict : strict ≡ a.strict) (model : IfSome files (λ held. model_in held a ≡ Ok p)) where
  abbrev s : Files → Setting
  s held = given p echo strict held

  has_model : ForSome files (λ held. model_in held a ≡ Ok p)
  has_model = at_some files (λ held. model_in held a ≡ Ok p) model

  same_setting : (held : Files) → setting a held p ≡ s held
  same_setting held = ap (λ e. given p e a.strict held) (sym same_echo) ∙ ap (λ t. given p echo t held) (sym same_strict)

  named : ForSome files (λ held. setting_for words held ≡ Some (s held))
  named held told = named_setting words a held p asked (has_model held told) ∙ ap Some (same_setting held)

  ends_as : (held : Files) → files ≡ Some held → (input : List ℕ) → of_input (s held) input ≡ output words held input
  ends_as held told input =
      ap (λ x. of_input x input) (sym (same_setting held)) ∙ sym (played_output words a held p input asked (has_model held told))

  module _ (left now old new : Option (List ℕ)) (u w : ℕ) (r : Result Status Stop) where
    pub played_finishes : ForSome files (λ held. CommandsEnd left now old new u w r (s held)) → RunFinishes words files left old new r
    played_finishes told =
        if_told files (λ held. IfSome left (λ input. Finishes (output words held input) old new r)) (λ held is. by_left held is left (told held is).bytes)
      where
        by_left : (held : Files) → files ≡ Some held → (l : Option (List ℕ)) → IfSome l (λ input. Finishes (of_input (s held) input) old new r)
            → IfSome l (λ input. Finishes (output words held input) old new r)
        by_left held is None h = tt
        by_left held is (Some input) h = subst (λ (e : Ending). Finishes e old new r) (ends_as held is input) h

    pub played_counts : ForSome files (λ held. CommandsEnd left now old new u w r (s held)) → IsErrOf r Wanting ⊎ IsWithinBudget words files left u w
    played_counts told = by_files files ends_as (λ held is. (told held is).units)
      where
        by_left : (l : Option (List ℕ)) (held : Files) → ((input : List ℕ) → of_input (s held) input ≡ output words held input)
            → IfSome l (λ input. w ≤ u + (of_input (s held) input).units) → IfSome l (λ input. w ≤ u + budget words held input)
        by_left None held same h = tt
        by_left (Some input) held same h = subst (λ (e : Ending). w ≤ u + e.units) (same input) h

        by_files : (o : Option Files) → ((held : Files) → o ≡ Some held → (input : List ℕ) → of_input (s held) input ≡ output words held input)
            → ForSome o (λ held. IsErrOf r Wanting ⊎ IfSome left (λ input. w ≤ u + (of_input (s held) input).units))
            → IsErrOf r Wanting ⊎ IsWithinBudget words o left u w
        by_files None same h = inr tt
        by_files (Some held) same h = ⊎_elim (λ m. inl m) (λ le. inr (by_left left held (same held refl) le)) (h held refl)

    pub played_stops : ForSome files (λ held. CommandsEnd left now old new u w r (s held)) → IfOk r (λ status. status ≡ TooLong → IsLong left)
        → IfOk r (λ status. status ≡ Strict → strict ≡ true) → RunStops words files left now r
    played_stops told long strictly = run_stops files words s named left now old new u w r told long (by_result r strictly)
      where
        by_result : (q : Result Status Stop) → IfOk q (λ status. status ≡ Strict → strict ≡ true)
            → IfOk q (λ status. status ≡ Strict → option_map (λ x. x.strict) (wanted words) ≡ Some true)
        by_result (Ok status) h = λ k. ap (option_map (λ x. x.strict)) asked ∙ ap Some (sym same_strict ∙ h k)
        by_result (Err stop) h = tt

    pub played_answers : ForSome files (λ held. AnswersTaken left now old new (s held)) → WhereTold words files (AnswersTaken left now old new)
    played_answers told = where_told files words s named (AnswersTaken left now old new) told
