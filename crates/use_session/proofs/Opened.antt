-- Commands that open a file, from what their parts answer.
use Rattle.std.proofs.Common.{◌≡◌, ℕ, List, ◌++◌, Bool, true, false, if◌then◌else◌, Result, Ok, Err, refl, sym, ap, ◌∙◌, subst}
use Rattle.std.specs.Prelude.{IfOk, OnOk}
use Rattle.std.specs.declared.alloc.AllocError.{AllocError}
use Rattle.std.proofs.lemmas.List.{append-nil}
use Rattle.use_text.specs.declared.code.Code.{Code}
use Rattle.use_text.specs.declared.cut.Cut.{Cut}
use Rattle.use_text.specs.declared.place.Place.{Place}
use Rattle.use_text.specs.Refusals.{refusal_at}
use Rattle.use_session.specs.declared.machine.Machine.{Machine as Kept}
use Rattle.use_session.specs.declared.session.Turn.{Turn}
use Rattle.use_session.specs.declared.session.Turn.TheVariants.{Fetch, Refused}
use Rattle.use_session.specs.Answering.{Answers}
use Rattle.use_session.specs.Answers.{refusal_line}
use Rattle.use_session.specs.Commands.{reading_of}
use Rattle.use_session.specs.FileWords.{file_name, first_place, is_open, judged}
use Rattle.use_session.specs.Kept.{IsKept, machine_of}
use Rattle.use_session.specs.Machine.{Machine, Step, answered_reading, opened, step}
use Rattle.use_session.proofs.Told.{refused_answers, uncounted}

-- a command opens a file, or is read
abbrev by : Machine → Cut → Bool → Step
by m cut opens = if opens then opened m (first_place cut.first_line cut.text) (judged (file_name cut.text)) else answered_reading m cut.first_line cut.text (reading_of cut)

module _ (m : Machine) (cut : Cut) (bytes : List ℕ) (steps : ℕ) (told : Result Turn AllocError) (k : Kept) (bytes' : List ℕ) (steps' : ℕ) where
  pub opens : is_open cut ≡ true
      → Answers (opened m (first_place cut.first_line cut.text) (judged (file_name cut.text))) bytes 0 told k bytes' 0 → Answers (step m cut) bytes steps told k bytes' steps
  opens e a = subst (λ (b : Bool). Answers (by m cut b) bytes steps told k bytes' steps) (sym e)
      (uncounted (opened m (first_place cut.first_line cut.text) (judged (file_name cut.text))) bytes told k bytes' steps a)

  pub reads : is_open cut ≡ false → Answers (answered_reading m cut.first_line cut.text (reading_of cut)) bytes steps told k bytes' steps'
      → Answers (step m cut) bytes steps told k bytes' steps'
  reads e a = subst (λ (b : Bool). Answers (by m cut b) bytes steps told k bytes' steps') (sym e) a

module _ (k : Kept) (h : IsKept k) (cut : Cut) (text name : List ℕ) (place : Place) (whole : text ≡ cut.text) (named : name ≡ file_name text)
    (at : place ≡ first_place cut.first_line text) (bytes : List ℕ) where
  same_step : opened (machine_of k) place (judged name) ≡ opened (machine_of k) (first_place cut.first_line cut.text) (judged (file_name cut.text))
  same_step = λ i. opened (machine_of k) ((at ∙ ap (first_place cut.first_line) whole) i) (judged ((named ∙ ap file_name whole) i))

  -- by a name that breaks a rule
  pub refuses_file : (code : Code) → judged name ≡ Err code → (told : Result Turn AllocError) (bytes' : List ℕ)
      → OnOk told (bytes' ≡ bytes ++ refusal_line (refusal_at code place)) → IfOk told (λ t. t ≡ Refused code)
      → Answers (opened (machine_of k) (first_place cut.first_line cut.text) (judged (file_name cut.text))) bytes 0 told k bytes' 0
  refuses_file code e told bytes' b t =
      subst (λ (s : Step). Answers s bytes 0 told k bytes' 0) (ap (opened (machine_of k) place) (sym e) ∙ same_step)
      (refused_answers (machine_of k) (refusal_at code place) 0 bytes 0 told k bytes' 0 b t h refl refl)

  -- by a name that a file may have
  pub fetches_file : (found copy : List ℕ) → judged name ≡ Ok found → copy ≡ found
      → Answers (opened (machine_of k) (first_place cut.first_line cut.text) (judged (file_name cut.text))) bytes 0 (Ok (Fetch copy place)) k bytes 0
  fetches_file found copy e same =
      subst (λ (s : Step). Answers s bytes 0 (Ok (Fetch copy place)) k bytes 0) (ap (opened (machine_of k) place) (sym e) ∙ same_step)
      (record {
        turn = ap (λ (n : List ℕ). Fetch n place) same;
        kept = h;
        machine = refl;
        bytes = sym (append-nil bytes);
        units = refl;
      })
