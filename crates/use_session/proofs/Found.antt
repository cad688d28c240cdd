-- A command that is kept is answered as its text is.
use Rattle.std.proofs.Common.{◌≡◌, ℕ, List, Option, Some, None, ap, ◌∙◌}
use Rattle.std.specs.Prelude.{IfSome, OnOk, Result, Ok, Err}
use Rattle.use_text.specs.declared.cut.Cut.{Cut}
use Rattle.use_text.specs.declared.cut.Fate.{Fate}
use Rattle.use_text.specs.declared.cut.Fate.TheVariants.{Whole, TooLong, Unfinished}
use Rattle.use_text.specs.declared.token.Token.{Token}
use Rattle.grammar_core.specs.Trees.{ParseTree}
use Rattle.use_syntax.specs.Reading.{Reading, parsed, refused, read_command}
use Rattle.ocl_core.specs.declared.program.ProgramParts.{ProgramParts}
use Rattle.ocl_rules.specs.Typings.{Typing}
use Rattle.soil_check.specs.declared.checked.Checked.{Checked}
use Rattle.soil_check.specs.declared.scope.Bindings.{Bindings}
use Rattle.soil_check.specs.Checks.{IsCommandOf, TakesNames}
use Rattle.soil_check.specs.Commands.{command_in}
use Rattle.soil_check.specs.Scopes.{Known}
use Rattle.command_cache.specs.declared.commands.Prepared.{Prepared}
use Rattle.command_cache.specs.declared.noted.Noted.{Noted}
use Rattle.command_cache.specs.Prepared.{Is, IsPrepared, Notes, checked_as}
use Rattle.command_cache.proofs.Again.{is_prepared}
use Rattle.use_session.specs.Commands.{reading_of_fate}
use Rattle.use_session.specs.Frames.{top_bindings}
use Rattle.use_session.specs.Machine.{Machine, Step, answered_reading, answered_tokens, open_calls, present, silent}
use Rattle.use_session.specs.Prepared.{IsFound}
use Rattle.use_session.specs.Shell.{known}
use Rattle.use_session.proofs.Scoping.{runs}

module _ (m : Machine) (line : ℕ) (text : List ℕ) where
  -- how a command is answered, by its tokens and what it is checked as
  abbrev answer_of : Option (List Token × Typing Checked) → Step
  answer_of None = silent m
  answer_of (Some x) = answered_tokens m line x.0 x.1

  abbrev now : Reading → Option (List Token × Typing Checked)
  now r = checked_as m.program (known (present m)) (top_bindings m.program.model (open_calls m)) text r

  as_told : (r : Reading) (ts : List Token) (x : Typing Checked) → now r ≡ Some (ts, x) → answered_reading m line text r ≡ answered_tokens m line ts x
  as_told (parsed us t) ts x e = ap answer_of e
  as_told (refused r) ts x e = absurd (none e)
    where
      none : ◌≡◌ {A = Option (List Token × Typing Checked)} None (Some (ts, x)) → ⊥
      none e = cc

module _ (m : Machine) (cut : Cut) (x : Prepared) where
  pub is_found : cut.fate ≡ Whole
      → Is m.program (known (present m)) (top_bindings m.program.model (open_calls m)) cut.text x → IsFound m cut x
  is_found whole h = record {
    fit = runs m.program.model x.command h.of_model h.names;
    same = ap (λ (f : Fate). answered_reading m cut.first_line cut.text (reading_of_fate f cut.text)) whole
        ∙ as_told m cut.first_line cut.text (read_command 0 cut.text) x.noted.tokens (Ok x.command) h.checked;
  }

pub some_found : (m : Machine) (cut : Cut) → cut.fate ≡ Whole → (o : Option Prepared)
    → IfSome o (Is m.program (known (present m)) (top_bindings m.program.model (open_calls m)) cut.text) → IfSome o (IsFound m cut)
some_found m cut whole None h = tt
some_found m cut whole (Some x) h = is_found m cut x whole h

-- what was noted, if anything was, tells the command again
pub all_prepared : (p : ProgramParts) (names : List ℕ → Option Known) (bound : Option Bindings) (text : List ℕ) (ts : List Token) (t : ParseTree) (o : Option Noted)
    (command : Checked) → IfSome o (Notes names bound text ts) → read_command 0 text ≡ parsed ts t → command_in p names bound text ts t ≡ Ok command
    → IsCommandOf p.model command → TakesNames command → IfSome o (λ (n : Noted). IsPrepared p (record { noted = n; command = command }))
all_prepared p names bound text ts t None command h reads is of_model takes = tt
all_prepared p names bound text ts t (Some n) command h reads is of_model takes =
    is_prepared p names bound text ts t n command h reads is of_model takes

-- what holds in any case
pub in_any_case : {A E B : Type 0} (told : Result A E) → B → OnOk told B
in_any_case (Ok a) b = b
in_any_case (Err e) b = tt

-- a command that is read as tokens with a tree was cut out whole
pub whole_read : (fate : Fate) (text : List ℕ) (ts : List Token) (t : ParseTree) → reading_of_fate fate text ≡ parsed ts t → read_command 0 text ≡ parsed ts t
whole_read Whole text ts t e = e
whole_read TooLong text ts t e = absurd (cc)
whole_read Unfinished text ts t e = absurd (cc)
