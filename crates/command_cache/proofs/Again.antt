-- What was noted tells a command again wherever its names stand for what they stood for.
use Rattle.std.proofs.Common.{◌≡◌, ℕ, List, [], ◌∷◌, All, IfSome, map, Option, Some, None, Ok, sym, ap, ◌∙◌, subst}
use Rattle.std.specs.Option.{option_map}
use Rattle.std.proofs.lemmas.List.Elements.{All-cons, All-head, All-nil, All-tail}
use Rattle.use_text.specs.declared.token.Token.{Token}
use Rattle.grammar_core.specs.Trees.{ParseTree}
use Rattle.use_syntax.specs.Reading.{Reading, parsed, read_command}
use Rattle.ocl_core.specs.declared.program.ProgramParts.{ProgramParts}
use Rattle.soil_check.specs.declared.checked.Checked.{Checked}
use Rattle.soil_check.specs.declared.scope.Bindings.{Bindings}
use Rattle.soil_check.specs.Checks.{IsCommandOf, TakesNames}
use Rattle.soil_check.specs.Commands.{command_in}
use Rattle.soil_check.specs.Scopes.{Known}
use Rattle.command_cache.specs.declared.commands.Prepared.{Prepared}
use Rattle.command_cache.specs.declared.meanings.Named.{Named}
use Rattle.command_cache.specs.declared.noted.Noted.{Noted}
use Rattle.command_cache.specs.Meanings.{IsMeant, names_in}
use Rattle.command_cache.specs.Prepared.{IsPrepared, Notes, checked_as}
use Rattle.command_cache.proofs.Alike.{Agree, command_same}

-- what stands for the same as before stands for the same
all_agree : (known other : List ℕ → Option Known) (ns : List Named) → All (IsMeant known) ns → All (IsMeant other) ns
    → All (Agree other known) (map (λ (n : Named). n.name) ns)
all_agree known other [] h g = All-nil (Agree other known)
all_agree known other (n ∷ ns) h g =
    All-cons (Agree other known) n.name (map (λ (n : Named). n.name) ns)
    (All-head (IsMeant other) n ns g ∙ sym (All-head (IsMeant known) n ns h))
    (all_agree known other ns (All-tail (IsMeant known) n ns h) (All-tail (IsMeant other) n ns g))

module _ (p : ProgramParts) (known : List ℕ → Option Known) (bound : Option Bindings) (text : List ℕ) (ts : List Token) (t : ParseTree) (n : Noted)
    (command : Checked) (h : Notes known bound text ts n) (reads : read_command 0 text ≡ parsed ts t)
    (is : command_in p known bound text ts t ≡ Ok command) where
  module _ (other : List ℕ → Option Known) (frame : Option Bindings) (meant : All (IsMeant other) n.names) (same : frame ≡ n.bound) where
    agree : All (Agree other known) (names_in text ts)
    agree = subst (All (Agree other known)) h.names (all_agree known other n.names h.meant meant)

    checked_same : command_in p other frame text ts t ≡ Ok command
    checked_same =
        command_same other known p.model (record { text = text; tokens = ts }) frame agree t
        ∙ ap (λ (b : Option Bindings). command_in p known b text ts t) (same ∙ h.bound) ∙ is

    told : checked_as p other frame n.text (read_command 0 n.text) ≡ Some (n.tokens, Ok command)
    told =
        ap (λ (s : List ℕ). checked_as p other frame s (read_command 0 s)) h.text ∙ ap (λ (x : Reading). checked_as p other frame text x) reads
        ∙ (λ i. Some (sym h.tokens i, checked_same i))

  pub is_prepared : IsCommandOf p.model command → TakesNames command → IsPrepared p (record { noted = n; command = command })
  is_prepared of_model names = λ other frame meant same. record { checked = told other frame meant same; of_model = of_model; names = names }

-- a command that is kept with what was noted of it
pub kept_with : (p : ProgramParts) (noted : Option Noted) (command : Checked) (x : Prepared)
    → option_map (λ (n : Noted). record { noted = n; command = command }) noted ≡ Some x
    → IfSome noted (λ (n : Noted). IsPrepared p (record { noted = n; command = command })) → IsPrepared p x
kept_with p None command x e h = absurd (none e)
  where
    none : ◌≡◌ {A = Option Prepared} None (Some x) → ⊥
    none e = cc
kept_with p (Some n) command x e h = let same : record { noted = n; command = command } ≡ x = cc in subst (IsPrepared p) same h
