-- What tokens are read as is what the relation of derivations says of them.
use Rattle.std.proofs.Common.{◌<◌, List, length, refl, sym, ap, ◌∙◌, arith}
use Rattle.use_text.specs.declared.token.Token.{Token}
use Rattle.use_text.specs.Tokens.{Tokens}
use Rattle.grammar_core.specs.Derives.{Verdict, kinds}
use Rattle.grammar_core.specs.Parses.{verdict}
use Rattle.grammar_core.proofs.Verdicts.{computed_holds, holds_one}
use Rattle.use_syntax.specs.declared.rule.Rule.{Rule}
use Rattle.use_syntax.specs.declared.rule.Rule.TheVariants as r
use Rattle.use_syntax.specs.Language.{language}
use Rattle.use_syntax.specs.Numbers.{number_of_rule}
use Rattle.use_syntax.specs.Reading.{read_lexed, read_tokens, IsReadAsHeld, SaysOf}
use Rattle.use_syntax.proofs.Fitness.{is_fit, rules_there}

module _ (start : Rule) (there : number_of_rule start < length language.rules) where
  told : (ts : List Token) → SaysOf start ts (read_tokens (number_of_rule start) ts)
  unfolding read_tokens
  told ts =
      let v : Verdict = verdict language (kinds ts) (number_of_rule start) in
      let of = computed_holds language (kinds ts) is_fit (number_of_rule start) there in
      let one = holds_one language (kinds ts) is_fit (number_of_rule start) there in
      record { verdict = v; holds = of; only = λ w h. sym (one.only v of) ∙ one.only w h; is = refl }

  held : IsReadAsHeld start
  held first_line text ts e =
      let s = told ts in
      record { verdict = s.verdict; holds = s.holds; only = s.only; is = ap (λ (found : Tokens). read_lexed (number_of_rule start) found) e ∙ s.is }

pub model_held : IsReadAsHeld r.File
model_held = held r.File (omega (arith, rules_there))

pub command_held : IsReadAsHeld r.Command
command_held = held r.Command (omega (arith, rules_there))
