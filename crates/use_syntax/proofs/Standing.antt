-- In the language's table only the rules for whole texts have the token `End`, at their end: so a refusal stands at a token.
use Rattle.std.proofs.Common.{◌≡◌, ◌<◌, ◌==◌, ℕ, ◌||◌, not, Bool, true, List, length, Some, slice_get, refl, subst, arith}
use Rattle.std.proofs.lemmas.List.{length-map}
use Rattle.use_text.specs.declared.token.Token.{Token}
use Rattle.grammar_core.specs.declared.table.Prod.TheVariants.{Tok}
use Rattle.grammar_core.specs.Derives.{Verdict, derived, stuck, deep, kinds, Holds}
use Rattle.grammar_core.specs.Parses.{verdict}
use Rattle.grammar_core.proofs.Verdicts.{computed_holds}
use Rattle.use_syntax.specs.declared.rule.Rule.{Rule}
use Rattle.use_syntax.specs.declared.rule.Rule.TheVariants as r
use Rattle.use_syntax.specs.declared.production.Production.TheVariants as p
use Rattle.use_syntax.specs.declared.row.Symbol.TheVariants.{Rule as RuleOf, Production}
use Rattle.use_syntax.specs.Forms.{place_of}
use Rattle.use_syntax.specs.Language.{token_prods, call_prods, type_prods, expression_prods, statement_prods, command_prods, model_prods, all_prods, bodies, language}
use Rattle.use_syntax.specs.Numbers.{number_of_rule}
use Rattle.use_syntax.specs.Reading.{StandsAtToken, RefusalsStandAtTokens}
use Rattle.use_syntax.proofs.Fitness.{is_fit, rules_there}
use Rattle.use_syntax.proofs.Ended.{EndsAt, end_of_tokens}
use Rattle.use_syntax.proofs.Plain.{are_plain, rule_closes, stuck_inside, deep_inside}

-- all but the token `End` and the two rules for whole texts
abbrev plain : ℕ → Bool
plain n = not ((n == 0) || (n == place_of (RuleOf r.File)) || (n == place_of (RuleOf r.Command)) || (n == place_of (Production p.File))
    || (n == place_of (Production p.Command)))

all_plain : are_plain language plain 0 language.prods ≡ true
unfolding token_prods call_prods type_prods expression_prods statement_prods command_prods model_prods all_prods bodies language
all_plain = refl

end_first : slice_get language.prods 0 ≡ Some (Tok 0)
unfolding token_prods all_prods language
end_first = refl

model_closes : rule_closes language plain (slice_get language.rules (number_of_rule r.File)) ≡ true
unfolding token_prods call_prods type_prods expression_prods statement_prods command_prods model_prods all_prods bodies language
model_closes = refl

command_closes : rule_closes language plain (slice_get language.rules (number_of_rule r.Command)) ≡ true
unfolding token_prods call_prods type_prods expression_prods statement_prods command_prods model_prods all_prods bodies language
command_closes = refl

module _ (start : Rule) (there : number_of_rule start < length language.rules) (closed : rule_closes language plain (slice_get language.rules
    (number_of_rule start)) ≡ true) where
  standing : (ts : List Token) (last : ℕ) → EndsAt (kinds ts) last → (v : Verdict) → Holds language (kinds ts) (number_of_rule start) v → StandsAtToken ts v
  standing ts last end (derived tree) h = tt
  standing ts last end (stuck at) h = subst (λ (n : ℕ). at < n) (length-map ts (λ (t : Token). t.kind)) (stuck_inside language plain all_plain
      (kinds ts) last end end_first (number_of_rule start) closed at h)
  standing ts last end (deep at) h = subst (λ (n : ℕ). at < n) (length-map ts (λ (t : Token). t.kind)) (deep_inside language plain all_plain
      (kinds ts) last end end_first (number_of_rule start) closed at h)

  stand : RefusalsStandAtTokens start
  stand first_line text ts e = let end = end_of_tokens first_line text ts e in standing ts end.0 end.1 (verdict language (kinds ts) (number_of_rule start))
      (computed_holds language (kinds ts) is_fit (number_of_rule start) there)

pub model_stands : RefusalsStandAtTokens r.File
model_stands = stand r.File (omega (arith, rules_there)) model_closes

pub command_stands : RefusalsStandAtTokens r.Command
command_stands = stand r.Command (omega (arith, rules_there)) command_closes
