-- The nodes that a rule's production gives have their parts.
use Rattle.std.proofs.Common.{◌≡◌, ◌<◌, ℕ, true, List, [], ◌∷◌, length, Some, slice_get, refl, sym, ap, subst, arith}
use Rattle.std.proofs.lemmas.Bool.Decides.{nat_tests}
use Rattle.std.proofs.lemmas.Option.{slice_get_within}
use Rattle.grammar_core.specs.Trees.{ParseTree, leaf, node, row_of, trees_of}
use Rattle.grammar_core.specs.Derives.{Outcome, Gives}
use Rattle.use_syntax.specs.declared.rule.Rule.{Rule}
use Rattle.use_syntax.specs.Language.{language}
use Rattle.use_syntax.specs.Numbers.{number_of_rule}
use Rattle.use_syntax.proofs.Fitness.{rules_there}
use Rattle.use_nodes.specs.Nodes.{is_rule}
use Rattle.use_nodes.specs.Whole.{has_parts, HasItsParts}
use Rattle.use_nodes.proofs.Required.{are_met, needs, met_has_parts, rule_numbered}
use Rattle.use_nodes.proofs.Accepted.{rule_met}

pub trees_back : (ts : List ParseTree) → trees_of (row_of ts) ≡ ts
trees_back [] = refl
trees_back (leaf k at ∷ ts) = ap (λ (l : List ParseTree). leaf k at ∷ l) (trees_back ts)
trees_back (node n row ∷ ts) = ap (λ (l : List ParseTree). node n row ∷ l) (trees_back ts)

-- a number of a rule of the table is that of a rule
pub rule_of_number : (n p : ℕ) → slice_get language.rules n ≡ Some p → (rule : Rule) × (is_rule rule (node n (row_of [])) ≡ true)
rule_of_number n p e = let low : n < length language.rules = slice_get_within language.rules n p e in rule_numbered n (omega (arith, low, rules_there))

module _ (ks : List ℕ) where
  parts_of_rule : (n p level at to : ℕ) (trees : List ParseTree) → slice_get language.rules n ≡ Some p
      → Gives language ks p level at (Outcome.ends to trees) → (rule : Rule) → is_rule rule (node n (row_of trees)) ≡ true
      → has_parts rule (node n (row_of trees)) ≡ true
  parts_of_rule n p level at to trees e of rule is =
      let same : n ≡ number_of_rule rule = grind (arith, nat_tests) in
      let there : slice_get language.rules (number_of_rule rule) ≡ Some p = subst (λ (m : ℕ). slice_get language.rules m ≡ Some p) same e in
      let met : are_met (needs rule) (trees_of (row_of trees)) ≡ true =
      subst (λ (ts : List ParseTree). are_met (needs rule) ts ≡ true) (sym (trees_back trees)) (rule_met ks rule p level at to trees there of) in
      subst (λ (m : ℕ). has_parts rule (node m (row_of trees)) ≡ true) (sym same) (met_has_parts rule (row_of trees) met)

  pub node_has_parts : (n p level at to : ℕ) (trees : List ParseTree) → slice_get language.rules n ≡ Some p
      → Gives language ks p level at (Outcome.ends to trees) → HasItsParts (node n (row_of trees))
  node_has_parts n p level at to trees e of =
      let its = rule_of_number n p e in
      record { rule = its.0; is = its.1; parts = parts_of_rule n p level at to trees e of }
