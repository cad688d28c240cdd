-- No production of the language's table is unfit: a test of the whole table, computed.
use Rattle.std.proofs.Common.{◌≡◌, ◌≤◌, ℕ, ◌+◌, ◌-◌, ◌*◌, Bool, true, false, nat_lt, List, length, Option, Some, None, slice_get, refl, IsTrue, arith}
use Rattle.grammar_core.specs.Unfit.{all_inside, IsFit}
use Rattle.use_syntax.specs.Language.{token_prods, call_prods, type_prods, expression_prods, statement_prods, command_prods, model_prods, all_prods, bodies, nests, language}
use Rattle.use_syntax.proofs.Ranked.{are_ranked, ranked_not}

-- a call of a rule that does not nest stands right above the rule's production
abbrev rank_of_call : Option ℕ → Option Bool → ℕ
rank_of_call (Some to) (Some false) = 2 * to + 1
rank_of_call (Some to) (Some true) = 0
rank_of_call (Some to) None = 0
rank_of_call None nest = 0

abbrev rank_in : List ℕ → List Bool → ℕ → ℕ
rank_in to nest p = elim (nat_lt p 96) [
  | true ↦ 0
  | false ↦ elim (nat_lt p 159) [
    | true ↦ rank_of_call (slice_get to (p - 96)) (slice_get nest (p - 96))
    | false ↦ 2 * p
  ]
]

pub few : length all_prods ≤ 65536
unfolding token_prods call_prods type_prods expression_prods statement_prods command_prods model_prods all_prods
few = omega arith

pub paired : length nests ≡ length bodies
unfolding bodies nests
paired = refl

pub inside : IsTrue (all_inside (length all_prods) bodies)
unfolding token_prods call_prods type_prods expression_prods statement_prods command_prods model_prods all_prods bodies
inside = refl

are_fit : are_ranked language (rank_in bodies nests) 0 language.prods ≡ true
unfolding token_prods call_prods type_prods expression_prods statement_prods command_prods model_prods all_prods bodies nests language
are_fit = refl

pub is_fit : IsFit language
unfolding language
is_fit = record {
  table = record { few = few; paired = paired; inside = inside };
  fit = ranked_not language (rank_in bodies nests) are_fit;
}

pub rules_there : length language.rules ≡ 63
unfolding bodies language
rules_there = refl
