use Rattle.std.proofs.Common.{◌≡◌, ℕ, arith}
use Rattle.std.proofs.lemmas.Grind.{common_steps}
use Rattle.std.proofs.lemmas.List.FromFn.{map-range_with_len_more}
use Rattle.grammar_core.specs.declared.table.Prod.TheVariants.{Call}
use Rattle.use_syntax.specs.Language.{call_prods}
use Rattle.use_syntax.proofs.table.push_calls.Goals as goal

pub rules-preserved : goal.rules-preserved
rules-preserved c =
    let e = map-range_with_len_more (λ (k : ℕ). Call k) 0 c.rules.rule c.rules.rule (omega arith) in
    grind (arith, common_steps, e)

pub returns : goal.returns
unfolding call_prods
returns c =
    let e : c.rules.rule ≡ 63 = omega arith in
    rw e at c.rules.invariant
