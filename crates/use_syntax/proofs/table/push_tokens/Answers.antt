use Rattle.std.proofs.Common.{◌≡◌, ℕ, arith}
use Rattle.std.proofs.lemmas.Grind.{common_steps}
use Rattle.std.proofs.lemmas.List.FromFn.{map-range_with_len_more}
use Rattle.grammar_core.specs.declared.table.Prod.TheVariants.{Tok}
use Rattle.use_syntax.specs.Language.{token_prods}
use Rattle.use_syntax.proofs.table.push_tokens.Goals as goal

pub kinds-preserved : goal.kinds-preserved
kinds-preserved c =
    let e = map-range_with_len_more (λ (k : ℕ). Tok k) 0 c.kinds.kind c.kinds.kind (omega arith) in
    grind (arith, common_steps, e)

pub returns : goal.returns
unfolding token_prods
returns c =
    let e : c.kinds.kind ≡ 96 = omega arith in
    rw e at c.kinds.invariant
