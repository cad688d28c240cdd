-- Nodes that pass on what stands below them: how many do so in a row.
use Rattle.std.proofs.Common.{◌≡◌, ℕ, ◌+◌, ◌<◌, ◌==◌, ◌&&◌, if◌then◌else◌, cond, true, false, Bool, Option, Some, None, length, refl, arith, suc, ap, sym}
use Rattle.std.proofs.lemmas.Bool.Decides.{nat_tests}
use Rattle.std.specs.Option.{option_map_or}
use Rattle.grammar_core.specs.Trees.{ParseTree, leaf, node, Row, trees_of}
use Rattle.ocl_syntax.specs.Plain.{may_pass, next_of, plain, plain_in}

-- how many nodes in a row pass on what stands below them
abbrev pub passes_in : ℕ → Row → ℕ
passes_in q (Row.rule p below Row.none) = cond (may_pass (node q Row.none)) (passes_in p below + 1) 0
passes_in q row = 0

abbrev pub passes : ParseTree → ℕ
passes (leaf k at) = 0
passes (node q row) = passes_in q row

not_one : (n : ℕ) → (suc (suc n) == 1) ≡ false
not_one n = grind (arith, nat_tests)

abbrev next_if : Bool → ParseTree → Option ParseTree
next_if b x = if b then Some x else None

of_token : (b c : Bool) (x : ParseTree) → next_if ((b && false) && c) x ≡ None
of_token true c x = refl
of_token false c x = refl

of_two : (b c : Bool) (x : ParseTree) → b ≡ false → next_if ((b && true) && c) x ≡ None
of_two b c x e = ap (λ d. next_if ((d && true) && c) x) e

token_first : (q k at : ℕ) (row : Row) → next_of (node q (Row.token k at row)) ≡ None
token_first q k at row = of_token (suc (length (trees_of row)) == 1) (may_pass (node q (Row.token k at row))) (leaf k at)

token_second : (q p k at : ℕ) (below row : Row) → next_of (node q (Row.rule p below (Row.token k at row))) ≡ None
token_second q p k at below row = of_two (suc (suc (length (trees_of row))) == 1) (may_pass (node q Row.none)) (node p below) (not_one (length (trees_of row)))

rule_second : (q p r : ℕ) (below lower row : Row) → next_of (node q (Row.rule p below (Row.rule r lower row))) ≡ None
rule_second q p r below lower row =
    of_two (suc (suc (length (trees_of row))) == 1) (may_pass (node q Row.none)) (node p below) (not_one (length (trees_of row)))

-- what a node means, by the node that it passes on
pub plain_next : (t : ParseTree) → plain t ≡ option_map_or plain (next_of t) t
plain_next (leaf k at) = refl
plain_next (node q Row.none) = refl
plain_next (node q (Row.token k at row)) = ap (λ o. option_map_or plain o (node q (Row.token k at row))) (sym (token_first q k at row))
plain_next (node q (Row.rule p below Row.none)) =
    let t = node q (Row.rule p below Row.none) in
    elim (may_pass (node q Row.none)) as (λ b. (if b then plain_in p below else t) ≡ option_map_or plain (next_if b (node p below)) t) [
      | true ↦ refl
      | false ↦ refl
    ]
plain_next (node q (Row.rule p below (Row.token k at row))) =
    ap (λ o. option_map_or plain o (node q (Row.rule p below (Row.token k at row)))) (sym (token_second q p k at below row))
plain_next (node q (Row.rule p below (Row.rule r lower row))) =
    ap (λ o. option_map_or plain o (node q (Row.rule p below (Row.rule r lower row)))) (sym (rule_second q p r below lower row))

none_is_some : {A : Type 0} (o : Option ParseTree) (next : ParseTree) → o ≡ None → o ≡ Some next → A
none_is_some o next n s = absurd (cc)

by_pass : (b : Bool) (x next : ParseTree) → next_if b x ≡ Some next → passes next < cond b (passes x + 1) 0
by_pass true x next e = omega (arith, ap passes (some_same x next e))
  where
    some_same : (x next : ParseTree) → Some x ≡ Some next → x ≡ next
    some_same x next e = cc
by_pass false x next e = none_is_some None next refl e

-- each node that is passed on passes fewer nodes
pub fewer_passes : (t next : ParseTree) → next_of t ≡ Some next → passes next < passes t
fewer_passes (leaf k at) next e = none_is_some None next refl e
fewer_passes (node q Row.none) next e = none_is_some None next refl e
fewer_passes (node q (Row.token k at row)) next e = none_is_some _ next (token_first q k at row) e
fewer_passes (node q (Row.rule p below Row.none)) next e = by_pass (may_pass (node q Row.none)) (node p below) next e
fewer_passes (node q (Row.rule p below (Row.token k at row))) next e = none_is_some _ next (token_second q p k at below row) e
fewer_passes (node q (Row.rule p below (Row.rule r lower row))) next e = none_is_some _ next (rule_second q p r below lower row) e
