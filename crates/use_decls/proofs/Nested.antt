-- Types that nest.
use Rattle.std.proofs.Common.{◌≡◌, ℕ, zero, suc, ◌-◌, List, refl, sym, ap, arith}
use Rattle.grammar_core.specs.Trees.{ParseTree}
use Rattle.use_nodes.specs.TypeNodes.{type_node}
use Rattle.ocl_values.specs.declared.value.Kind.{Kind}
use Rattle.use_decls.specs.Names.{LexedText}
use Rattle.use_decls.specs.Types.{type_in, type_of_node}

-- the type at a node, where it may nest
pub one_deeper : (n : ℕ) (l : LexedText) (outer : List Kind) (t : ParseTree) → (n ≡ 0 → ⊥) →
    type_in n l outer t ≡ type_of_node (type_in (n - 1) l) l outer t (type_node t)
one_deeper zero l outer t e = absurd (e refl)
one_deeper (suc n) l outer t e =
    let less : suc n - 1 ≡ n = omega arith in
    sym (ap (λ k. type_of_node (type_in k l) l outer t (type_node t)) less)
