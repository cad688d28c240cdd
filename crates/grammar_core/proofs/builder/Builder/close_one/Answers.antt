use Rattle.std.proofs.Common.{ℕ, ◌≡◌, ◌+◌, ◌++◌, ◌∷◌, [], ◌-◌, List, length, take, drop, slice_set, Result, Ok, sym, ap, ◌∙◌, subst, arith}
use Rattle.grammar_core.specs.declared.fault.ParseFault.{ParseFault}
use Rattle.grammar_core.specs.declared.node.Node.{Node}
use Rattle.grammar_core.specs.declared.node.Node.TheVariants.{Rule}
use Rattle.grammar_core.specs.Arena.{IsBuilt, Built, read_trees, closed}
use Rattle.grammar_core.proofs.Nodes.{built}
use Rattle.grammar_core.proofs.Building.{one_left, one_set, close_built, close_reads}
use Rattle.grammar_core.proofs.builder.Builder.close_one.Goals as goal

pub invariant_of-self-2 : goal.invariant_of-self-2
invariant_of-self-2 c =
    let w : List Node = c.self.inside.waiting.items in
    let nodes : List Node = c.self.inside.nodes.items in
    let i : ℕ = c.args.at in
    let top : Node = Rule c.args.rule c.len-first.result 1 in
    let long : i + 1 ≡ length w = c.requires ∙ ap (λ (b : Built). length b.waiting) (sym c.self.view_is) in
    let first : c.len-first.result ≡ length nodes = omega (arith, c.len-first.ensures, c.self.inside.nodes.ok.0) in
    let all : c.put.new.nodes.items ≡ nodes ++ drop i w = c.in_ok-put.ensures ∙ ap (λ (l : List Node). nodes
    ++ l) (sym (one_left w i c.index-node.result.now _ long c.index-node.ensures)) in
    let new : slice_set w i top ≡ take i w ++ (Rule c.args.rule (length nodes) (length w - i)
    ∷ []) = one_set w i c.args.rule c.len-first.result (length nodes) long first in
    let done : Result (Unit {0}) ParseFault = Ok tt in
    subst (λ (l : List Node). IsBuilt (built l (slice_set w i top))) (sym all) (close_built nodes w c.args.rule i i c.self.invariant (omega (arith, long)) done
    (slice_set w i top) new)

pub returns : goal.returns
returns c =
    let w : List Node = c.self.inside.waiting.items in
    let nodes : List Node = c.self.inside.nodes.items in
    let i : ℕ = c.args.at in
    let top : Node = Rule c.args.rule c.len-first.result 1 in
    let long : i + 1 ≡ length w = c.requires ∙ ap (λ (b : Built). length b.waiting) (sym c.self.view_is) in
    let first : c.len-first.result ≡ length nodes = omega (arith, c.len-first.ensures, c.self.inside.nodes.ok.0) in
    let all : c.put.new.nodes.items ≡ nodes ++ drop i w = c.in_ok-put.ensures ∙ ap (λ (l : List Node). nodes
    ++ l) (sym (one_left w i c.index-node.result.now _ long c.index-node.ensures)) in
    let new : slice_set w i top ≡ take i w ++ (Rule c.args.rule (length nodes) (length w - i)
    ∷ []) = one_set w i c.args.rule c.len-first.result (length nodes) long first in
    let done : Result (Unit {0}) ParseFault = Ok tt in
    subst (λ (b : Built). read_trees (built c.put.new.nodes.items (slice_set w i top)) ≡ closed c.args.rule i (read_trees b)) c.self.view_is
    (subst (λ (l : List Node). read_trees (built l (slice_set w i top)) ≡ closed c.args.rule i (read_trees (built nodes w))) (sym all)
    (close_reads nodes w c.args.rule i i c.self.invariant (omega (arith, long)) done (slice_set w i top) new))
