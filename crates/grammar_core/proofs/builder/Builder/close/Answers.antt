use Rattle.std.proofs.Common.{ℕ, ◌≡◌, ◌++◌, ◌-◌, List, length, take, drop, min, sym, ap, ◌∙◌, subst, arith, MatchResult}
use Rattle.grammar_core.specs.declared.fault.ParseFault.TheVariants.{Memory}
use Rattle.grammar_core.specs.declared.node.Node.{Node}
use Rattle.grammar_core.specs.Arena.{IsBuilt, Built, read_trees, closed}
use Rattle.grammar_core.proofs.Nodes.{built}
use Rattle.grammar_core.proofs.Building.{put_as, extended, slice_from, close_built, close_reads}
use Rattle.grammar_core.proofs.builder.Builder.close.Goals as goal

pub invariant_of-self-2 : goal.invariant_of-self-2
invariant_of-self-2 c =
    let w : List Node = c.self.inside.waiting.items in
    let nodes : List Node = c.self.inside.nodes.items in
    let i : ℕ = c.min-start.result in
    let long : c.len.result ≡ length w = omega (arith, c.len.ensures, c.self.inside.waiting.ok.0) in
    let first : c.len-first.result ≡ length nodes = omega (arith, c.len-first.ensures, c.self.inside.nodes.ok.0) in
    let count : c.len-3.result - i ≡ length w - i = omega (arith, c.len-3.ensures, c.self.inside.waiting.ok.0) in
    let least : i ≡ min (length w) c.args.start = c.min-start.ensures ∙ ap (λ (k : ℕ). min k c.args.start) long in
    let all = extended c.extend_from_slice.result c.extend_from_slice.new.self.items (nodes
    ++ take (length c.deref.result.now - i) (drop i c.deref.result.now)) nodes (sym c.is_err.ensures.value
    ∙ c.if-is_err.false) c.extend_from_slice.ensures.items
    ∙ ap (λ (l : List Node). nodes ++ take (length l - i) (drop i l)) c.deref.ensures.value ∙ ap (λ (l : List Node). nodes ++ l) (slice_from i w) in
    subst (λ (l : List Node). IsBuilt (built l c.put.new.nodes.items)) (sym all)
    (close_built nodes w c.args.rule c.args.start i c.self.invariant least c.put.result c.put.new.nodes.items
    (put_as c.put.result c.put.new.nodes.items c.truncate.new.self.items (take i w) c.args.rule c.len-first.result (length nodes) (c.len-3.result - i)
    (length w - i) c.put.ensures c.truncate.ensures.items first count))

pub returns : goal.returns
returns c =
    let w : List Node = c.self.inside.waiting.items in
    let nodes : List Node = c.self.inside.nodes.items in
    let i : ℕ = c.min-start.result in
    let long : c.len.result ≡ length w = omega (arith, c.len.ensures, c.self.inside.waiting.ok.0) in
    let first : c.len-first.result ≡ length nodes = omega (arith, c.len-first.ensures, c.self.inside.nodes.ok.0) in
    let count : c.len-3.result - i ≡ length w - i = omega (arith, c.len-3.ensures, c.self.inside.waiting.ok.0) in
    let least : i ≡ min (length w) c.args.start = c.min-start.ensures ∙ ap (λ (k : ℕ). min k c.args.start) long in
    let all = extended c.extend_from_slice.result c.extend_from_slice.new.self.items (nodes
    ++ take (length c.deref.result.now - i) (drop i c.deref.result.now)) nodes (sym c.is_err.ensures.value
    ∙ c.if-is_err.false) c.extend_from_slice.ensures.items
    ∙ ap (λ (l : List Node). nodes ++ take (length l - i) (drop i l)) c.deref.ensures.value ∙ ap (λ (l : List Node). nodes ++ l) (slice_from i w) in
    subst (λ (b : Built). MatchResult c.put.result (λ u. read_trees (built c.extend_from_slice.new.self.items c.put.new.nodes.items) ≡ closed c.args.rule
    c.args.start (read_trees b)) (λ e. e ≡ Memory)) c.self.view_is
    (subst (λ (l : List Node). MatchResult c.put.result (λ u. read_trees (built l c.put.new.nodes.items) ≡ closed c.args.rule c.args.start (read_trees
    (built nodes w))) (λ e. e ≡ Memory)) (sym all)
    (close_reads nodes w c.args.rule c.args.start i c.self.invariant least c.put.result c.put.new.nodes.items
    (put_as c.put.result c.put.new.nodes.items c.truncate.new.self.items (take i w) c.args.rule c.len-first.result (length nodes) (c.len-3.result - i)
    (length w - i) c.put.ensures c.truncate.ensures.items first count)))
