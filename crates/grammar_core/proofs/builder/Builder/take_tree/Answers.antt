use Rattle.std.proofs.Common.{◌≡◌, ◌++◌, [], ◌∷◌, ◌-◌, List, length, Some, slice_get, subst, sym, ap, ◌∙◌, Vec, Global}
use Rattle.grammar_core.specs.declared.node.Node.{Node}
use Rattle.grammar_core.specs.Arena.{IsBuilt, IsTree, Built, read_trees, root_tree}
use Rattle.grammar_core.proofs.Nodes.{built}
use Rattle.grammar_core.proofs.Building.{root_built, root_read}
use Rattle.grammar_core.proofs.builder.Builder.take_tree.Goals as goal

pub from_nodes-requires : goal.from_nodes-requires
from_nodes-requires c =
    let b = subst (λ (l : List Node). IsBuilt (built c.self.inside.nodes.items l)) c.in-Some.ensures.items c.self.invariant in
    let t = c.in_ok-put-in-Some.ensures ∙ ap (λ (v : Vec Node Global). v.items ++ (c.in-Some.root ∷ [])) c.replace-nodes.ensures.value in
    subst (λ (l : List Node). IsTree l) (sym t) (root_built c.self.inside.nodes.items c.pop.new.self.items c.in-Some.root b)

pub returns : goal.returns
returns c =
    let b = subst (λ (l : List Node). IsBuilt (built c.self.inside.nodes.items l)) c.in-Some.ensures.items c.self.invariant in
    let r = root_read c.self.inside.nodes.items c.pop.new.self.items c.in-Some.root b in
    let v : built c.self.inside.nodes.items (c.pop.new.self.items ++ (c.in-Some.root ∷ [])) ≡ c.args.self.now = ap (λ
    (l : List Node). built c.self.inside.nodes.items l) (sym c.in-Some.ensures.items) ∙ c.self.view_is in
    let t : c.from_nodes.result ≡ c.self.inside.nodes.items ++ (c.in-Some.root ∷ []) = c.from_nodes.ensures ∙ c.in_ok-put-in-Some.ensures
    ∙ ap (λ (v : Vec Node Global). v.items ++ (c.in-Some.root ∷ [])) c.replace-nodes.ensures.value in
    subst (λ (x : Built). slice_get (read_trees x) (length (read_trees x) - 1) ≡ Some (root_tree c.from_nodes.result)) v
    (subst (λ (l : List Node). slice_get (read_trees (built c.self.inside.nodes.items (c.pop.new.self.items ++ (c.in-Some.root
    ∷ [])))) (length (read_trees (built c.self.inside.nodes.items (c.pop.new.self.items ++ (c.in-Some.root ∷ [])))) - 1) ≡ Some (root_tree l)) (sym t) r)
