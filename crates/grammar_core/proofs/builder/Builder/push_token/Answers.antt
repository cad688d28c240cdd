use Rattle.std.proofs.Common.{◌≡◌, ◌++◌, [], ◌∷◌, subst, MatchResult}
use Rattle.grammar_core.specs.declared.fault.ParseFault.TheVariants.{Memory}
use Rattle.grammar_core.specs.Trees.{leaf}
use Rattle.grammar_core.specs.Arena.{Built, read_trees}
use Rattle.grammar_core.proofs.Nodes.{built}
use Rattle.grammar_core.proofs.Building.{push_built, push_reads}
use Rattle.grammar_core.proofs.builder.Builder.push_token.Goals as goal

pub invariant_of-self : goal.invariant_of-self
invariant_of-self c = push_built c.put.result c.self.inside.nodes.items c.self.inside.waiting.items c.put.new.nodes.items c.args.kind c.args.token c.put.ensures
    c.self.invariant

pub returns : goal.returns
returns c =
    subst (λ (b : Built). MatchResult c.put.result (λ u. read_trees (built c.self.inside.nodes.items c.put.new.nodes.items) ≡ read_trees b
    ++ (leaf c.args.kind c.args.token ∷ [])) (λ e. e ≡ Memory)) c.self.view_is
    (push_reads c.put.result c.self.inside.nodes.items c.self.inside.waiting.items c.put.new.nodes.items c.args.kind c.args.token c.put.ensures)
