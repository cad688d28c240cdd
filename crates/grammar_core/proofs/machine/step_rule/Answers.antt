use Rattle.std.proofs.Common.{◌≡◌, ◌++◌, [], ◌∷◌, ◌<◌, List, length, Some, subst, sym, refl, ap, ◌∙◌}
use Rattle.grammar_core.specs.declared.table.Rule.{Rule}
use Rattle.grammar_core.specs.declared.table.Prod.TheVariants.{Call}
use Rattle.grammar_core.specs.Arena.{read_trees}
use Rattle.grammar_core.specs.declared.machine.Task.{Task}
use Rattle.grammar_core.specs.declared.machine.Task.TheVariants.{Read}
use Rattle.grammar_core.specs.Answers.{of_production, then_at, whole}
use Rattle.grammar_core.specs.Derives.{kinds}
use Rattle.grammar_core.specs.Tasks.{Reached, tasks}
use Rattle.grammar_core.specs.Trees.{ParseTree}
use Rattle.grammar_core.proofs.Reaching.{counted_on}
use Rattle.grammar_core.proofs.Fits.{rule_inside, rule_there}
use Rattle.grammar_core.proofs.Stack.{did_rule}
use Rattle.grammar_core.proofs.machine.step_rule.Goals as goal

pub rule_in-rule-requires-clause-rules : goal.rule_in-rule-requires-clause-rules
rule_in-rule-requires-clause-rules c = (rule_inside c.args.g.now c.requires.fit c.args.here.prod c.args.r c.requires.is).0

pub rule_in-rule-requires-clause-nests : goal.rule_in-rule-requires-clause-nests
rule_in-rule-requires-clause-nests c = (rule_inside c.args.g.now c.requires.fit c.args.here.prod c.args.r c.requires.is).1

pub put_rule-requires-clause-inside : goal.put_rule-requires-clause-inside
put_rule-requires-clause-inside c =
    let i = rule_inside c.args.g.now c.requires.fit c.args.here.prod c.args.r c.requires.is in
    let there = rule_there c.args.g.now c.requires.fit c.args.r i.0 in
    let same : there.0 ≡ c.rule_in-rule.result = let s : Some there.0 ≡ Some c.rule_in-rule.result = sym there.1 ∙ c.rule_in-rule.ensures in cc in
    subst (λ (z : Rule). z.to < length c.args.g.now.prods) same there.2

pub begin_chain-requires-clause-all : goal.begin_chain-requires-clause-all
begin_chain-requires-clause-all c =
    let i = rule_inside c.args.g.now c.requires.fit c.args.here.prod c.args.r c.requires.is in
    (did_rule c.args.g.now c.requires.fit (kinds c.args.tokens.now) (Call c.args.r) c.args.here.prod c.args.here.level c.args.here.at (read_trees
    c.args.work.now.built) c.args.work.now.stack.items (c.put_rule.new.work.stack.items ++ (Read c.in_ok-prod-in-Some.prod c.in-Some.level ∷ []))
    c.requires.is c.requires.all c.args.r c.rule_in-rule.result c.in-Some.level refl i.0 c.rule_in-rule.ensures (sym c.in-Some.ensures)
    c.in_ok-prod-in-Some.ensures.0).1

pub returns-in_ok-next-in-Some : goal.returns-in_ok-next-in-Some
returns-in_ok-next-in-Some c =
    let ks = kinds c.args.tokens.now in
    let i = rule_inside c.args.g.now c.requires.fit c.args.here.prod c.args.r c.requires.is in
    let begun = c.in_ok-next-in-Some.ensures.0 ks in
    let first : List Task = c.put_rule.new.work.stack.items ++ (Read c.in_ok-prod-in-Some.prod c.in-Some.level ∷ []) in
    let last : List Task = c.begin_chain.new.work.stack.items ++ (Read c.in_ok-next-in-Some.next.prod c.in_ok-next-in-Some.next.level ∷ []) in
    let did = did_rule c.args.g.now c.requires.fit ks (Call c.args.r) c.args.here.prod c.args.here.level c.args.here.at (read_trees c.args.work.now.built)
    c.args.work.now.stack.items first c.requires.is c.requires.all c.args.r c.rule_in-rule.result c.in-Some.level refl i.0 c.rule_in-rule.ensures (sym
    c.in-Some.ensures) c.in_ok-prod-in-Some.ensures.0 in
    let reached = subst (λ (t : List ParseTree). Reached c.args.g.now ks first last c.args.here.at t) (ap read_trees c.in_ok-prod-in-Some.ensures.1)
    begun.reached in
    rw (c.in_ok-next-in-Some.ensures.1, c.in_ok-prod-in-Some.ensures.1) (
      counted_on c.args.g.now ks first last c.args.here.at (read_trees c.args.work.now.built) (then_at (of_production c.args.g.now ks (whole c.args.g.now ks)
          c.args.here.level (Some (Call c.args.r)) c.args.here.at (read_trees c.args.work.now.built) 1) (λ to more m. tasks c.args.g.now ks
          c.args.work.now.stack.items to more m)) did.0 reached,
      begun.all,
    )
