use Rattle.std.proofs.Common.{◌≡◌, ◌++◌, ◌∷◌, [], List, true, ap, ◌∙◌, subst}
use Rattle.grammar_core.specs.declared.machine.Task.{Task}
use Rattle.grammar_core.specs.declared.machine.Task.TheVariants.{Close, Repeat}
use Rattle.grammar_core.specs.Arena.{read_trees}
use Rattle.grammar_core.specs.Derives.{kinds}
use Rattle.grammar_core.specs.Tasks.{AreTasks, IsTask}
use Rattle.grammar_core.proofs.Stack.{AreTasks-last}
use Rattle.grammar_core.proofs.Ending.{close_counted, one_ended, repeat_counted}
use Rattle.grammar_core.proofs.machine.end_rules.Goals as goal

pub rules-preserved-in-Continue-1 : goal.rules-preserved-in-Continue-1
rules-preserved-in-Continue-1 c =
    let s = c.in-Some.ensures.items in
    let all = AreTasks-last c.args.g.now (kinds c.args.tokens.now) c.pop.new.self.items c.in-Some.task (subst (λ (l : List Task). AreTasks c.args.g.now l) s
    c.rules.invariant.all) in
    one_ended c.args.g.now (kinds c.args.tokens.now) c.args.work.now.stack.items c.rules.work.stack.items c.pop.new.self.items (Close c.in-Close.rule
    c.in-Close.start) c.args.at (read_trees c.args.work.now.built) (read_trees c.rules.work.built) (read_trees c.close.new.self) c.rules.invariant
    (s ∙ ap (λ (t : Task). c.pop.new.self.items ++ (t ∷ [])) c.in-Close.is) all.0 (close_counted c.args.g.now (kinds c.args.tokens.now) c.pop.new.self.items
    c.in-Close.rule c.in-Close.start c.args.at (read_trees c.rules.work.built) (read_trees c.close.new.self) c.in_ok-close-in-Close.ensures)

pub ends-requires : goal.ends-requires
ends-requires c =
    let all = AreTasks-last c.args.g.now (kinds c.args.tokens.now) c.pop.new.self.items c.in-Some.task (subst (λ (l : List Task). AreTasks c.args.g.now l)
    c.in-Some.ensures.items c.rules.invariant.all) in
    record { star = subst (λ (t : Task). IsTask c.args.g.now t) c.in-Repeat.is all.1 }

pub rules-preserved : goal.rules-preserved
rules-preserved c =
    let s = c.in-Some.ensures.items in
    let all = AreTasks-last c.args.g.now (kinds c.args.tokens.now) c.pop.new.self.items c.in-Some.task (subst (λ (l : List Task). AreTasks c.args.g.now l) s
    c.rules.invariant.all) in
    let ended : c.ends.result ≡ true = cc in
    one_ended c.args.g.now (kinds c.args.tokens.now) c.args.work.now.stack.items c.rules.work.stack.items c.pop.new.self.items (Repeat c.in-Repeat.prod
    c.in-Repeat.field-1 c.in-Repeat.rule c.in-Repeat.start) c.args.at (read_trees c.args.work.now.built) (read_trees c.rules.work.built)
    (read_trees c.close-in-Repeat.new.self) c.rules.invariant (s ∙ ap (λ (t : Task). c.pop.new.self.items ++ (t ∷ [])) c.in-Repeat.is) all.0
    (repeat_counted c.args.g.now c.requires.fit (kinds c.args.tokens.now) c.pop.new.self.items c.in-Repeat.prod c.in-Repeat.field-1 c.in-Repeat.rule
    c.in-Repeat.start c.args.at (read_trees c.rules.work.built) (read_trees c.close-in-Repeat.new.self) all.0 c.in_ok-close-in-Repeat.ensures
    (subst (λ (t : Task). IsTask c.args.g.now t) c.in-Repeat.is all.1) (c.ends.ensures ended))
