use Rattle.std.proofs.Common.{◌≡◌, [], ◌∷◌, ◌++◌, List, Option, Some, ℕ, ◌<◌, ◌≤◌, arith, sym, subst, ap, ◌∙◌}
use Rattle.grammar_core.specs.declared.table.Prod.TheVariants.{Call}
use Rattle.grammar_core.specs.declared.machine.Task.{Task}
use Rattle.grammar_core.specs.declared.machine.Task.TheVariants.{Read}
use Rattle.grammar_core.specs.Arena.{read_trees}
use Rattle.grammar_core.specs.Derives.{kinds}
use Rattle.grammar_core.specs.Answers.{Answer, of_production, whole, outcome_of}
use Rattle.grammar_core.specs.Tasks.{tasks, left, AreTasks}
use Rattle.grammar_core.proofs.Stack.{tasks-none, AreTasks-last, fails_all, one_step, started}
use Rattle.grammar_core.proofs.machine.run.Goals as goal

pub steps-init : goal.steps-init
steps-init c =
    let begun = ap (λ (l : List Task). l ++ (Read c.rule_in-rule.result.to c.in-Some.level ∷ [])) c.in_ok-put.ensures in
    let s = started c.args.g.now c.requires.fit (kinds c.args.tokens.now) (read_trees c.args.work.now.built) c.args.work.now.stack.items (c.put.new.stack.items
    ++ (Read c.rule_in-rule.result.to c.in-Some.level ∷ [])) c.args.start c.in-Some.level c.rule_in-rule.result c.requires.empty c.requires.none
    c.requires.rule c.rule_in-rule.ensures (sym c.in-Some.ensures) begun in
    record { same = s.0; all = s.1; last = λ e. absurd (cc) }

pub step-requires-clause-inside : goal.step-requires-clause-inside
step-requires-clause-inside c =
    let e = ap (λ (n : Option Task). left c.steps.work.stack.items n) c.in-Some-next.is in
    let r = AreTasks-last c.args.g.now (kinds c.args.tokens.now) c.steps.work.stack.items c.in-Some-next.task (subst (λ
    (l : List Task). AreTasks c.args.g.now l) e c.steps.invariant.all) in
    r.1

pub step-requires-clause-all : goal.step-requires-clause-all
step-requires-clause-all c =
    let e = ap (λ (n : Option Task). left c.steps.work.stack.items n) c.in-Some-next.is in
    let r = AreTasks-last c.args.g.now (kinds c.args.tokens.now) c.steps.work.stack.items c.in-Some-next.task (subst (λ
    (l : List Task). AreTasks c.args.g.now l) e c.steps.invariant.all) in
    r.0

pub steps-smaller : goal.steps-smaller
steps-smaller c =
    let e = ap (λ (n : Option Task). left c.steps.work.stack.items n) c.in-Some-next.is in
    let s = one_step c.args.g.now (kinds c.args.tokens.now) (left c.steps.work.stack.items c.steps.next) c.steps.work.stack.items
    (left c.step.new.work.stack.items c.in-Ok.done.next) c.in-Some-next.task c.steps.at c.in-Ok.done.at (read_trees c.steps.work.built)
    (read_trees c.step.new.work.built) e c.in-Ok.ensures.0 in
    below s.1 c.in_ok-next.ensures.ended.steps
  where
    below : {a b d : ℕ} → b < d → a ≤ b → a < d
    below l k = omega (arith, l, k)

pub steps-preserved : goal.steps-preserved
steps-preserved c =
    let e = ap (λ (n : Option Task). left c.steps.work.stack.items n) c.in-Some-next.is in
    let s = one_step c.args.g.now (kinds c.args.tokens.now) (left c.steps.work.stack.items c.steps.next) c.steps.work.stack.items
    (left c.step.new.work.stack.items c.in-Ok.done.next) c.in-Some-next.task c.steps.at c.in-Ok.done.at (read_trees c.steps.work.built)
    (read_trees c.step.new.work.built) e c.in-Ok.ensures.0 in
    record {
      same = c.in_ok-next.ensures.ended.same ∙ s.0 ∙ c.steps.invariant.same;
      all = c.in_ok-next.ensures.ended.all;
      last = c.in_ok-next.ensures.none;
    }

pub returns-in-Err : goal.returns-in-Err
returns-in-Err c =
    let e = ap (λ (n : Option Task). left c.steps.work.stack.items n) c.in-Some-next.is in
    fails_all c.args.g.now (kinds c.args.tokens.now) c.in-Err.e (read_trees c.step.new.work.built) (left c.steps.work.stack.items c.steps.next)
    c.steps.work.stack.items c.in-Some-next.task c.steps.at (read_trees c.steps.work.built) (of_production c.args.g.now (kinds c.args.tokens.now)
    (whole c.args.g.now (kinds c.args.tokens.now)) 0 (Some (Call c.args.start)) 0 [] 0) e c.steps.invariant.same c.in-Err.ensures

pub returns : goal.returns
returns c =
    let e : left c.steps.work.stack.items c.steps.next ≡ [] = ap (λ (l : List Task). left l c.steps.next) (c.steps.invariant.last c.in_default-next.is)
    ∙ ap (λ (n : Option Task). left [] n) c.in_default-next.is in
    sym c.steps.invariant.same
    ∙ ap (λ (l : List Task). outcome_of (tasks c.args.g.now (kinds c.args.tokens.now) l c.steps.at (read_trees c.steps.work.built) 0)) e
    ∙ ap (λ (a : Answer). outcome_of a) (tasks-none c.args.g.now (kinds c.args.tokens.now) c.steps.at (read_trees c.steps.work.built) 0)
