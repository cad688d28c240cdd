use Rattle.std.proofs.Common.{rules, ◌≡◌, ◌-◌, Err, sym, subst, ◌∙◌}
use Rattle.soil_exec.specs.declared.fault.ExecFault.{ExecFault}
use Rattle.soil_changes.specs.Acts.{Outcome}
use Rattle.soil_exec.specs.Kept.{Gives, stand}
use Rattle.soil_exec.specs.Machine.{Machine}
use Rattle.soil_exec.specs.Parts.{inside_in}
use Rattle.soil_exec.proofs.Rounds.{ends_rounds, goes_round, onward, rounds_step}
use Rattle.soil_exec.proofs.Then.{fails_as}
use Rattle.soil_exec.proofs.walk.Walk.while_true.Goals as goal

pub returns-in_err-more-clause-gives : goal.returns-in_err-more-clause-gives
returns-in_err-more-clause-gives g c =
    let p = c.args.self.now.setting.program.now in
    let within = inside_in c.args.self.now.setting in
    let m = stand c.rounds.machine (g.V.Evaluator.count c.rounds.steps) in
    let after = stand c.round.new.machine (g.V.Evaluator.count c.round.new.steps) in
    let e = c.in_err-more.field-0.0 in
    let r = c.from_residual.result in
    let is : r ≡ Err e = search rules in
    subst (λ (o : Outcome Machine ExecFault (Unit {0})). Gives o r after) c.rounds.invariant.same
    (subst (λ (o : Outcome Machine ExecFault (Unit {0})). Gives o r after)
    (sym (rounds_step p within c.args.place c.args.test.now c.args.body.now c.rounds.most m c.rounds-test.true))
    (fails_as _ (onward p within c.args.place c.args.test.now c.args.body.now (c.rounds.most - 1)) e after r is c.in_err-more.ensures.gives))

pub returns-then-not-more-clause-gives : goal.returns-then-not-more-clause-gives
returns-then-not-more-clause-gives g c =
    sym c.rounds.invariant.same
    ∙ ends_rounds c.args.self.now.setting.program.now (inside_in c.args.self.now.setting) c.args.place c.args.test.now c.args.body.now c.rounds.most
    (stand c.rounds.machine (g.V.Evaluator.count c.rounds.steps)) (stand c.round.new.machine (g.V.Evaluator.count c.round.new.steps)) c.in_ok-more.more
    c.rounds-test.true c.in_ok-more.ensures.gives c.if-not-more.true

pub rounds-preserved : goal.rounds-preserved
rounds-preserved g c = record {
  same =
      sym (goes_round c.args.self.now.setting.program.now (inside_in c.args.self.now.setting) c.args.place c.args.test.now c.args.body.now c.rounds.most
      (stand c.rounds.machine (g.V.Evaluator.count c.rounds.steps)) (stand c.round.new.machine (g.V.Evaluator.count c.round.new.steps)) c.in_ok-more.more
      c.rounds-test.true c.in_ok-more.ensures.gives c.if-not-more.false)
      ∙ c.rounds.invariant.same;
  follows = record {
    current = c.in_ok-more.ensures.follows.current;
    layout = c.in_ok-more.ensures.follows.layout ∙ c.rounds.invariant.follows.layout;
    shell = c.in_ok-more.ensures.follows.shell ∙ c.rounds.invariant.follows.shell;
    depth = c.in_ok-more.ensures.follows.depth ∙ c.rounds.invariant.follows.depth;
  };
}
