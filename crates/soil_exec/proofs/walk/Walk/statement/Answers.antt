use Rattle.std.proofs.Common.{rules, ◌≡◌, suc, unwrap_or, Ok, Err, ap, subst, ◌∙◌}
use Rattle.use_text.specs.declared.place.Place.{Place}
use Rattle.ocl_core.specs.declared.statement.Act.{out-Act}
use Rattle.soil_exec.specs.Kept.{Gives, stand}
use Rattle.soil_exec.specs.Machine.{count}
use Rattle.soil_exec.specs.Parts.{called_in, inside_in}
use Rattle.soil_exec.specs.Statements.{act}
use Rattle.soil_exec.proofs.Then.{fails_as, goes_on}
use Rattle.soil_exec.proofs.walk.Walk.statement.Goals as goal

pub returns-in_err-count-clause-gives : goal.returns-in_err-count-clause-gives
returns-in_err-count-clause-gives g c =
    let s = c.args.self.now.setting in
    let n = g.V.Evaluator.count c.args.steps.now in
    let e = c.in_err-count.field-0.0 in
    let r = c.from_residual.result in
    let is : r ≡ Err e = search rules in
    let there = c.unwrap_or.ensures ∙ ap (unwrap_or c.args.outer) c.unwrap_or-place.ensures in
    fails_as _ (λ u. act s.program.now (inside_in s) (called_in s) (unwrap_or s.told c.args.statement.now.place) (out-Act c.args.statement.now.act)) e
    (stand c.count.new.self n) r is
    (subst (λ (at : Place). Gives (count at (stand c.args.machine.now n)) (Err e) (stand c.count.new.self n)) there (c.in_err-count.ensures.gives n))

pub act-requires-clause-sound : goal.act-requires-clause-sound
act-requires-clause-sound g c = λ n. c.requires.sound.holds (suc n)

pub returns-clause-gives : goal.returns-clause-gives
returns-clause-gives g c =
    let s = c.args.self.now.setting in
    let n = g.V.Evaluator.count c.args.steps.now in
    let n' = g.V.Evaluator.count c.act.new.steps in
    let a = out-Act c.args.statement.now.act in
    let there = c.unwrap_or.ensures ∙ ap (unwrap_or c.args.outer) c.unwrap_or-place.ensures in
    goes_on _ (λ u. act s.program.now (inside_in s) (called_in s) (unwrap_or s.told c.args.statement.now.place) a) _ _ c.act.result (stand c.act.new.machine n')
    (subst (λ (at : Place). count at (stand c.args.machine.now n) ≡ (Ok tt, stand c.count.new.self n)) there (c.in_ok-count.ensures.gives n))
    (subst (λ (at : Place). Gives (act s.program.now (inside_in s) (called_in s) at a (stand c.count.new.self n)) c.act.result (stand c.act.new.machine n'))
    c.unwrap_or-place.ensures c.act.ensures.gives)
