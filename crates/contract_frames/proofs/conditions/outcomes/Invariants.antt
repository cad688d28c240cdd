use Rattle.std.proofs.Common.{◌≡◌, ◌+◌, ◌++◌, drop}
use Rattle.ocl_eval.specs.Scenes.{scene_of}
use Rattle.contract_frames.specs.Judging.{all_units, outcomes, picture}
use Rattle.contract_frames.proofs.conditions.outcomes.Given as goal

abbrev pub invariant-contracts : goal.invariant-contracts
invariant-contracts g l =
    let s = scene_of l.case.program.now (picture l.case.store.now) (g.P.World.picture l.case.entry.now) in
    record {
      value : l.outcomes ++ outcomes s l.asked l.env (drop l.number-index l.numbers) ≡ outcomes s l.asked l.fn.env l.numbers;
      units : l.steps + all_units s l.asked l.env (drop l.number-index l.numbers) ≡ l.fn.steps + all_units s l.asked l.fn.env l.numbers;
      env : l.env ≡ l.fn.env;
    }
