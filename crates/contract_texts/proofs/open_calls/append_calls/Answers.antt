use Rattle.std.proofs.Common.{◌-◌, arith}
use Rattle.contract_texts.specs.Calls.{call_line}
use Rattle.contract_texts.proofs.Levels.{lower, told}
use Rattle.contract_texts.proofs.open_calls.append_calls.Goals as goal

pub frames-preserved : goal.frames-preserved
frames-preserved g c =
    let m = c.args.model.now in
    let s = (g.S.StateReader.held c.args.state.now).state in
    record {
      within = omega arith;
      told =
          lower (λ f. call_line m s f.call) c.args.frames.now c.frames.level (c.frames.level - 1) c.frame_at.result _ _ _ c.frames.invariant.within (omega arith)
          c.frame_at.ensures c.frames.invariant.told c.in_ok-append_frame.ensures;
    }

pub returns : goal.returns
returns g c =
    told c.args.model.now (g.S.StateReader.held c.args.state.now).state c.args.frames.now c.frames.level _ _ (omega arith) (omega arith) c.frames.invariant.told
