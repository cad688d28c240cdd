use Rattle.std.proofs.Common.{List, sym, subst, ◌∙◌}
use Rattle.entry_states.specs.declared.frame.Frame.{Frame}
use Rattle.entry_states.specs.Noting.{AreNoted}
use Rattle.soil_exec.proofs.Ended.{goes_back}
use Rattle.soil_exec.proofs.execution.go_back.Goals as goal

pub returns-in-Ok : goal.returns-in-Ok
returns-in-Ok c =
    let p = c.args.transaction in
    goes_back p c.args.fault c.end.new.store c.end.new.frames (c.end.ensures.store ∙ c.in-Ok.ensures.start) c.changes_lead.ensures
    (subst (λ (fs : List Frame). AreNoted p.layout p.state p.start p.frames fs) (sym c.end.ensures.frames) c.in-Ok.ensures.noted)
