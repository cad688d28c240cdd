use Rattle.std.proofs.Common.{◌≡◌, ◌-◌, suc, Some, length, ap, sym, ◌∙◌, arith}
use Rattle.object_state.specs.Looks.{look}
use Rattle.entry_states.specs.Frames.{shown}
use Rattle.entry_states.proofs.Keeps.{picture_shown}
use Rattle.entry_states.proofs.old_world.OldWorld.new.Goals as goal

pub returns-clause-picture : goal.returns-clause-picture
returns-clause-picture g c =
    let fs = c.args.frames.now in
    let d = g.S.StateReader.held c.args.now.now in
    let q = look d.layout d.state in
    let n = length fs - 1 - c.args.level in
    let more : length fs - c.args.level ≡ suc n = omega arith in
    picture_shown fs n q (omega arith) ∙ ap (λ n. Some (shown fs n q)) (sym more)
