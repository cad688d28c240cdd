use Rattle.std.proofs.Common.{◌++◌, ◌∷◌, [], take, List, ℕ, ap, ◌∙◌}
use Rattle.std.specs.List.{flat_map}
use Rattle.undo_log.specs.declared.frame_move.FrameMove.TheVariants.{Entered}
use Rattle.contract_texts.specs.ContractLines.{pre_line}
use Rattle.use_session.proofs.Entered.{enter_answers, fault_answers}
use Rattle.use_session.proofs.machine.Machine.open.Goals as goal

pub returns-in-Err : goal.returns-in-Err
returns-in-Err g c =
    let k = c.args.self.now in
    fault_answers k c.requires.kept c.state_is_valid.ensures c.args.call c.requires.call c.requires.few c.args.word c.args.out.now.items c.tell_frame.new.out.items
    c.args.steps.now c.enter-entering.new.steps c.in-Err.fault c.in-Err.ensures.told c.in-Err.ensures.units c.tell_frame.result c.enter-entering.new.frames
    c.in-Err.ensures.stay c.tell_frame.ensures

pub returns-in_ok-append_pres-in-Ok : goal.returns-in_ok-append_pres-in-Ok
returns-in_ok-append_pres-in-Ok g c =
    let k = c.args.self.now in
    enter_answers k c.requires.kept c.state_is_valid.ensures c.args.call c.requires.call c.requires.few c.args.word c.args.out.now.items c.append_pres.new.out.items
    c.args.steps.now c.enter-entering.new.steps c.in-Ok.numbers c.enter-entering.new.frames c.keep.new.history c.in-Ok.ensures.told c.in-Ok.ensures.pushed
    (c.keep.ensures ∙ (λ i. record k.history {
      past = take k.history.capacity (record { changes = c.new-changes.ensures i; moved = Entered (c.in_ok-frame.ensures i) } ∷ k.history.past);
      future = [];
    }))
    (c.in_ok-append_pres-in-Ok.ensures ∙ ap (λ (ns : List ℕ). c.args.out.now.items ++ flat_map (pre_line k.program) ns) c.as_slice.ensures) c.in-Ok.ensures.units
