use Rattle.std.proofs.Common.{ℕ, ◌++◌, ◌∷◌, [], take, List, ap, ◌∙◌}
use Rattle.std.specs.List.{flat_map}
use Rattle.object_state.specs.Looks.{look}
use Rattle.ocl_eval.specs.declared.outcome.Outcome.{Outcome}
use Rattle.undo_log.specs.declared.frame_move.FrameMove.TheVariants.{Left}
use Rattle.contract_texts.specs.ContractLines.{post_line}
use Rattle.use_session.specs.Machine.{turn_of_posts}
use Rattle.use_session.proofs.Entered.{leave_answers}
use Rattle.use_session.proofs.Framed.{top_is_call}
use Rattle.use_session.proofs.Keeping.{present_proper}
use Rattle.use_session.proofs.machine.Machine.close.Goals as goal

pub leave-left-requires-clause-call : goal.leave-left-requires-clause-call
leave-left-requires-clause-call g c =
    let k = c.args.self.now in
    top_is_call k.program k.frames (look k.store.layout k.store.state) (present_proper k c.requires.kept).calls

pub returns-in_ok-append_posts-in-Ok : goal.returns-in_ok-append_posts-in-Ok
returns-in_ok-append_posts-in-Ok g c =
    let k = c.args.self.now in
    leave_answers k c.requires.kept c.state_is_valid.ensures c.args.given.now c.args.out.now.items c.append_posts.new.out.items c.args.steps.now c.leave-left.new.steps
    c.in-Ok.frame c.in-Ok.outcomes c.leave-left.new.frames c.keep.new.history c.in-Ok.ensures.told c.in-Ok.ensures.stay
    (c.keep.ensures ∙ (λ i. record k.history {
      past = take k.history.capacity (record { changes = c.new-changes.ensures i; moved = Left c.in-Ok.frame } ∷ k.history.past);
      future = [];
    }))
    (c.in_ok-append_posts-in-Ok.ensures ∙ ap (λ (os : List (ℕ × Outcome)). c.args.out.now.items ++ flat_map (post_line k.program) os) c.as_slice.ensures)
    c.in-Ok.ensures.units c.turn_of_posts.result (c.turn_of_posts.ensures ∙ ap turn_of_posts c.as_slice-in-Ok.ensures)
