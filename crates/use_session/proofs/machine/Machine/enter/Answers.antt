use Rattle.std.proofs.Common.{◌≡◌, ℕ, ◌+◌, ◌<◌, ◌≤◌, nat_eq, true, false, length, refl, sym, ◌∙◌, subst, arith}
use Rattle.std.proofs.lemmas.Bool.{eq-eqb, ne_eqb}
use Rattle.use_text.specs.declared.code.Family.TheVariants.{C}
use Rattle.use_text.specs.Codes.{code_of}
use Rattle.use_text.specs.Refusals.{refusal_at}
use Rattle.object_state.specs.Looks.{look}
use Rattle.object_state.specs.State.{Diagram}
use Rattle.entry_states.specs.Frames.{entered}
use Rattle.use_session.specs.Answering.{Answers}
use Rattle.use_session.specs.Kept.{IsKept, machine_of}
use Rattle.use_session.specs.Machine.{Step, enter}
use Rattle.use_session.proofs.Framed.{as_many, top_is_call}
use Rattle.use_session.proofs.Keeping.{present_proper}
use Rattle.use_session.proofs.Opening.{called, enter_fault, enter_found, full_step, told_fault}
use Rattle.use_session.proofs.Told.{refused_answers}
use Rattle.use_session.proofs.machine.Machine.enter.Goals as goal

pub call_to_enter-found-requires-clause-bound : goal.call_to_enter-found-requires-clause-bound
call_to_enter-found-requires-clause-bound g c =
    let k = c.args.self.now in
    c.in_ok-bound.ensures.well_made k.program (top_is_call k.program k.frames (look k.store.layout k.store.state) (present_proper k c.requires.kept).calls)

pub open-requires-clause-few : goal.open-requires-clause-few
open-requires-clause-few g c =
    let k = c.args.self.now in
    let q = look k.store.layout k.store.state in
    let few : length (entered k.frames q) ≤ 64 = (present_proper k c.requires.kept).few in
    let long = as_many k.frames q in
    let depth = c.depth.ensures in
    let room : length k.frames ≡ 64 → ⊥ = λ e. c.if-depth-eq-MAX_OPEN.false (c.depth.ensures ∙ e) in
    below (length k.frames) (subst (λ (n : ℕ). n ≤ 64) long few) room
  where
    below : (n : ℕ) → n ≤ 64 → (n ≡ 64 → ⊥) → n < 64
    below n h r = omega (arith, h, r)

pub open-requires-clause-kept : goal.open-requires-clause-kept
open-requires-clause-kept g c =
    let k = c.args.self.now in
    subst (λ (d : Diagram). IsKept (record k { store = d })) (sym c.in-Ok.ensures.finds.1) c.requires.kept

pub returns-then-depth-eq-MAX_OPEN : goal.returns-then-depth-eq-MAX_OPEN
returns-then-depth-eq-MAX_OPEN g c =
    let k = c.args.self.now in
    let m = machine_of k in
    let q = look k.store.layout k.store.state in
    let full : nat_eq (length (entered k.frames q)) 64 ≡ true = eq-eqb _ _ (as_many k.frames q ∙ sym c.depth.ensures ∙ c.if-depth-eq-MAX_OPEN.true) in
    let at = c.args.word in
    subst (λ (s : Step). Answers s c.args.out.now.items c.args.steps.now c.refuse_at.result k c.refuse_at.new.out.items c.args.steps.now)
    (sym (full_step k c.requires.kept at c.args.receiver.now c.args.op c.args.args.now c.args.shell _ refl full))
    (refused_answers m (refusal_at (code_of C 4) at) 0 c.args.out.now.items c.args.steps.now c.refuse_at.result k c.refuse_at.new.out.items c.args.steps.now
    c.refuse_at.ensures.bytes c.refuse_at.ensures.turn c.requires.kept refl (no_more c.args.steps.now))
  where
    no_more : (n : ℕ) → n ≡ n + 0
    no_more n = omega arith

pub returns-in-Ok : goal.returns-in-Ok
returns-in-Ok g c =
    let k = c.args.self.now in
    let q = look k.store.layout k.store.state in
    let room : nat_eq (length (entered k.frames q)) 64 ≡ false =
    ne_eqb _ _ (λ e. c.if-depth-eq-MAX_OPEN.false (c.depth.ensures ∙ sym (as_many k.frames q) ∙ e)) in
    enter_found k c.requires.kept c.args.word c.args.receiver.now c.args.op c.args.args.now c.args.shell c.in_ok-bound.bound.items (c.in_ok-bound.ensures.values q) room
    c.in-Ok.call c.call_to_enter-found.new.store c.args.out.now.items c.open.new.out.items c.args.steps.now c.call_to_enter-found.new.steps c.open.new.steps
    c.in-Ok.ensures.finds c.open.result c.open.new.self c.open.ensures

pub returns-in-Err : goal.returns-in-Err
returns-in-Err g c =
    let k = c.args.self.now in
    let q = look k.store.layout k.store.state in
    let values = c.in_ok-bound.bound.items in
    let is = c.in_ok-bound.ensures.values q in
    let room : nat_eq (length (entered k.frames q)) 64 ≡ false =
    ne_eqb _ _ (λ e. c.if-depth-eq-MAX_OPEN.false (c.depth.ensures ∙ sym (as_many k.frames q) ∙ e)) in
    told_fault k c.requires.kept (called k c.requires.kept c.args.word c.args.receiver.now c.args.op c.args.args.now c.args.shell values is)
    (enter (machine_of k) c.args.word c.args.receiver.now c.args.op c.args.args.now c.args.shell) c.args.out.now.items
    c.tell.new.out.items c.args.steps.now c.call_to_enter-found.new.steps c.call_to_enter-found.new.store c.tell.result c.in-Err.fault
    (enter_fault k c.requires.kept c.args.word c.args.receiver.now c.args.op c.args.args.now c.args.shell values is room c.in-Err.fault)
    c.in-Err.ensures.finds c.tell.ensures
