use Rattle.std.proofs.Common.{sym, subst}
use Rattle.std.specs.Option.{option_copied}
use Rattle.object_state.specs.Looks.{look}
use Rattle.object_state.specs.State.{Diagram}
use Rattle.use_session.specs.Kept.{IsKept, machine_of}
use Rattle.use_session.specs.Machine.{exit}
use Rattle.use_session.proofs.Framed.{top_is_call}
use Rattle.use_session.proofs.Keeping.{present_proper}
use Rattle.use_session.proofs.Opening.{exit_fault, exit_given, result, told_fault}
use Rattle.use_session.proofs.machine.Machine.exit.Goals as goal

pub value_to_give-given-requires-clause-bound : goal.value_to_give-given-requires-clause-bound
value_to_give-given-requires-clause-bound g c =
    let k = c.args.self.now in
    c.in_ok-bound.ensures.well_made k.program (top_is_call k.program k.frames (look k.store.layout k.store.state) (present_proper k c.requires.kept).calls)

pub close-requires-clause-kept : goal.close-requires-clause-kept
close-requires-clause-kept g c =
    let k = c.args.self.now in
    subst (λ (d : Diagram). IsKept (record k { store = d })) (sym c.in-Ok.ensures.finds.1) c.requires.kept

pub returns-in-Ok : goal.returns-in-Ok
returns-in-Ok g c =
    let k = c.args.self.now in
    exit_given k c.requires.kept c.args.word (option_copied c.args.e) c.args.shell c.in_ok-bound.bound.items
    (c.in_ok-bound.ensures.values (look k.store.layout k.store.state)) c.in-Ok.given c.value_to_give-given.new.store c.args.out.now.items c.close.new.out.items
    c.args.steps.now c.value_to_give-given.new.steps c.close.new.steps c.in-Ok.ensures.finds c.close.result c.close.new.self c.close.ensures

pub returns-in-Err : goal.returns-in-Err
returns-in-Err g c =
    let k = c.args.self.now in
    let values = c.in_ok-bound.bound.items in
    let is = c.in_ok-bound.ensures.values (look k.store.layout k.store.state) in
    let e = option_copied c.args.e in
    told_fault k c.requires.kept (result k c.requires.kept c.args.word e c.args.shell values is) (exit (machine_of k) c.args.word e c.args.shell) c.args.out.now.items
    c.tell.new.out.items c.args.steps.now c.value_to_give-given.new.steps c.value_to_give-given.new.store c.tell.result c.in-Err.fault
    (exit_fault k c.requires.kept c.args.word e c.args.shell values is c.in-Err.fault) c.in-Err.ensures.finds c.tell.ensures
