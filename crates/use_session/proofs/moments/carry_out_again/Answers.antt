use Rattle.std.proofs.Common.{◌≡◌, ◌<◌, ◌^◌, ◌++◌, length, refl, sym, ap, subst, ◌∙◌}
use Rattle.std.specs.Vec.Iter.{into_iter_items}
use Rattle.object_state.specs.declared.layout.Layout.{Layout}
use Rattle.object_state.specs.Changes.{apply}
use Rattle.object_state.specs.State.{Diagram}
use Rattle.entry_states.specs.Leading.{CanBeCarriedOut, led_on}
use Rattle.entry_states.specs.Noting.{AreNoted}
use Rattle.entry_states.proofs.Noted.{both_noted, none_noted}
use Rattle.use_session.proofs.Led.{carries_on, next_fits}
use Rattle.use_session.proofs.moments.carry_out_again.Goals as goal

pub carry_one_out_again-requires-clause-few : goal.carry_one_out_again-requires-clause-few
carry_one_out_again-requires-clause-few c = subst (λ (l : Layout). length l.assocs < 2 ^ 32) (sym c.on.invariant.carries.layout) c.requires.few

pub carry_one_out_again-requires-clause-fits : goal.carry_one_out_again-requires-clause-fits
carry_one_out_again-requires-clause-fits c =
    next_fits c.args.store.now c.on.store c.args.changes _ _ c.on.again.items c.in-Some.change c.in-Some.ensures.steps.0 c.on.invariant.carries

pub on-init : goal.on-init
on-init c =
    let d = c.args.store.now in
    let first : into_iter_items c.into_iter-change-iterator.result ≡ c.into_vec-change-items.result.items = c.into_iter-change-iterator.ensures.into_iter_gives.0 in
    let gives : into_iter_items c.into_iter-change-iterator.result ≡ c.args.changes = first ∙ c.into_vec-change-items.ensures in
    record {
      carries = record {
        layout = refl;
        end = ap (led_on d.layout d.state) gives;
        on = subst (CanBeCarriedOut d.layout d.state) (sym gives) c.requires.on;
        same = λ i. c.in_ok-again.ensures.items i ++ gives i;
      };
      noted = none_noted d.layout d.state c.args.frames.now;
    }

pub on-preserved : goal.on-preserved
on-preserved c =
    let store = c.on.store in
    let change = c.in-Some.change in
    let first = c.args.store.now in
    let applied = c.in_ok-carried.ensures.state in
    let noted = subst (λ (l : Layout). AreNoted l store.state (apply store.layout store.state change) c.on.frames c.carry_one_out_again.new.frames)
    c.on.invariant.carries.layout c.in_ok-carried.ensures.noted in
    record {
      carries = carries_on first store _ c.args.changes _ _ c.on.again.items _ change c.in_ok-carried.carried c.in-Some.ensures.steps.0 c.on.invariant.carries
          c.in_ok-carried.ensures.state c.in_ok-carried.ensures.same c.in_ok-push.ensures.items;
      noted = subst (λ (d : Diagram). AreNoted first.layout first.state d.state c.args.frames.now c.carry_one_out_again.new.frames) (sym applied)
          (both_noted first.layout first.state store.state (apply store.layout store.state change)
          c.args.frames.now c.on.frames c.carry_one_out_again.new.frames c.on.invariant.noted noted);
    }
