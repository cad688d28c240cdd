use Rattle.std.proofs.Common.{◌<◌, ◌^◌, List, length, refl, ap, sym, subst, ◌∙◌}
use Rattle.object_state.specs.declared.change.Change.{Change}
use Rattle.object_state.specs.declared.layout.Layout.{Layout}
use Rattle.object_state.specs.Changes.{apply, inverse}
use Rattle.object_state.specs.State.{Diagram}
use Rattle.entry_states.specs.Leading.{CanBeTakenBack, taken_back}
use Rattle.entry_states.specs.Noting.{AreNoted}
use Rattle.entry_states.proofs.Noted.{both_noted, none_noted}
use Rattle.soil_changes.proofs.Back.{back_less, fits_less, start_less}
use Rattle.soil_changes.proofs.transaction.take_back.Goals as goal

pub take_one_back-requires-clause-few : goal.take_one_back-requires-clause-few
take_one_back-requires-clause-few c = subst (λ (l : Layout). length l.assocs < 2 ^ 32) (sym c.back.invariant.layout) c.requires.few

pub take_one_back-requires-clause-fits : goal.take_one_back-requires-clause-fits
take_one_back-requires-clause-fits c =
    let store = c.back.store in
    let back = subst (λ (cs : List Change). CanBeTakenBack store.layout cs store.state) c.in-Some.ensures.items c.back.invariant.back in
    fits_less store.layout c.pop.new.self.items c.in-Some.change store.state back

pub back-init : goal.back-init
back-init c = record {
  layout = refl;
  start = refl;
  back = c.requires.back;
  noted = none_noted c.args.store.now.layout c.args.store.now.state c.args.frames.now;
}

pub back-preserved : goal.back-preserved
back-preserved c =
    let store = c.back.store in
    let less = c.pop.new.self.items in
    let change = c.in-Some.change in
    let back = subst (λ (cs : List Change). CanBeTakenBack store.layout cs store.state) c.in-Some.ensures.items c.back.invariant.back in
    let applied = c.in_ok-take_one_back.ensures.back in
    let noted = subst (λ (l : Layout). AreNoted l store.state (apply store.layout store.state (inverse change)) c.back.frames c.take_one_back.new.frames)
    c.back.invariant.layout c.in_ok-take_one_back.ensures.noted in
    record {
      layout = ap (λ (d : Diagram). d.layout) applied ∙ c.back.invariant.layout;
      start = ap (λ (d : Diagram). taken_back d.layout less d.state) applied ∙ sym (start_less store.layout less change store.state)
          ∙ ap (λ (cs : List Change). taken_back store.layout cs store.state) (sym c.in-Some.ensures.items) ∙ c.back.invariant.start;
      back = subst (λ (d : Diagram). CanBeTakenBack d.layout less d.state) (sym applied) (back_less store.layout less change store.state back);
      noted = subst (λ (d : Diagram). AreNoted c.args.store.now.layout c.args.store.now.state d.state c.args.frames.now c.take_one_back.new.frames) (sym applied)
          (both_noted c.args.store.now.layout c.args.store.now.state store.state (apply store.layout store.state (inverse change))
          c.args.frames.now c.back.frames c.take_one_back.new.frames c.back.invariant.noted noted);
    }
