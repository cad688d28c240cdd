use Rattle.std.proofs.Common.{◌≡◌, ◌<◌, ◌^◌, List, [], ◌∷◌, ◌++◌, length, append-nil, ap, refl, sym, subst, ◌∙◌, reverse}
use Rattle.std.proofs.lemmas.List.{append_assoc, reverse-append}
use Rattle.object_state.specs.declared.change.Change.{Change}
use Rattle.object_state.specs.declared.layout.Layout.{Layout}
use Rattle.object_state.specs.Changes.{apply, inverse}
use Rattle.object_state.specs.State.{Diagram}
use Rattle.entry_states.specs.Leading.{CanBeTakenBack, taken_back}
use Rattle.entry_states.specs.Noting.{AreNoted}
use Rattle.entry_states.proofs.Noted.{both_noted, none_noted}
use Rattle.soil_changes.proofs.Back.{back_less, fits_less, start_less}
use Rattle.use_session.proofs.moments.take_back.Goals as goal

pub take_one_back-requires-clause-few : goal.take_one_back-requires-clause-few
take_one_back-requires-clause-few c = subst (λ (l : Layout). length l.assocs < 2 ^ 32) (sym c.back.invariant.layout) c.requires.few

pub take_one_back-requires-clause-fits : goal.take_one_back-requires-clause-fits
take_one_back-requires-clause-fits c =
    let store = c.back.store in
    let back = subst (λ (cs : List Change). CanBeTakenBack store.layout cs store.state) c.in-Some.ensures.items c.back.invariant.back in
    fits_less store.layout c.pop.new.self.items c.in-Some.change store.state back

pub back-init : goal.back-init
back-init c = record {
  layout = refl;
  start = ap (λ (cs : List Change). taken_back c.args.store.now.layout cs c.args.store.now.state) c.into_vec-left.ensures;
  back = subst (λ (cs : List Change). CanBeTakenBack c.args.store.now.layout cs c.args.store.now.state) (sym c.into_vec-left.ensures) c.requires.back;
  same = (λ i. c.into_vec-left.ensures i ++ reverse (c.in_ok-again.ensures.items i)) ∙ append-nil c.args.changes;
  noted = none_noted c.args.store.now.layout c.args.store.now.state c.args.frames.now;
}

pub back-preserved : goal.back-preserved
back-preserved c =
    let store = c.back.store in
    let less = c.pop.new.self.items in
    let change = c.in-Some.change in
    let back = subst (λ (cs : List Change). CanBeTakenBack store.layout cs store.state) c.in-Some.ensures.items c.back.invariant.back in
    let applied = c.in_ok-taken.ensures.state in
    let noted = subst (λ (l : Layout). AreNoted l store.state (apply store.layout store.state (inverse change)) c.back.frames c.take_one_back.new.frames)
    c.back.invariant.layout c.in_ok-taken.ensures.noted in
    let again : c.push.new.self.items ≡ c.back.again.items ++ change ∷ [] = c.in_ok-push.ensures.items ∙ (λ i. c.back.again.items ++ c.in_ok-taken.ensures.same i ∷ []) in
    record {
      layout = ap (λ (d : Diagram). d.layout) applied ∙ c.back.invariant.layout;
      start = ap (λ (d : Diagram). taken_back d.layout less d.state) applied ∙ sym (start_less store.layout less change store.state)
          ∙ ap (λ (cs : List Change). taken_back store.layout cs store.state) (sym c.in-Some.ensures.items) ∙ c.back.invariant.start;
      back = subst (λ (d : Diagram). CanBeTakenBack d.layout less d.state) (sym applied) (back_less store.layout less change store.state back);
      same = ap (λ l. less ++ reverse l) again ∙ ap (λ l. less ++ l) (reverse-append c.back.again.items (change ∷ []))
          ∙ sym (append_assoc less (change ∷ []) (reverse c.back.again.items))
          ∙ ap (λ l. l ++ reverse c.back.again.items) (sym c.in-Some.ensures.items) ∙ c.back.invariant.same;
      noted = subst (λ (d : Diagram). AreNoted c.args.store.now.layout c.args.store.now.state d.state c.args.frames.now c.take_one_back.new.frames) (sym applied)
          (both_noted c.args.store.now.layout c.args.store.now.state store.state (apply store.layout store.state (inverse change))
          c.args.frames.now c.back.frames c.take_one_back.new.frames c.back.invariant.noted noted);
    }
