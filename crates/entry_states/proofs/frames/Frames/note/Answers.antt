use Rattle.std.proofs.Common.{◌∷◌, ◌∙◌, refl, subst, ap, sym, drop, reverse}
use Rattle.object_state.specs.Changes.{apply}
use Rattle.object_state.specs.Looks.{look}
use Rattle.entry_states.specs.Frames.{Grown, altered_by, entered, noted}
use Rattle.entry_states.proofs.Keeps.{change_keeps, noted_grown}
use Rattle.entry_states.proofs.Tops.{top_is, top_set}
use Rattle.entry_states.proofs.frames.Frames.note.Goals as goal

pub returns-clause-noted : goal.returns-clause-noted
returns-clause-noted g c =
    let v = c.self.inside.frames in
    let d = g.S.StateReader.held c.args.store.now in
    let more = c.in-Some.ensures.variant.0 refl in
    let is = top_is v.items v.len c.in-Some.top.now v.ok.0 more c.in-Some.ensures.value in
    let set = top_set v.items v.len (record { call = c.in-Some.top.now.call; overlay = c.note_change.new.overlay }) v.ok.0 more in
    set ∙ ap (λ o. record { call = c.in-Some.top.now.call; overlay = o } ∷ drop 1 (reverse v.items)) c.in_ok-note_change.ensures
    ∙ ap (λ fs. noted fs (altered_by d.layout c.args.change.now) (look d.layout d.state)) (sym is ∙ c.self.view_is)

pub returns-clause-keeps : goal.returns-clause-keeps
returns-clause-keeps g c =
    let d = g.S.StateReader.held c.args.store.now in
    ap (λ fs. entered fs (look d.layout (apply d.layout d.state c.args.change.now))) (returns-clause-noted g c)
    ∙ change_keeps d.layout d.state c.args.change.now c.args.self.now c.state_is_valid.ensures c.requires.fits

pub returns-clause-grown : goal.returns-clause-grown
returns-clause-grown g c =
    let d = g.S.StateReader.held c.args.store.now in
    subst (λ fs. Grown c.args.self.now fs) (sym (returns-clause-noted g c)) (noted_grown c.args.self.now (altered_by d.layout c.args.change.now) (look d.layout d.state))
