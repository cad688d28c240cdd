use Rattle.std.proofs.Common.{Some, slice_get, ◌≡◌, ◌∷◌, ◌∙◌, refl, subst, ap, sym, drop, reverse, []}
use Rattle.std.proofs.lemmas.List.{reverse-append}
use Rattle.entry_states.specs.Frames.{Grown, TopHas, entered, left}
use Rattle.entry_states.proofs.Keeps.{left_grown, left_has, left_keeps}
use Rattle.entry_states.proofs.Tops.{top_is, top_set}
use Rattle.entry_states.proofs.frames.Frames.leave_top.Goals as goal

pub returns-clause-stay : goal.returns-clause-stay
returns-clause-stay c =
    let v = c.pop.new.self in
    let more = c.in-Some-last_mut.ensures.variant.0 refl in
    let below = c.in-Some-last_mut.below.now in
    let is = top_is v.items v.len below v.ok.0 more c.in-Some-last_mut.ensures.value in
    let set = top_set v.items v.len (record { call = below.call; overlay = c.merge_copy_into.new.parent }) v.ok.0 more in
    let top : reverse c.self.inside.frames.items ≡ c.in-Some.top ∷ reverse v.items = ap reverse c.in-Some.ensures.items ∙ reverse-append v.items (c.in-Some.top ∷ []) in
    set ∙ ap (λ o. record { call = below.call; overlay = o } ∷ drop 1 (reverse v.items)) c.in_ok-merge_copy_into.ensures.merged
    ∙ ap (λ fs. left (c.in-Some.top ∷ fs)) (sym is)
    ∙ ap left (sym top ∙ c.self.view_is)

pub returns-clause-keeps : goal.returns-clause-keeps
returns-clause-keeps c = λ q. ap (λ fs. entered fs q) (returns-clause-stay c) ∙ left_keeps c.args.self.now q

pub returns-clause-grown : goal.returns-clause-grown
returns-clause-grown c = subst (λ fs. Grown (drop 1 c.args.self.now) fs) (sym (returns-clause-stay c)) (left_grown c.args.self.now)

pub returns-clause-has : goal.returns-clause-has
returns-clause-has c =
    let v = c.pop.new.self in
    let top : reverse c.self.inside.frames.items ≡ c.in-Some.top ∷ reverse v.items = ap reverse c.in-Some.ensures.items ∙ reverse-append v.items (c.in-Some.top ∷ []) in
    let first : Some c.in-Some.top ≡ slice_get c.args.self.now 0 = ap (λ fs. slice_get fs 0) (sym top ∙ c.self.view_is) in
    subst (λ fs. TopHas fs c.in-Some.top.overlay) (sym (returns-clause-stay c)) (left_has c.args.self.now c.in-Some.top first)
