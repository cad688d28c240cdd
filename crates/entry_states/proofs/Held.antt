-- What an overlay has of a cell, the cell can hold.
use Rattle.std.proofs.Common.{◌≡◌, cond, List, [], ◌∷◌, Option, Some, None, sym, subst}
use Rattle.std.specs.BTreeMap.{insert_entry, is_at}
use Rattle.std.specs.Option.{option_map}
use Rattle.std.specs.Prelude.{IfSome}
use Rattle.std.proofs.lemmas.List.Elements.{All-cons, All-head, All-nil, All-tail}
use Rattle.object_state.specs.declared.cell.Cell.{Cell}
use Rattle.object_state.specs.declared.cell.Look.{Look}
use Rattle.object_state.specs.Touched.{cell_cmp}
use Rattle.object_state.proofs.Keyed.{by_test, match_all}
use Rattle.entry_states.specs.Overlays.{CanBeHeld, CanHold, saved_of}
use Rattle.entry_states.proofs.Cells.{cell_exact}
use Rattle.entry_states.proofs.Lays.{same_cell}

abbrev Holds : Cell × Look → Type 0
Holds e = CanHold e.0 e.1

pub held_of : (es : List (Cell × Look)) (c : Cell) → CanBeHeld es → IfSome (saved_of es c) (CanHold c)
held_of [] c h = tt
held_of (e ∷ es) c h =
    by_test (is_at (cell_cmp c) e.0)
    (λ y. subst (λ b. IfSome (cond b (Some e.1) (saved_of es c)) (CanHold c)) (sym y)
    (subst (λ (k : Cell). CanHold k e.1) (sym (same_cell c e.0 y)) (All-head Holds e es h)))
    (λ n. subst (λ b. IfSome (cond b (Some e.1) (saved_of es c)) (CanHold c)) (sym n) (held_of es c (All-tail Holds e es h)))

-- also of what was read
pub held_in : {X : Type 0} (f : X → Look) (r : Option X) (u : Option Look) (c : Cell) → option_map f r ≡ u → IfSome u (CanHold c) → IfSome r (λ x. CanHold c (f x))
held_in f None u c e h = tt
held_in f (Some x) u c e h = subst (λ u. IfSome u (CanHold c)) (sym e) h

pub held_more : (es : List (Cell × Look)) (c : Cell) (x : Look) → CanBeHeld es → CanHold c x → CanBeHeld (insert_entry cell_cmp es c x)
held_more [] c x h k = All-cons Holds (c, x) [] k (All-nil Holds)
held_more (e ∷ es) c x h k =
    let rest = All-tail Holds e es h in
    match_all CanBeHeld (cell_cmp c e.0) ((c, x) ∷ e ∷ es) ((e.0, x) ∷ es) (e ∷ insert_entry cell_cmp es c x)
    (λ _. All-cons Holds (c, x) (e ∷ es) k h)
    (λ t. All-cons Holds (e.0, x) es (subst (λ (d : Cell). CanHold d x) (cell_exact c e.0 t) k) rest)
    (λ _. All-cons Holds e (insert_entry cell_cmp es c x) (All-head Holds e es h) (held_more es c x rest k))
