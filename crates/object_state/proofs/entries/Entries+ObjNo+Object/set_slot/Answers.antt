use Rattle.std.proofs.Common.{◌∙◌, ap, sym, List, ℕ}
use Rattle.std.specs.BTreeMap.{is_at}
use Rattle.std.specs.List.{position}
use Rattle.std.specs.Map.{lookup, set_value}
use Rattle.std.specs.Option.{option_map_or}
use Rattle.std.specs.Ordering.{nat_cmp}
use Rattle.object_state.specs.Changes.{with_slot}
use Rattle.object_state.specs.declared.objects.Object.{Object}
use Rattle.object_state.proofs.Back.{absent}
use Rattle.object_state.proofs.Placed.{unwritten, written}
use Rattle.object_state.proofs.entries.Entries+ObjNo+Object.set_slot.Goals as goal

pub returns-in-Some : goal.returns-in-Some
returns-in-Some c =
    written (λ x. with_slot c.args.layout.now x c.args.attr c.args.value) c.self.inside.entries.items c.args.object c.in-Some.at c.index_mut-entry.result.now
    c.set_slot.new.object
    (ap (position (λ e. is_at (nat_cmp c.args.object) e.0)) (sym c.as_slice.ensures.value) ∙ sym c.in-Some.ensures)
    c.index_mut-entry.ensures.value
    c.set_slot.ensures
    ∙ ap (λ (l : List (ℕ × Object)). option_map_or (λ x. set_value (is_at (nat_cmp c.args.object)) l (with_slot c.args.layout.now x c.args.attr c.args.value))
    (lookup (is_at (nat_cmp c.args.object)) l) l) c.self.view_is

pub returns-in_default : goal.returns-in_default
returns-in_default c =
    unwritten (λ x. with_slot c.args.layout.now x c.args.attr c.args.value) c.args.self.now c.args.object
    (ap (position (λ e. is_at (nat_cmp c.args.object) e.0)) (sym (c.as_slice.ensures.value ∙ c.self.view_is)) ∙ sym c.place_at.ensures
    ∙ absent c.place_at.result c.in_default.not-Some)
