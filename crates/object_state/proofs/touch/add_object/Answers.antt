use Rattle.std.proofs.Common.{◌∙◌, ap, map, List, ℕ}
use Rattle.std.specs.List.{enumerate_from, flat_map}
use Rattle.object_state.specs.declared.cell.Cell.TheVariants.{Kind, Slot, Extent}
use Rattle.object_state.specs.Layouts.{ancestors, attrs}
use Rattle.object_state.specs.Touched.{navs, with_cells}
use Rattle.object_state.proofs.Hits.{gathered}
use Rattle.object_state.proofs.touch.add_object.Goals as goal

pub returns : goal.returns
returns c =
    gathered c.args.out.now c.add.new.self c.add_slots.new.out c.add_all_navs.new.out c.add_extents.new.out (Kind c.args.change.now.object)
    (map (Slot c.args.change.now.object) (attrs c.args.layout.now c.args.change.now.class))
    (flat_map (λ a. navs c.args.layout.now c.args.change.now a.0 a.1) (enumerate_from 0 c.args.layout.now.assocs))
    (map Extent (ancestors c.args.layout.now c.args.change.now.class))
    c.in_ok-add.ensures.ok
    (c.in_ok-add_slots.ensures ∙ ap (λ (l : List ℕ). with_cells c.add.new.self (map (Slot c.args.change.now.object) l)) c.attrs.ensures)
    c.in_ok-add_all_navs.ensures
    (c.in_ok-add_extents.ensures ∙ ap (λ (l : List ℕ). with_cells c.add_all_navs.new.out (map Extent l)) c.ancestors.ensures)
