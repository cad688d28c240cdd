use Rattle.std.proofs.Common.{◌≡◌, ◌++◌, take}
use Rattle.std.specs.List.{flat_map, zip}
use Rattle.use_info.specs.States.{slot_line}
use Rattle.use_info.proofs.state_info.append_slots.Given as goal

abbrev pub invariant-attrs : goal.invariant-attrs
invariant-attrs g l =
    l.out.items ≡ l.initial.out.items ++ flat_map (slot_line l.model (g.S.StateReader.held l.state).state) (zip (take l.at l.attrs) l.slots)
