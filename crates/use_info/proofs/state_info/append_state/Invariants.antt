use Rattle.std.proofs.Common.{◌≡◌, ◌++◌, take}
use Rattle.std.specs.List.{filter, flat_map}
use Rattle.use_info.specs.States.{link_line, object_lines}
use Rattle.use_info.proofs.Listed.{before, each, found}
use Rattle.use_info.proofs.state_info.append_state.Given as goal

abbrev pub invariant-objects : goal.invariant-objects
invariant-objects g l =
    let s = (g.S.StateReader.held l.state).state in
    l.out.items ≡ l.initial.out.items ++ flat_map (found (object_lines l.model s) s.objects) (take l.number-index l.number-items)

abbrev pub invariant-assocs : goal.invariant-assocs
invariant-assocs g l =
    let s = (g.S.StateReader.held l.state).state in
    l.out.items ≡ l.initial.out.items ++ flat_map (each (link_line l.model s)) (filter (before l.assoc) s.links)
