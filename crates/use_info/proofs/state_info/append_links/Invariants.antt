use Rattle.std.proofs.Common.{◌≡◌, ◌++◌, take}
use Rattle.std.specs.List.{flat_map}
use Rattle.use_info.specs.States.{link_line}
use Rattle.use_info.proofs.state_info.append_links.Given as goal

abbrev pub invariant-pairs : goal.invariant-pairs
invariant-pairs g l =
    l.out.items ≡ l.initial.out.items ++ flat_map (link_line l.model (g.S.StateReader.held l.state).state l.assoc) (take l.pair-index l.pair-items)
