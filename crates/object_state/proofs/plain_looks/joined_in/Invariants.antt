use Rattle.std.proofs.Common.{◌≡◌, ◌++◌, drop, filter, map}
use Rattle.ocl_values.specs.declared.value.Value.TheVariants.{Obj}
use Rattle.object_state.specs.Looks.{end_of, has_at}
use Rattle.object_state.proofs.plain_looks.joined_in.Given as goal

abbrev pub invariant-links : goal.invariant-links
invariant-links l =
    l.items ++ map (λ entry. Obj (end_of entry.1 l.to)) (filter (has_at l.assoc l.from l.object) (drop l.entry-index l.links))
    ≡ map (λ entry. Obj (end_of entry.1 l.to)) (filter (has_at l.assoc l.from l.object) l.links)
