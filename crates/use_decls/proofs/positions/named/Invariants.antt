use Rattle.std.proofs.Common.{◌≡◌, ◌++◌, []}
use Rattle.std.specs.List.{count_by}
use Rattle.std.specs.Vec.Iter.{into_iter_items}
use Rattle.use_decls.specs.Conds.{is_in, named_behind}
use Rattle.use_decls.specs.Counts.{count_in}
use Rattle.use_decls.specs.declared.positions.Group.{Group}
use Rattle.use_decls.proofs.positions.named.Given as goal

abbrev pub invariant-parts : goal.invariant-parts
invariant-parts l = record {
  whole : l.fn.parts.items ≡ l.yielded ++ into_iter_items l.part-iterator;
  so_far : l.conds ++ named_behind l.context_heads l.yielded (into_iter_items l.part-iterator) ≡ named_behind l.context_heads [] l.fn.parts.items;
  counts : (g : Group) → count_in l.counts g ≡ count_by (is_in l.context_heads g) l.yielded;
}
