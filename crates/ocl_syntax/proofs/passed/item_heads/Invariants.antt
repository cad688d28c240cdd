use Rattle.std.proofs.Common.{◌≡◌, false, map, take}
use Rattle.ocl_syntax.specs.Layers.{item_head}
use Rattle.ocl_syntax.proofs.passed.item_heads.Given as goal

abbrev pub invariant-items : goal.invariant-items
invariant-items l = l.found.items ≡ map (item_head l.lexed false) (take l.item-index l.items)
