use Rattle.std.proofs.Common.{◌≡◌, map, take}
use Rattle.use_syntax.specs.Forms.{branch_of}
use Rattle.use_syntax.proofs.table.branches_of.Given as goal

abbrev pub invariant-branches : goal.invariant-branches
invariant-branches l = l.all.items ≡ map (λ b. branch_of b.0.now b.1) (take l.kinds-index l.branches)
