use Rattle.soil_types.proofs.blocks.+block_in.Given as goal

abbrev pub decreases-block_in : goal.decreases-block_in
decreases-block_in l = l.level.now.nesting
