use Rattle.soil_exec.proofs.block.+block_in.Given as goal

abbrev pub decreases-block_in : goal.decreases-block_in
decreases-block_in g l = l.setting.now.levels
