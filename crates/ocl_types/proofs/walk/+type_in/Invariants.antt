use Rattle.ocl_types.proofs.walk.+type_in.Given as goal

abbrev pub decreases-type_in : goal.decreases-type_in
decreases-type_in l = l.setting.now.nesting
