use Rattle.use_decls.proofs.types.+type_in.Given as goal

abbrev pub decreases-type_in : goal.decreases-type_in
decreases-type_in l = l.depth
