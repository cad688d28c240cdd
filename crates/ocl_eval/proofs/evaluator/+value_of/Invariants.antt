use Rattle.ocl_eval.proofs.evaluator.+value_of.Given as goal

abbrev pub decreases-value_of : goal.decreases-value_of
decreases-value_of g l = l.setting.now.levels
