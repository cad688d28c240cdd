use Rattle.eval_outcomes.proofs.evaluated.is_done_by.Given as goal

abbrev pub ghosts-is_done_in : goal.ghosts-is_done_in
ghosts-is_done_in g a = record { name = a.blank.name; parts = a.blank.parts }
