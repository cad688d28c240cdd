use Rattle.use_steps.proofs.tests.a_counter_takes_many_steps_at_once.Given as goal

abbrev pub ghosts-ticked_by : goal.ghosts-ticked_by
ghosts-ticked_by g a = record { name = a.blank.name; parts = a.blank.parts }
