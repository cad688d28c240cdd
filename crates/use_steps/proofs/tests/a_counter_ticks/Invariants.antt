use Rattle.use_steps.proofs.tests.a_counter_ticks.Given as goal

abbrev pub ghosts-ticked : goal.ghosts-ticked
ghosts-ticked g a = record { name = a.blank.name; parts = a.blank.parts }
