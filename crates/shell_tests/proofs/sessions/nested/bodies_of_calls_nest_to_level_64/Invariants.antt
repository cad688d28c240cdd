use Rattle.shell_tests.proofs.sessions.nested.bodies_of_calls_nest_to_level_64.Given as goal

abbrev pub ghosts-called : goal.ghosts-called
ghosts-called g a = record { name = a.blank.name; parts = a.blank.parts }
