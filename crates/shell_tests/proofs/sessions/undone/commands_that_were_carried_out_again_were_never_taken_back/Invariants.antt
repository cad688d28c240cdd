use Rattle.shell_tests.proofs.sessions.undone.commands_that_were_carried_out_again_were_never_taken_back.Given as goal

abbrev pub ghosts-asked : goal.ghosts-asked
ghosts-asked g a = record { name = a.blank.name; parts = a.blank.parts }
