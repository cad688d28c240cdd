use Rattle.shell_tests.proofs.shell.unread.a_file_that_cannot_be_read_ends_the_run.Given as goal

abbrev pub ghosts-from_worn : goal.ghosts-from_worn
ghosts-from_worn g a = record { name = a.blank.name; parts = a.blank.parts }
