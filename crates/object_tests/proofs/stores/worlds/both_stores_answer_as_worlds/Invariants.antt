use Rattle.object_tests.proofs.stores.worlds.both_stores_answer_as_worlds.Given as goal

abbrev pub ghosts-first_others : goal.ghosts-first_others
ghosts-first_others g a = record { name = a.blank.name; parts = a.blank.parts }
