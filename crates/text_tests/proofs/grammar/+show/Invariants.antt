use Rattle.text_tests.proofs.grammar.+show.Given as goal

abbrev pub decreases-show : goal.decreases-show
decreases-show l = l.n
