use Rattle.text_tests.proofs.syntax.+show.Given as goal

abbrev pub decreases-show : goal.decreases-show
decreases-show l = l.n
