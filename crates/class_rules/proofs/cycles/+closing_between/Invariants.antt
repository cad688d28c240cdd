use Rattle.std.proofs.Common.{◌-◌}
use Rattle.class_rules.proofs.cycles.+closing_between.Given as goal

abbrev pub decreases-closing_between : goal.decreases-closing_between
decreases-closing_between l = l.high - l.low
