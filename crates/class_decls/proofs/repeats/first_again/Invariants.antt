use Rattle.std.proofs.Common.{◌-◌, ◌≡◌, ◌≤◌, length, drop}
use Rattle.class_decls.specs.Entries.{again, first_place}
use Rattle.class_decls.proofs.repeats.first_again.Given as goal

abbrev pub invariant-entries : goal.invariant-entries
invariant-entries l = (l.first ≡ first_place (again (drop (l.i - 1) l.sorted))) × (l.i ≤ length l.sorted)

abbrev pub decreases-entries : goal.decreases-entries
decreases-entries l = l.i
