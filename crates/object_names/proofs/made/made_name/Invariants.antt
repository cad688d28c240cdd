use Rattle.std.proofs.Common.{◌≡◌, ◌-◌, ◌≤◌}
use Rattle.object_names.specs.Names.{first_free, made_name}
use Rattle.object_names.proofs.made.made_name.Given as goal

abbrev pub invariant-seek : goal.invariant-seek
invariant-seek g l = record {
  name : first_free (g.S.StateReader.held l.store).state l.class l.number (l.last - l.number) ≡ made_name (g.S.StateReader.held l.store).state l.class;
  within : l.number ≤ l.last;
}

abbrev pub decreases-seek : goal.decreases-seek
decreases-seek g l = l.last - l.number
