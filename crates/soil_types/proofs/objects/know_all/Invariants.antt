use Rattle.std.proofs.Common.{◌≡◌, fold, length}
use Rattle.soil_scope.specs.Scenes.{scene}
use Rattle.soil_types.specs.ObjectForms.{known}
use Rattle.soil_types.proofs.objects.know_all.Given as goal

abbrev pub invariant-names : goal.invariant-names
invariant-names l = record {
  so_far : fold (known (scene l.setting) l.class) l.variables l.rest ≡ fold (known (scene l.setting) l.class) l.fn.variables l.fn.names;
}

abbrev pub decreases-names : goal.decreases-names
decreases-names l = length l.rest
