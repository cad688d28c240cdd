use Rattle.std.proofs.Common.{◌≡◌, map, take, true}
use Rattle.std.specs.List.{list_all}
use Rattle.class_decls.specs.Different.{all_differ}
use Rattle.class_decls.proofs.different.literals_differ.Given as goal

abbrev pub invariant-enums : goal.invariant-enums
invariant-enums l = list_all (λ e. all_differ (map (λ x. x.text) e.literals)) (take l.declared-index l.enums) ≡ true
