use Rattle.std.proofs.Common.{◌≡◌, take, true}
use Rattle.std.specs.List.{list_all}
use Rattle.class_decls.specs.Different.{all_differ, param_texts}
use Rattle.class_decls.proofs.different.params_differ.Given as goal

abbrev pub invariant-heads : goal.invariant-heads
invariant-heads l = list_all (λ h. all_differ (param_texts h.now)) (take l.head-index l.heads) ≡ true
