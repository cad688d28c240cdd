use Rattle.std.proofs.Common.{◌≡◌, take}
use Rattle.std.proofs.Common.{None}
use Rattle.class_decls.specs.Texts.{first_given}
use Rattle.std.specs.Option.{option_or}
use Rattle.class_decls.specs.Limits.{bad_part}
use Rattle.class_decls.proofs.limits.first_bad_end.Given as goal

abbrev pub invariant-assocs : goal.invariant-assocs
invariant-assocs l = first_given (λ a. option_or (bad_part a.first) (bad_part a.second)) (take l.assoc-index l.assocs) ≡ None
