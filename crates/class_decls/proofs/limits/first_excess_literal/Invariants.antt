use Rattle.std.proofs.Common.{◌≡◌, take}
use Rattle.std.proofs.Common.{None}
use Rattle.class_decls.specs.Texts.{first_given}
use Rattle.class_decls.specs.Limits.{excess_literal}
use Rattle.class_decls.proofs.limits.first_excess_literal.Given as goal

abbrev pub invariant-enums : goal.invariant-enums
invariant-enums l = first_given excess_literal (take l.decl-index l.enums) ≡ None
