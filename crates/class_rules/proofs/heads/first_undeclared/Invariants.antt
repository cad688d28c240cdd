use Rattle.std.proofs.Common.{◌≡◌, None, take}
use Rattle.class_decls.specs.Texts.{first_given}
use Rattle.class_rules.specs.Operations.{undeclared_head}
use Rattle.class_rules.proofs.heads.first_undeclared.Given as goal

abbrev pub invariant-conds : goal.invariant-conds
invariant-conds l = first_given (undeclared_head l.declared) (take l.cond-index l.conds) ≡ None
