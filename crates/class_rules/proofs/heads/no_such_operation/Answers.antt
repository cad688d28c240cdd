use Rattle.std.proofs.Common.{sym}
use Rattle.class_rules.proofs.Unnamed.{none_sought}
use Rattle.class_rules.proofs.heads.no_such_operation.Goals as goal

pub returns-then-is_empty : goal.returns-then-is_empty
returns-then-is_empty c = sym (none_sought c.args.decls.now c.args.decls.now.conds (c.is_empty.ensures.0 c.if-is_empty.true))
