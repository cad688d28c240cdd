use Rattle.std.proofs.Common.{◌∙◌, sym}
use Rattle.class_decls.proofs.Untied.{none_twice}
use Rattle.class_decls.proofs.names.name_declared_twice.Goals as goal

pub returns-then-differ : goal.returns-then-differ
returns-then-differ c = sym (none_twice c.args.decls.now (sym c.in_ok-differ.ensures ∙ c.if-differ.true))
