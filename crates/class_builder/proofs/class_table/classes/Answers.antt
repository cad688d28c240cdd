use Rattle.std.proofs.Common.{sym, ap, ◌∙◌, arith}
use Rattle.class_rules.specs.Ancestors.{parent_numbers}
use Rattle.class_rules.proofs.Ordered.{downward}
use Rattle.class_builder.specs.Models.{class_by}
use Rattle.class_builder.proofs.Steps.{all_low, each_more}
use Rattle.class_builder.proofs.class_table.classes.Goals as goal

pub decls-preserved : goal.decls-preserved
decls-preserved c =
    c.in_ok-push.ensures.items
    ∙ rw (c.decls.invariant, c.in_ok-class.ensures, c.parents.ensures)
    (sym (each_more (λ p. class_by (parent_numbers c.args.hierarchy.now) p.0 p.1.now) c.args.decls.now c.decls.i _ c.decls-test.true c.index-decls-i.is))

pub class-requires : goal.class-requires
class-requires c = rw c.parents.ensures (all_low 4294967296 c.decls.i _ (let h = c.requires.small in omega arith) (downward c.args.hierarchy.now c.decls.i))
