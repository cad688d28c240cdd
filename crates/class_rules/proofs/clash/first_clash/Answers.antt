use Rattle.std.proofs.Common.{ap, ◌∙◌}
use Rattle.std.proofs.Math.Path.{fun_ext}
use Rattle.class_rules.specs.ClassRules.{first_op}
use Rattle.class_rules.proofs.ByName.{clashes_named}
use Rattle.class_rules.proofs.clash.first_clash.Goals as goal

pub returns : goal.returns
returns c =
    c.first_clash_among.ensures
    ∙ ap (λ test. first_op test c.args.class.now) (fun_ext (clashes_named c.args.kind c.args.above.now c.in_ok-groups.groups c.in_ok-groups.ensures))
