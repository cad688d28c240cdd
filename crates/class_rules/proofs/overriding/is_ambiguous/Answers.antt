use Rattle.std.proofs.Common.{ap, ◌∙◌}
use Rattle.std.proofs.Math.Path.{fun_ext}
use Rattle.std.specs.List.{list_any}
use Rattle.class_rules.specs.Ancestors.{parent_numbers}
use Rattle.class_rules.specs.Declaring.{is_disputed, ops_numbered}
use Rattle.class_rules.proofs.Disputed.{some_disputed}
use Rattle.class_rules.proofs.overriding.is_ambiguous.Goals as goal

pub returns : goal.returns
returns c =
    let ds = c.args.hierarchy.now in
    c.in_ok-disputed.ensures
    ∙ ap (λ f. list_any (λ n. list_any (λ op. is_disputed (parent_numbers ds) (f op.name.text) n) (ops_numbered ds n)) c.args.classes.now)
    (fun_ext c.in_ok-groups.ensures)
    ∙ some_disputed ds c.args.classes.now
