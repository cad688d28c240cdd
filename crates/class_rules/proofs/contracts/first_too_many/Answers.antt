use Rattle.std.proofs.Common.{ap, ◌∙◌, ◌||◌, length, nat_lt}
use Rattle.std.proofs.Math.Path.{fun_ext}
use Rattle.class_rules.specs.ClassRules.{first_op}
use Rattle.class_rules.proofs.ByName.{contracts_named}
use Rattle.class_rules.proofs.contracts.first_too_many.Goals as goal

pub returns : goal.returns
returns c =
    c.first_with_too_many.ensures
    ∙ ap (λ test. first_op test c.args.class.now)
    (fun_ext (λ op. ap (λ n. nat_lt 16 (length op.params) || nat_lt 64 n) (contracts_named c.args.index.now c.args.above.now c.in_ok-names.names
    c.in_ok-names.ensures op)))
