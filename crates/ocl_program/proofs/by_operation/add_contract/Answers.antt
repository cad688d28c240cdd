use Rattle.std.proofs.Common.{[], ◌∷◌, ◌++◌, ap, ◌∙◌}
use Rattle.class_model.proofs.Listed.{default_alike}
use Rattle.ocl_program.proofs.Contracted.{longer}
use Rattle.ocl_program.proofs.by_operation.add_contract.Goals as goal

pub returns-clause-rows : goal.returns-clause-rows
returns-clause-rows c =
    longer c.args.rows.now.items c.args.op c.args.number c.push.new.self c.requires
    (c.in_ok-push.ensures.ok
    ∙ ap (λ l. l ++ c.args.number ∷ []) (c.index_mut.ensures.value ∙ default_alike c.args.rows.now.items c.args.op c.index_mut.result.now [] c.requires))
