use Rattle.model_check.proofs.Sizes.{contract_room}
use Rattle.model_check.proofs.contracts.add_named.Goals as goal

pub expression_at-requires : goal.expression_at-requires
expression_at-requires c =
    contract_room c.in_ok-seen.seen c.args.source.now.setting.model.now c.args.op c.args.names.now c.args.is_post c.in_ok-seen.ensures c.requires.few
