use Rattle.model_check.proofs.Sizes.{query_room}
use Rattle.model_check.proofs.operations.add_query.Goals as goal

pub expression_at-requires : goal.expression_at-requires
expression_at-requires c =
    query_room c.in_ok-seen.seen c.args.source.now.setting.model.now c.args.op c.args.names.now c.in_ok-seen.ensures c.requires.few
