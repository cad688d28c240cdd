use Rattle.model_check.proofs.Sizes.{result_room}
use Rattle.model_check.proofs.seen.seen_by_statements.Goals as goal

pub push_result-requires : goal.push_result-requires
push_result-requires c = result_room c.in_ok-seen.seen c.args.model.now c.args.op c.args.names.now c.in_ok-seen.ensures c.requires.few
