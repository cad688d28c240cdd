use Rattle.std.proofs.Common.{None}
use Rattle.std.proofs.lemmas.Map.Text.{hash_map_updates_text}
use Rattle.object_store.proofs.names.take_name.Goals as goal

pub returns : goal.returns
returns c = λ n. hash_map_updates_text c.args.name.now c.args.numbers.now c.remove.new.self None c.remove.ensures.updates n
