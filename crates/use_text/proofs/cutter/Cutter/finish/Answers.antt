use Rattle.std.proofs.Common.{option_to_list, rules}
use Rattle.use_text.proofs.CutLemmas.{finished}
use Rattle.use_text.proofs.cutter.Cutter.finish.Goals as goal

pub returns-clause-last : goal.returns-clause-last
returns-clause-last c = finished c.args.self.now (option_to_list c.finish.result) (search rules)
