use Rattle.std.proofs.Common.{◌∙◌}
use Rattle.clap.specs.Matches.{found_of}
use Rattle.use_words.proofs.Rows.{first_value_is}
use Rattle.use_words.proofs.found.word.Goals as goal

-- src/found.rt:16:1
pub returns : goal.returns
returns c = c.get_str.ensures ∙ first_value_is (found_of c.args.matches.now) c.args.name.now
