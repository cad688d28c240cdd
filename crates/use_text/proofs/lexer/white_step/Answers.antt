use Rattle.std.proofs.Common.{arith}
use Rattle.use_text.proofs.TokenLemmas.{advanced_by, white_at}
use Rattle.use_text.proofs.lexer.white_step.Goals as goal

pub returns : goal.returns
returns c = record {
  read = white_at c.args.text.now c.args.at c.args.count c.args.place c.behind_all.result c.args.end c.requires.white c.behind_all.ensures.place;
  ahead = omega (arith, c.requires.white.some);
  within = c.requires.white.within;
  near = advanced_by c.args.text.now c.args.at c.args.count c.args.place c.behind_all.result c.behind_all.ensures.advanced;
  token = tt;
  end = c.requires.end;
}
