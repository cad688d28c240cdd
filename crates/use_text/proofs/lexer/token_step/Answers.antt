use Rattle.std.proofs.Common.{arith, rules}
use Rattle.use_text.proofs.TokenLemmas.{advanced_by, token_at_place}
use Rattle.use_text.proofs.lexer.token_step.Goals as goal

pub returns : goal.returns
returns c = record {
  read = rw (c.number.ensures, c.number-2.ensures) (token_at_place c.args.text.now c.args.kind c.args.at c.args.count c.args.place c.behind_all.result
      c.args.end c.requires.token c.behind_all.ensures.place);
  ahead = omega (arith, c.requires.token.some);
  within = c.requires.token.within;
  near = advanced_by c.args.text.now c.args.at c.args.count c.args.place c.behind_all.result c.behind_all.ensures.advanced;
  token = search rules;
  end = search rules;
}
