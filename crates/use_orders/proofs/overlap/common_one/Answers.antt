use Rattle.std.proofs.Common.{sym, ◌∙◌}
use Rattle.use_orders.proofs.Shared.{first_passed, second_passed}
use Rattle.use_orders.proofs.overlap.common_one.Goals as goal

pub returns-in-Less : goal.returns-in-Less
returns-in-Less g c =
    first_passed g.T.Ord.cmp g.met.T.Ord.total c.args.a.now c.args.b.now c.args.i c.args.j c.index-a-i.result c.index-b-j.result c.requires.first
    c.requires.second c.requires.in_a c.requires.in_b c.index-a-i.is c.index-b-j.is c.args.out.now.items (sym c.cmp.ensures ∙ c.in-Less.is)

pub returns-in-Greater : goal.returns-in-Greater
returns-in-Greater g c =
    second_passed g.T.Ord.cmp g.met.T.Ord.total c.args.a.now c.args.b.now c.args.i c.args.j c.index-a-i.result c.index-b-j.result c.requires.first
    c.requires.second c.requires.in_a c.requires.in_b c.index-a-i.is c.index-b-j.is c.args.out.now.items (sym c.cmp.ensures ∙ c.in-Greater.is)
