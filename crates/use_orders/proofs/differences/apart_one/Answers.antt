use Rattle.std.proofs.Common.{sym, ◌∙◌, rules}
use Rattle.std.proofs.lemmas.List.{get_or_default}
use Rattle.use_orders.proofs.Apart.{first_apart, second_apart, both_passed}
use Rattle.use_orders.proofs.differences.apart_one.Goals as goal

pub returns-in_ok-push-in-Less : goal.returns-in_ok-push-in-Less
returns-in_ok-push-in-Less g c =
    first_apart g.met.T.Ord.total c.requires.exact c.args.a.now c.args.b.now c.args.i c.args.j c.index-a-i.result c.index-b-j.result
    c.requires.first c.requires.second c.requires.in_a c.requires.in_b c.index-a-i.is c.index-b-j.is c.args.out.now.items c.push.new.self.items
    (sym c.cmp.ensures ∙ c.in-Less.is) (search (rules, get_or_default))

pub returns-in-Equal : goal.returns-in-Equal
returns-in-Equal g c =
    both_passed g.met.T.Ord.total c.requires.exact c.args.a.now c.args.b.now c.args.i c.args.j c.index-a-i.result c.index-b-j.result
    c.requires.first c.requires.second c.requires.in_a c.requires.in_b c.index-a-i.is c.index-b-j.is c.args.out.now.items c.args.out.now.items
    (sym c.cmp.ensures ∙ c.in-Equal.is)

pub returns-in_ok-push-in-Greater : goal.returns-in_ok-push-in-Greater
returns-in_ok-push-in-Greater g c =
    second_apart g.met.T.Ord.total c.requires.exact c.args.a.now c.args.b.now c.args.i c.args.j c.index-a-i.result c.index-b-j.result
    c.requires.first c.requires.second c.requires.in_a c.requires.in_b c.index-a-i.is c.index-b-j.is c.args.out.now.items c.push-in-Greater.new.self.items
    (sym c.cmp.ensures ∙ c.in-Greater.is) (search (rules, get_or_default))
