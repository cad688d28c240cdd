use Rattle.std.proofs.Common.{sym, ap, ◌∙◌, is_gt, rules}
use Rattle.std.proofs.lemmas.List.{get_or_default}
use Rattle.use_orders.proofs.Joined.{first_joined, second_joined}
use Rattle.use_orders.proofs.joins.join_one.Goals as goal

pub returns-in_ok-push : goal.returns-in_ok-push
returns-in_ok-push g c =
    second_joined g.met.T.Ord.total c.args.a.now c.args.b.now c.args.i c.args.j c.index-a-i.result c.index-b-j.result c.requires.first c.requires.second
    c.requires.in_a c.requires.in_b c.index-a-i.is c.index-b-j.is c.args.out.now.items c.push.new.self.items
    (ap is_gt (sym c.cmp.ensures) ∙ sym c.is_gt.ensures ∙ c.if-is_gt.true) (search (rules, get_or_default))

pub returns-in_ok-push-2 : goal.returns-in_ok-push-2
returns-in_ok-push-2 g c =
    first_joined g.met.T.Ord.total c.args.a.now c.args.b.now c.args.i c.args.j c.index-a-i.result c.index-b-j.result c.requires.first c.requires.second
    c.requires.in_a c.requires.in_b c.index-a-i.is c.index-b-j.is c.args.out.now.items c.push-else-is_gt.new.self.items
    (ap is_gt (sym c.cmp.ensures) ∙ sym c.is_gt.ensures ∙ c.if-is_gt.false) (search (rules, get_or_default))
