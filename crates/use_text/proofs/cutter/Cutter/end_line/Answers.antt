use Rattle.std.proofs.Common.{arith, ap}
use Rattle.use_text.proofs.CutLemmas.{commands_pushed}
use Rattle.use_text.proofs.cutter.Cutter.end_line.Goals as goal

pub invariant_of-self-2 : goal.invariant_of-self-2
invariant_of-self-2 c = (
  omega (arith, c.requires, ap (λ v. v.count) c.self.view_is),
  c.in_ok-cut.ensures.first,
  commands_pushed c.self.inside.count c.self.inside.waiting.items
      c.push_if_some.new.waiting.items c.in_ok-cut.cut c.push_if_some.result c.push_if_some.ensures.ok c.push_if_some.ensures.err c.self.invariant.2
      c.in_ok-cut.ensures.command,
  c.end_line.ensures.bound,
)
