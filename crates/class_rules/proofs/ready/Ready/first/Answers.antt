use Rattle.std.proofs.Common.{◌≡◌, false, nat_cmp}
use Rattle.std.specs.Ordering.{is_gt}
use Rattle.std.proofs.lemmas.List.Elements.{recursion_from_All}
use Rattle.class_rules.proofs.Pending.{least_ready}
use Rattle.class_rules.proofs.ready.Ready.first.Goals as goal

pub returns-in-Some-clause-least : goal.returns-in-Some-clause-least
returns-in-Some-clause-least c =
    rw (← c.self.view_is)
    (least_ready c.in-Some.place.now c.self.inside.next c.self.inside.again.keys
    (recursion_from_All (λ q. is_gt (nat_cmp c.in-Some.place.now q) ≡ false) c.self.inside.again.keys c.in-Some.ensures.all_from)
    c.in-Some.ensures.first c.self.invariant)
