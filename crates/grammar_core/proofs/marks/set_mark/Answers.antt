use Rattle.std.proofs.Common.{rules, ◌≡◌, ◌<◌, List, Bool, false, length, arith, subst, sym}
use Rattle.grammar_core.specs.Paths.{is_marked}
use Rattle.grammar_core.specs.Marks.{unmarked}
use Rattle.grammar_core.proofs.Marking.{set_outside, set_marked, set_new, set_fewer}
use Rattle.grammar_core.proofs.marks.set_mark.Goals as goal

pub returns-then-q-len-clause-set : goal.returns-then-q-len-clause-set
returns-then-q-len-clause-set c = search (rules, set_outside)

pub returns-then-is_marked-clause-set : goal.returns-then-is_marked-clause-set
returns-then-is_marked-clause-set c = set_marked c.args.seen.now.items c.args.q (cc)

pub returns-clause-set : goal.returns-clause-set
returns-clause-set c = set_new c.args.seen.now.items c.args.q

pub returns-clause-grows : goal.returns-clause-grows
returns-clause-grows c =
    let inside : c.args.q < length c.args.seen.now.items = omega arith in
    let e : is_marked c.args.seen.now.items c.args.q ≡ false = cc in
    let f = set_fewer c.args.seen.now.items c.args.q inside e in
    let g = subst (λ (l : List Bool). unmarked l < unmarked c.args.seen.now.items) (sym (set_new c.args.seen.now.items c.args.q)) f in
    record { fewer = omega (arith, g); less = λ z. g; same = λ z. (cc) }
