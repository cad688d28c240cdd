use Rattle.std.proofs.Common.{arith, drop, ◌∙◌, ap}
use Rattle.std.proofs.lemmas.List.{take_rest}
use Rattle.use_text.specs.KeepingSteps.{extended}
use Rattle.use_text.proofs.CutLemmas.{goes_on, ends_line, fed_none, fed_line, fed_all}
use Rattle.use_text.proofs.cutter.Cutter.feed.Goals as goal

pub lines-init : goal.lines-init
lines-init c = record { within = omega arith; few = omega arith; fed = fed_none c.args.self.now }

pub lines-preserved : goal.lines-preserved
lines-preserved c =
    let old = c.lines.self in
    let on = c.extend.new.self in
    let new = c.end_line.new.self in
    let found = c.in-Some.ensures in
    let line = goes_on old on _ found.ended c.in_ok-extend.ensures.kept c.extend.ensures.count c.extend.ensures.waiting in
    let feed = ends_line on new c.in_ok-end_line.ensures.kept c.in_ok-end_line.ensures.count c.in_ok-end_line.ensures.waiting in
    record {
      within = omega arith;
      few = omega (arith, c.lines.invariant.few, c.extend.ensures.count, c.in_ok-end_line.ensures.count);
      fed = fed_line c.args.self.now old on new c.args.piece.now c.lines.at c.in-Some.end found.within.0 found.within.1 found.feed c.lines.invariant.fed line
          feed;
    }

pub returns-clause-fed : goal.returns-clause-fed
returns-clause-fed c =
    let old = c.lines.self in
    let on = c.extend-2.new.self in
    let kept_is = c.in_ok-extend-2.ensures.kept ∙ ap (extended old.kept) (take_rest c.args.piece.now c.lines.at) in
    fed_all c.args.self.now old on c.args.piece.now c.lines.at c.lines.invariant.fed (goes_on old on
    (drop c.lines.at c.args.piece.now) c.in_default.ensures.«open» kept_is c.extend-2.ensures.count c.extend-2.ensures.waiting)
