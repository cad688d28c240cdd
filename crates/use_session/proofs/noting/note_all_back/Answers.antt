use Rattle.std.proofs.Common.{◌≡◌, ◌+◌, ◌-◌, ◌<◌, length, arith}
use Rattle.use_session.proofs.Noted.{back_all, back_more, back_none}
use Rattle.use_session.proofs.noting.note_all_back.Goals as goal

pub changes-init : goal.changes-init
changes-init c = record {
  within = omega arith;
  back = back_none c.args.model.now c.args.structure.now c.args.changes.now (length c.args.changes.now) (omega arith);
}

pub changes-preserved : goal.changes-preserved
changes-preserved c =
    let all = c.args.changes.now in
    let n = c.changes.left - 1 in
    let some : 0 < c.changes.left = c.changes-test.true in
    let back : c.changes.left ≡ n + 1 = omega (arith, some) in
    let within : n < length all = omega (arith, some, c.changes.invariant.within) in
    record {
      within = omega (arith, within);
      back = back_more c.args.model.now c.args.structure.now c.changes.structure _ all c.changes.left n c.index-changes-left.result back within
          c.index-changes-left.is c.changes.invariant.back c.in_ok-note_back.ensures;
    }

pub returns : goal.returns
returns c = back_all c.args.model.now c.args.structure.now _ c.args.changes.now c.changes.left (omega arith) c.changes.invariant.back
