use Rattle.std.proofs.Common.{◌≡◌, length, ◌≤◌, arith}
use Rattle.class_model.proofs.OnlyLiterals.{all_tables, no_tables, one_table}
use Rattle.class_model.proofs.literals.literals_by_name.Goals as goal

pub enums-init : goal.enums-init
enums-init c = rw c.new-tables.ensures.items (no_tables c.args.enums.now)

pub enums-preserved : goal.enums-preserved
enums-preserved c =
    rw c.in_ok-push.ensures.items
    (one_table c.args.enums.now c.enums.tables.items c.enums.enumeration-index c.in_ok-table.table c.enumeration-item.result c.enums.invariant
    c.enums-test.true c.enumeration-item.is
    (rw c.as_slice.ensures at c.in_ok-table.ensures))

pub returns : goal.returns
returns c =
    let e : c.enums.enumeration-index ≡ length c.args.enums.now = omega arith in
    all_tables c.args.enums.now c.enums.tables.items c.enums.enumeration-index c.enums.invariant e
