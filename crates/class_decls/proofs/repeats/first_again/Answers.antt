use Rattle.std.proofs.Common.{refl, ◌≡◌, ◌-◌, suc, length, sym, ap, ◌∙◌, true, false, arith}
use Rattle.class_decls.specs.Entries.{first_place, is_same_name}
use Rattle.class_decls.proofs.Repeated.{again-drop, again-end}
use Rattle.class_decls.proofs.repeats.first_again.Goals as goal

pub entries-init : goal.entries-init
entries-init c = (sym (ap first_place (again-end c.args.sorted.now (length c.args.sorted.now - 1) (omega arith))), omega arith)

pub entries-preserved : goal.entries-preserved
entries-preserved c =
    let next : c.entries.i - 1 ≡ suc (c.entries.i - 1 - 1) = omega arith in
    let here = again-drop c.args.sorted.now _ _ _ _ next (omega arith) c.index-sorted-i-in-entries.is c.index-sorted-i.is in
    let other : is_same_name c.index-sorted-i-in-entries.result c.index-sorted-i.result ≡ false = sym c.is_same_name.ensures ∙ c.if-is_same_name.false in
    (rw (here, other) c.entries.invariant.0, omega arith)

pub entries-preserved-then-is_same_name : goal.entries-preserved-then-is_same_name
entries-preserved-then-is_same_name c =
    let next : c.entries.i - 1 ≡ suc (c.entries.i - 1 - 1) = omega arith in
    let here = again-drop c.args.sorted.now _ _ _ _ next (omega arith) c.index-sorted-i-in-entries.is c.index-sorted-i.is in
    let same : is_same_name c.index-sorted-i-in-entries.result c.index-sorted-i.result ≡ true = sym c.is_same_name.ensures ∙ c.if-is_same_name.true in
    (rw (here, same, c.earlier.ensures, c.entries.invariant.0) refl, omega arith)
