use Rattle.std.proofs.Common.{◌≡◌, true, false, refl, sym, ◌∙◌, arith}
use Rattle.class_decls.specs.Texts.{has_text}
use Rattle.class_decls.proofs.Backward.{drop_all, drop_before}
use Rattle.class_decls.proofs.references.first_outside.Goals as goal

pub names-init : goal.names-init
names-init c = (rw drop_all refl, omega arith)

pub names-preserved-then-not-contains : goal.names-preserved-then-not-contains
names-preserved-then-not-contains c =
    let outside : has_text c.args.known.now c.index-names-i.result.now.text ≡ false = sym c.contains.ensures ∙ c.if-not-contains.true in
    (rw (drop_before _ _ _ c.names-test.true c.names.invariant.1 c.index-names-i.is, outside, c.earlier.ensures, c.names.invariant.0) refl, omega arith)

pub names-preserved : goal.names-preserved
names-preserved c =
    let inside : has_text c.args.known.now c.index-names-i.result.now.text ≡ true = sym c.contains.ensures ∙ c.if-not-contains.false in
    (rw (drop_before _ _ _ c.names-test.true c.names.invariant.1 c.index-names-i.is, inside) c.names.invariant.0, omega arith)
