use Rattle.std.proofs.Common.{◌∙◌, ◌+◌, ◌&&◌, ◌||◌, [], Bor, List, ℕ, ap, ap₂, get_or, not, sym}
use Rattle.class_decls.specs.Texts.{same_text}
use Rattle.class_decls.proofs.Distinct.{differ_next, differ_past, has_next}
use Rattle.class_decls.proofs.different.all_differ.Goals as goal

-- what stands past the end of a list of texts
abbrev no_text : Bor (List ℕ)
no_text = record { ref_ptr = (0, 0); now = [] }

pub returns-then-not-new : goal.returns-then-not-new
returns-then-not-new c =
    let w = get_or c.args.texts.now c.texts.text-index no_text in
    let met = ap not (sym (c.texts.invariant.0 w.now)) ∙ sym c.in_ok-new.ensures.new ∙ c.if-not-new.true in
    sym
    (differ_past c.args.texts.now (λ x. x.now) (c.texts.text-index + 1)
    (differ_next c.args.texts.now (λ x. x.now) c.texts.text-index no_text c.texts-test.true
    ∙ ap₂ (λ a b. a && b) c.texts.invariant.1 met))

pub texts-preserved : goal.texts-preserved
texts-preserved c =
    let w = get_or c.args.texts.now c.texts.text-index no_text in
    let new = ap not (sym (c.texts.invariant.0 w.now)) ∙ sym c.in_ok-new.ensures.new ∙ c.if-not-new.false in (
      (λ t. c.in_ok-new.ensures.names t ∙ ap (λ b. b || same_text w.now t) (c.texts.invariant.0 t)
          ∙ sym (has_next c.args.texts.now (λ x. x.now) c.texts.text-index no_text t c.texts-test.true)),
      differ_next c.args.texts.now (λ x. x.now) c.texts.text-index no_text c.texts-test.true
          ∙ ap₂ (λ a b. a && b) c.texts.invariant.1 new,
    )
