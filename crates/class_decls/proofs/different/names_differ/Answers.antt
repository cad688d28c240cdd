use Rattle.std.proofs.Common.{Bool, ◌∙◌, ap, refl, sym}
use Rattle.std.specs.List.{list_all}
use Rattle.std.proofs.lemmas.List.Folds.{list_all-map}
use Rattle.class_decls.specs.declared.decls.OpDecl.{OpDecl}
use Rattle.class_decls.specs.Different.{all_differ, param_texts}
use Rattle.class_decls.proofs.different.names_differ.Goals as goal

pub returns-then-not-types : goal.returns-then-not-types
returns-then-not-types c = rw (sym c.in_ok-types.ensures ∙ c.if-not-types.true) refl

pub returns-then-not-literals : goal.returns-then-not-literals
returns-then-not-literals c =
    rw (sym c.in_ok-types.ensures ∙ c.if-not-types.false, sym (rw c.as_slice.ensures at c.in_ok-literals.ensures) ∙ c.if-not-literals.true) refl

pub returns-then-not-params : goal.returns-then-not-params
returns-then-not-params c =
    let test : OpDecl → Bool = λ op. all_differ (param_texts op) in
    let params = sym (ap (list_all test) c.requires) ∙ list_all-map test (λ h. h.now) c.args.ops.now ∙ sym c.in_ok-params.ensures in
    rw (sym c.in_ok-types.ensures ∙ c.if-not-types.false, sym (rw c.as_slice.ensures at c.in_ok-literals.ensures) ∙ c.if-not-literals.false, params ∙ c.if-not-params.true)
    refl

pub returns : goal.returns
returns c =
    let test : OpDecl → Bool = λ op. all_differ (param_texts op) in
    let params = sym (ap (list_all test) c.requires) ∙ list_all-map test (λ h. h.now) c.args.ops.now ∙ sym c.in_ok-params.ensures in
    rw (sym c.in_ok-types.ensures ∙ c.if-not-types.false, sym (rw c.as_slice.ensures at c.in_ok-literals.ensures) ∙ c.if-not-literals.false, params ∙ c.if-not-params.false)
    (rw c.as_slice-2.ensures at c.conds_differ.ensures)
