use Rattle.std.proofs.Common.{sym, ap, ◌∙◌}
use Rattle.class_rules.specs.Features.{attrs_of}
use Rattle.use_orders.specs.Canon.{all_differ}
use Rattle.class_decls.proofs.TextSets.{text_cmp}
use Rattle.class_rules.specs.Agreeing.{all_ops, bodies_agree, signatures_agree}
use Rattle.class_rules.proofs.Signatures.{no_change, no_mixture}
use Rattle.class_rules.proofs.Skipped.{no_attribute_twice, no_clash, none_ambiguous_at_all}
use Rattle.class_rules.proofs.unbroken.is_unbroken.Goals as goal

pub returns-in_ok-differ-in-AttributeMetTwice : goal.returns-in_ok-differ-in-AttributeMetTwice
returns-in_ok-differ-in-AttributeMetTwice c = λ h.
    rw c.in-AttributeMetTwice.is
    (no_attribute_twice c.args.hierarchy.now
    (ap (λ d. all_differ text_cmp (attrs_of d.classes)) (sym c.decls-decls.ensures)
    ∙ sym (rw c.as_slice.ensures at c.in_ok-differ-in-AttributeMetTwice.ensures) ∙ h))

pub returns-in-RoleClashes : goal.returns-in-RoleClashes
returns-in-RoleClashes c = λ h.
    rw c.in-RoleClashes.is (no_clash c.args.hierarchy.now (ap (λ d. d.assocs) (sym c.decls-decls.ensures) ∙ c.is_empty.ensures.0 h))

pub returns-in-OperationAmbiguous : goal.returns-in-OperationAmbiguous
returns-in-OperationAmbiguous c = λ h. rw c.in-OperationAmbiguous.is (none_ambiguous_at_all c.args.hierarchy.now (sym c.inherits_singly.ensures ∙ h))

pub returns-in_ok-agree-in-SignatureChanges : goal.returns-in_ok-agree-in-SignatureChanges
returns-in_ok-agree-in-SignatureChanges c = λ h.
    rw c.in-SignatureChanges.is
    (no_change c.args.hierarchy.now
    (ap (λ d. signatures_agree (all_ops d.classes)) (sym c.decls-decls.ensures)
    ∙ sym (rw c.as_slice-in-SignatureChanges.ensures at c.in_ok-agree-in-SignatureChanges.ensures) ∙ h))

pub returns-in_ok-agree-in-BodiesMixed : goal.returns-in_ok-agree-in-BodiesMixed
returns-in_ok-agree-in-BodiesMixed c = λ h.
    rw c.in-BodiesMixed.is
    (no_mixture c.args.hierarchy.now
    (ap (λ d. bodies_agree (all_ops d.classes)) (sym c.decls-decls.ensures)
    ∙ sym (rw c.as_slice-in-BodiesMixed.ensures at c.in_ok-agree-in-BodiesMixed.ensures) ∙ h))
