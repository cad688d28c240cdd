use Rattle.std.proofs.Common.{◌∙◌, ◌||◌, ap}
use Rattle.std.specs.List.{list_any}
use Rattle.class_decls.specs.Texts.{same_text}
use Rattle.class_decls.proofs.references.type_names.Goals as goal

pub returns : goal.returns
returns c = λ t.
    let enums = list_any (λ e. same_text e.name.text t) c.args.decls.now.enums in
    let classes = list_any (λ d. same_text d.name.text t) c.args.decls.now.classes in
    rw c.as_slice-2.ensures at (c.in_ok-add_names-2.ensures t)
    ∙ ap (λ b. b || classes)
    (rw c.as_slice.ensures at (c.in_ok-add_names.ensures t)
    ∙ ap (λ b. b || enums) (rw c.new-names.ensures at (c.in_ok-add_texts.ensures t)))
