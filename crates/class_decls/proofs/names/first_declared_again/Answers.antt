use Rattle.std.proofs.Common.{◌∙◌, ap, []}
use Rattle.class_decls.specs.Entries.{declared_again}
use Rattle.class_decls.specs.Names.{numbered, params_of, type_entries}
use Rattle.class_decls.proofs.Joined.{joined4}
use Rattle.class_decls.proofs.Numbered.{numbered-map}
use Rattle.class_decls.proofs.names.first_declared_again.Goals as goal

pub returns : goal.returns
returns c =
    let params = numbered-map params_of (λ h. h.now) c.args.ops.now ∙ ap (numbered params_of) c.requires in
    c.in_ok-place.ensures ∙ ap declared_again
    (joined4 [] (type_entries c.args.decls.now) _ _ _ _ _ _ _
    (rw c.new-names.ensures.items at c.in_ok-add_types.ensures)
    (rw c.as_slice.ensures at c.in_ok-add_literals.ensures)
    (rw params at c.in_ok-add_params.ensures)
    (rw (c.as_slice-2.ensures, c.as_slice-3.ensures) at c.in_ok-add_conds.ensures))
