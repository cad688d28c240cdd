use Rattle.std.proofs.Common.{Some, None, ap, arith, cond, length, sym, ◌∙◌}
use Rattle.std.specs.Option.{option_or}
use Rattle.class_decls.specs.Texts.{same_text}
use Rattle.soil_scope.proofs.Slots.{on_ok, slot_behind}
use Rattle.soil_scope.proofs.shell.note_slot.Goals as goal

pub returns : goal.returns
returns c =
    on_ok c.add_first.result
    (λ put more t.
    put t ∙ ap (λ o. option_or o (cond (same_text c.args.name.now t) (Some (length c.args.names.now)) None)) (c.in_ok-fill.ensures (omega (arith, c.if-names-lt-FEW.false)) t)
    ∙ sym (slot_behind c.args.names.now c.args.name.now t))
    c.add_first.ensures
