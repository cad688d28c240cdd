use Rattle.std.proofs.Common.{◌++◌, ◌<◌, length, subst, sym, ap, ◌∙◌}
use Rattle.std.specs.Prelude.{codes}
use Rattle.std.specs.List.{All, flat_map}
use Rattle.std.proofs.lemmas.Result.{on_ok_weaker}
use Rattle.std.proofs.lemmas.List.{length-map}
use Rattle.ocl_values.specs.declared.value.Value.TheVariants.{Obj}
use Rattle.ocl_values.proofs.Texts.{gathered}
use Rattle.object_state.specs.Looks.{extent}
use Rattle.use_info.specs.Classes.{attribute_line, operation_line}
use Rattle.use_info.specs.Counts.{count_line}
use Rattle.use_info.proofs.Numbers.{attrs-among, ops-among}
use Rattle.use_info.proofs.class_info.append_class.Goals as goal

pub append_attributes-requires : goal.append_attributes-requires
append_attributes-requires g c = subst (All (λ a. a < length c.args.model.now.attrs)) (sym c.attrs.ensures) (attrs-among c.args.model.now c.args.class)

pub append_operations-requires : goal.append_operations-requires
append_operations-requires g c = subst (All (λ o. o < length c.args.model.now.ops)) (sym c.ops.ensures) (ops-among c.args.model.now c.args.class)

pub returns : goal.returns
returns g c =
    let m = c.args.model.now in
    let d = g.S.StateReader.held c.args.state.now in
    on_ok_weaker c.append_count.result
    (λ last.
    gathered _ _ _ _ _ _ _ _ _ c.in_ok-append_class_line.ensures
    (c.in_ok-append_attributes.ensures ∙ ap (λ l. c.append_class_line.new.out.items ++ flat_map (attribute_line m) l) c.attrs.ensures)
    (c.in_ok-append_operations.ensures ∙ ap (λ l. c.append_attributes.new.out.items ++ flat_map (operation_line m) l) c.ops.ensures)
    (last
    ∙ ap (λ n. c.append_operations.new.out.items ++ count_line (codes "instances") n)
    (c.len.ensures ∙ ap length c.in_ok-instances.ensures ∙ length-map (extent d.layout d.state c.args.class) Obj
    ∙ ap (λ l. length (extent l d.state c.args.class)) c.requires.layout)))
    c.append_count.ensures
