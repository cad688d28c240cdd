use Rattle.std.proofs.Common.{ap, sym, ◌∙◌, ◌++◌, map}
use Rattle.std.specs.List.{join_with_byte}
use Rattle.ocl_values.specs.Printing.{value_text}
use Rattle.ocl_values.proofs.Texts.{value_text-Coll, gathered, followed, joined_more}
use Rattle.ocl_values.proofs.printing.+print.Goals as goal

pub print-returns-in_ok-append-in-Coll-3 : goal.print-returns-in_ok-append-in-Coll-3
print-returns-in_ok-append-in-Coll-3 g t c =
    let object = g.N.Names.object_name c.args.names.now in
    let literal = g.N.Names.literal_name c.args.names.now in
    gathered _ _ _ _ _ _ _ _ _ (c.in_ok-append-in-Coll.ensures ∙ ap (λ k. c.args.out.now.items ++ k) c.kind_name.ensures) c.in_ok-append-in-Coll-2.ensures
    (c.in_ok-print_elements-in-Coll.ensures
    ∙ ap (λ all. c.append-in-Coll-2.new.out.items ++ join_with_byte 44 (map (value_text object literal) all)) c.as_slice.ensures)
    c.in_ok-append-in-Coll-3.ensures
    ∙ ap (λ x. c.args.out.now.items ++ x) (sym (ap (value_text object literal) c.in-Coll.is ∙ value_text-Coll object literal c.in-Coll.kind c.in-Coll.items))

pub print_elements-each-preserved : goal.print_elements-each-preserved
print_elements-each-preserved g t c =
    let f = value_text (g.N.Names.object_name c.args.names.now) (g.N.Names.literal_name c.args.names.now) in
    followed _ _ _ _ _ _ _ c.each.invariant c.in_ok-append_separator.ensures c.in_ok-print.ensures
    ∙ ap (λ x. c.args.out.now.items ++ x) (sym (joined_more f c.args.all.now c.each.at c.index-all-at.result c.each-test.true c.index-all-at.is))
