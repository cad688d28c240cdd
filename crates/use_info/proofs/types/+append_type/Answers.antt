use Rattle.std.proofs.Common.{◌++◌, ap, sym, ◌∙◌}
use Rattle.std.proofs.lemmas.Result.{on_ok_weaker}
use Rattle.ocl_values.proofs.Texts.{gathered}
use Rattle.use_info.specs.TypeTexts.{type_text}
use Rattle.use_info.proofs.Pieces.{type_text-coll}
use Rattle.use_info.proofs.types.+append_type.Goals as goal

pub returns-in_ok-append_type-in-Coll : goal.returns-in_ok-append_type-in-Coll
returns-in_ok-append_type-in-Coll t c =
    let m = c.args.model.now in
    on_ok_weaker c.append-in-Coll-3.result
    (λ last.
    gathered _ _ _ _ _ _ _ _ _ (c.in_ok-append-in-Coll.ensures ∙ ap (λ k. c.args.out.now.items ++ k) c.kind_name.ensures) c.in_ok-append-in-Coll-2.ensures
    (c.in_ok-append_type-in-Coll.ensures ∙ ap (λ e. c.append-in-Coll-2.new.out.items ++ type_text m e) c.get.ensures) last
    ∙ ap (λ x. c.args.out.now.items ++ x) (sym (ap (type_text m) c.in-Coll.is ∙ type_text-coll m c.in-Coll.kind c.in-Coll.element)))
    c.append-in-Coll-3.ensures
