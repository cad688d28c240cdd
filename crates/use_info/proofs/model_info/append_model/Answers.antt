use Rattle.std.proofs.Common.{◌≡◌, ◌++◌, ap, ◌∙◌, length}
use Rattle.std.specs.Prelude.{codes}
use Rattle.std.proofs.lemmas.Result.{on_ok_weaker}
use Rattle.class_model.specs.declared.object_model.ObjectModel.{ObjectModel}
use Rattle.use_info.specs.Counts.{count_line}
use Rattle.use_info.proofs.Pieces.{six-more}
use Rattle.use_info.proofs.model_info.append_model.Goals as goal

pub returns : goal.returns
returns c =
    let same : c.as_model-model.result.now ≡ c.args.program.now.model = c.as_model-model.ensures ∙ c.model.ensures in
    on_ok_weaker c.append_count-4.result
    (λ last.
    six-more _ _ _ _ _ _ _ _ _ _ _ _ _ _ _ c.in_ok-append.ensures
    (c.in_ok-append-2.ensures ∙ ap (λ t. c.append.new.out.items ++ t) (c.as_str.ensures ∙ ap (λ (m : ObjectModel). m.name) same))
    c.in_ok-append-3.ensures
    (c.in_ok-append_count.ensures
    ∙ ap (λ n. c.append-3.new.out.items ++ count_line (codes "enums") n) (c.len.ensures ∙ ap (λ (m : ObjectModel). length m.enums) same))
    (c.in_ok-append_count-2.ensures
    ∙ ap (λ n. c.append_count.new.out.items ++ count_line (codes "classes") n) (c.len-2.ensures ∙ ap (λ (m : ObjectModel). length m.classes) same))
    (c.in_ok-append_count-3.ensures
    ∙ ap (λ n. c.append_count-2.new.out.items ++ count_line (codes "associations") n) (c.len-3.ensures ∙ ap (λ (m : ObjectModel). length m.assocs) same))
    (last ∙ ap (λ l. c.append_count-3.new.out.items ++ count_line (codes "invariants") (length l)) c.invariants.ensures))
    c.append_count-4.ensures
