use Rattle.std.proofs.Common.{◌≡◌, ◌++◌, [], ◌∷◌, IfOk, subst, sym, ap, ◌∙◌}
use Rattle.ocl_syntax.specs.declared.layer.Behind.TheVariants.{Step}
use Rattle.ocl_syntax.specs.declared.layer.Piece.TheVariants.{Node, Row}
use Rattle.ocl_syntax.specs.Expressions.{layered}
use Rattle.ocl_syntax.specs.Layers.{node_layer}
use Rattle.ocl_syntax.proofs.Fuel.{at_binds, at_node, at_row, expression_none}
use Rattle.ocl_syntax.proofs.Rows.{row_last}
use Rattle.ocl_syntax.proofs.expression.+expression.Goals as goal

pub at_node-returns-in-None : goal.at_node-returns-in-None
at_node-returns-in-None t c =
    c.left_out.ensures ∙ sym (expression_none c.args.fuel c.args.lexed.now c.args.levels (Node c.args.node.now) (sym c.deeper.ensures.value ∙ c.in-None.is))

pub at_node-returns-in-Some : goal.at_node-returns-in-Some
at_node-returns-in-Some t c =
    let there = at_node c.args.fuel c.in-Some.fuel c.args.lexed.now c.args.levels c.args.node.now (sym c.deeper.ensures.value ∙ c.in-Some.is)
    ∙ ap (λ n. layered c.in-Some.fuel c.args.lexed.now c.args.levels (node_layer c.args.lexed.now n)) (sym c.plain.ensures) in
    subst (λ e. IfOk c.of_node.result (λ w. w ≡ e)) (sym there) c.of_node.ensures

pub at_row-returns-in-None : goal.at_row-returns-in-None
at_row-returns-in-None t c =
    c.left_out.ensures
    ∙ sym (expression_none c.args.fuel c.args.lexed.now c.args.levels (Row c.args.first c.args.behind) (sym c.deeper.ensures.value ∙ c.in-None.is))

pub at_row-returns-in-Some : goal.at_row-returns-in-Some
at_row-returns-in-Some t c =
    let there = at_row c.args.fuel c.in-Some.fuel c.args.lexed.now c.args.levels c.args.first c.args.behind (sym c.deeper.ensures.value ∙ c.in-Some.is) in
    subst (λ e. IfOk c.of_row.result (λ w. w ≡ e)) (sym there) c.of_row.ensures

pub at_piece-returns-in-None : goal.at_piece-returns-in-None
at_piece-returns-in-None t c =
    c.left_out.ensures ∙ sym (expression_none c.args.fuel c.args.lexed.now c.args.levels c.args.piece (sym c.deeper.ensures.value ∙ c.in-None.is))

pub at_piece-returns-in-Some : goal.at_piece-returns-in-Some
at_piece-returns-in-Some t c =
    let there = at_binds c.args.fuel c.in-Some.fuel c.args.lexed.now c.args.levels c.in-Binds.word c.in-Binds.binds c.in-Binds.body
    (sym c.deeper.ensures.value ∙ c.in-Some.is) in
    rw c.in-Binds.is (subst (λ e. IfOk c.of_binds.result (λ w. w ≡ e)) (sym there) c.of_binds.ensures)

pub of_row-returns-in-Some-Step : goal.of_row-returns-in-Some-Step
of_row-returns-in-Some-Step t c =
    let whole = row_last c.args.lexed.now c.args.first c.args.behind c.pop.new.self (Step c.in-Some-Step.node)
    (c.in-Some-Step.ensures ∙ ap (λ x. c.pop.new.self ++ x ∷ []) c.in-Some-Step.field-0-is) in
    subst (λ y. IfOk c.of_step.result (λ w. w ≡ layered c.args.fuel c.args.lexed.now c.args.levels y)) (sym whole) c.of_step.ensures
