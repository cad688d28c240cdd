use Rattle.std.proofs.Common.{◌≡◌, ◌-◌, [], ◌∷◌, ◌++◌, IfOk, subst, sym, ap, ◌∙◌}
use Rattle.use_decls.specs.Types.{type_at, type_in, type_of_node}
use Rattle.use_decls.proofs.Nested.{one_deeper}
use Rattle.use_decls.proofs.types.+type_in.Goals as goal

pub returns-in-None : goal.returns-in-None
returns-in-None t c =
    let l = c.args.lexed.now in
    let outer = c.args.outer in
    let node = c.args.node.now in
    let same = one_deeper c.args.depth l outer node c.if-depth-eq0.false
    ∙ ap (type_of_node (type_in (c.args.depth - 1) l) l outer node) (sym c.of.ensures ∙ c.in-None.is) in
    subst (λ d. IfOk c.named_type-in-None.result (λ r. r ≡ d)) (sym same) c.named_type-in-None.ensures

pub returns-in-None-element : goal.returns-in-None-element
returns-in-None-element t c =
    let l = c.args.lexed.now in
    let outer = c.args.outer in
    let node = c.args.node.now in
    let inside = type_in (c.args.depth - 1) l in
    let same = one_deeper c.args.depth l outer node c.if-depth-eq0.false
    ∙ ap (type_of_node inside l outer node) (sym c.of.ensures ∙ c.in-Some.is)
    ∙ ap (type_at inside l outer c.in-Some.node) c.in-None-element.is in
    subst (λ d. IfOk c.named_type-in-None-element.result (λ r. r ≡ d)) (sym same) c.named_type-in-None-element.ensures

pub returns-in_ok-push-in-Some-element : goal.returns-in_ok-push-in-Some-element
returns-in_ok-push-in-Some-element t c =
    let l = c.args.lexed.now in
    let outer = c.args.outer in
    let node = c.args.node.now in
    let inside = type_in (c.args.depth - 1) l in
    let element = c.in-Some-element.element in
    let same = one_deeper c.args.depth l outer node c.if-depth-eq0.false
    ∙ ap (type_of_node inside l outer node) (sym c.of.ensures ∙ c.in-Some.is)
    ∙ ap (type_at inside l outer c.in-Some.node) c.in-Some-element.is
    ∙ ap (λ k. inside (outer ++ k ∷ []) element) (sym c.kind_at.ensures)
    ∙ ap (λ o. inside o element) (sym c.in_ok-push-in-Some-element.ensures.ok) in
    subst (λ d. IfOk c.type_in.result (λ r. r ≡ d)) (sym same) c.type_in.ensures
