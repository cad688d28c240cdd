use Rattle.std.proofs.Common.{◌∙◌, ◌&&◌, sym, ap, ap₂}
use Rattle.class_model.specs.Conformance.{conforms}
use Rattle.class_model.proofs.TypeCases.{coll_conforms}
use Rattle.class_model.proofs.class_model.ClassModel.+conforms.Goals as goal

pub returns-then-eq : goal.returns-then-eq
returns-then-eq t c =
    let m = c.args.self.now in
    c.conforms.ensures ∙ ap₂ (conforms m) c.get.ensures c.get-then-eq.ensures
    ∙ sym (ap₂ (conforms m) c.in-Coll-Coll.is-0 c.in-Coll-Coll.is-1
    ∙ coll_conforms m c.in-Coll-Coll.kind c.in-Coll-Coll.other c.in-Coll-Coll.a c.in-Coll-Coll.b
    ∙ ap (λ e. e && conforms m c.in-Coll-Coll.a c.in-Coll-Coll.b) (sym c.eq.ensures ∙ c.if-eq.true))

pub returns-else-eq : goal.returns-else-eq
returns-else-eq t c =
    let m = c.args.self.now in
    c.if-eq.false
    ∙ sym (ap₂ (conforms m) c.in-Coll-Coll.is-0 c.in-Coll-Coll.is-1
    ∙ coll_conforms m c.in-Coll-Coll.kind c.in-Coll-Coll.other c.in-Coll-Coll.a c.in-Coll-Coll.b
    ∙ ap (λ e. e && conforms m c.in-Coll-Coll.a c.in-Coll-Coll.b) (sym c.eq.ensures ∙ c.if-eq.false))
