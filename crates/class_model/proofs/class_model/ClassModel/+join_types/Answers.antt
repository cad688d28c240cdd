use Rattle.std.proofs.Common.{◌≡◌, ◌∙◌, IfOk, cond, sym, subst, ap, ap₂, rules}
use Rattle.class_model.specs.Conformance.{join}
use Rattle.class_model.specs.declared.types.OclType.{OclType}
use Rattle.class_model.specs.declared.types.OclType.TheVariants as T
use Rattle.class_model.proofs.TypeCases.{apart, apart_other, coll_apart, join_apart, join_first, join_second, no_class}
use Rattle.class_model.proofs.class_model.ClassModel.+join_types.Goals as goal
use Rattle.class_model.proofs.class_model.ClassModel.+join_types.Goals.{in_default-via-in-Class+in_default, in_default-via-in-Coll-Coll+else-eq, in_default-via-in-Coll+in_default, in_default-via-in_default}

pub returns-then-conforms : goal.returns-then-conforms
returns-then-conforms t c =
    subst (λ (x : OclType). IfOk c.try_copy.result (λ y. y ≡ x))
    (sym (join_first c.args.self.now c.args.a.now c.args.b.now (sym c.conforms.ensures ∙ c.if-conforms.true))) c.try_copy.ensures

pub returns-then-conforms-2 : goal.returns-then-conforms-2
returns-then-conforms-2 t c =
    subst (λ (x : OclType). IfOk c.try_copy-then-conforms-2.result (λ y. y ≡ x))
    (sym (join_second c.args.self.now c.args.a.now c.args.b.now (sym c.conforms.ensures ∙ c.if-conforms.false)
    (sym c.conforms-2.ensures ∙ c.if-conforms-2.true))) c.try_copy-then-conforms-2.ensures

pub returns-in_ok-new-in-Coll-Coll : goal.returns-in_ok-new-in-Coll-Coll
returns-in_ok-new-in-Coll-Coll t c =
    let m = c.args.self.now in
    let x = c.in-Coll-Coll.a in
    let y = c.in-Coll-Coll.b in
    let kind = c.in-Coll-Coll.kind in
    ap (T.Coll kind) (c.in_ok-new-in-Coll-Coll.ensures ∙ c.in_ok-element-in-Coll-Coll.ensures ∙ ap₂ (join m) c.get.ensures c.get-in-Coll-Coll.ensures)
    ∙ sym (join_apart m c.args.a.now c.args.b.now (sym c.conforms.ensures ∙ c.if-conforms.false) (sym c.conforms-2.ensures ∙ c.if-conforms-2.false)
    ∙ ap₂ (apart m) c.in-Coll-Coll.is-0 c.in-Coll-Coll.is-1 ∙ coll_apart m kind c.in-Coll-Coll.other x y
    ∙ ap (λ e. cond e (T.Coll kind (join m x y)) T.Any) (sym c.eq.ensures ∙ c.if-eq.true))

pub returns-in_default : goal.returns-in_default
returns-in_default t c =
    let m = c.args.self.now in
    let e : T.Any ≡ apart m c.args.a.now c.args.b.now =
    elim c.in_default.branch [
      | in_default-via-in-Class+in_default w ↦ apart_other m c.args.a.now c.args.b.now (λ x y ea eb. w.in_default.not-Class-1 y eb)
          (λ k l x y ea eb. no_class w.in_default.field-0-0 k x (sym w.in_default.is-0 ∙ ea))
      | in_default-via-in-Coll-Coll+else-eq w ↦
          sym (ap₂ (apart m) w.in-Coll-Coll.is-0 w.in-Coll-Coll.is-1 ∙ coll_apart m w.in-Coll-Coll.kind w.in-Coll-Coll.other w.in-Coll-Coll.a w.in-Coll-Coll.b
          ∙ ap (λ e. cond e (T.Coll w.in-Coll-Coll.kind (join m w.in-Coll-Coll.a w.in-Coll-Coll.b)) T.Any) (sym w.eq.ensures ∙ w.if-eq.false))
      | in_default-via-in-Coll+in_default w ↦ apart_other m c.args.a.now c.args.b.now
          (λ x y ea eb. no_class x w.in_default.field-0-0 w.in_default.field-1-0 (sym ea ∙ w.in_default.is-0)) (λ k l x y ea eb. w.in_default.not-Coll-1 l y eb)
      | in_default-via-in_default w ↦ apart_other m c.args.a.now c.args.b.now (λ x y ea eb. w.in_default.not-Class-0 x ea)
          (λ k l x y ea eb. w.in_default.not-Coll-0 k x ea)
    ] in
    e ∙ sym (join_apart m c.args.a.now c.args.b.now (sym c.conforms.ensures ∙ c.if-conforms.false) (sym c.conforms-2.ensures ∙ c.if-conforms-2.false))
