use Rattle.std.proofs.Common.{◌≡◌, ◌+◌, take, sym, ◌∙◌, arith}
use Rattle.class_decls.specs.Texts.{same_text}
use Rattle.class_rules.proofs.PlacedClasses.{position_more}
use Rattle.class_rules.proofs.Signatures.{position_of}
use Rattle.class_rules.proofs.agreeing.first_places.Goals as goal

pub ops-preserved : goal.ops-preserved
ops-preserved c = λ t.
    let z : 0 + c.ops.i ≡ c.ops.i = omega arith in
    c.in_ok-add_place.ensures t
    ∙ rw (
      c.ops.invariant t,
      position_of (λ op. op.now) (λ op. same_text op.name.text t) 0
          (take c.ops.i c.args.ops.now),
      c.as_str.ensures,
    )
    (sym (position_of (λ op. op.now) (λ op. same_text op.name.text t) 0 (take (c.ops.i + 1) c.args.ops.now)
    ∙ rw z at (position_more (λ op. same_text op.now.name.text t) 0 c.args.ops.now c.ops.i _ c.ops-test.true c.index-ops-i.is)))
