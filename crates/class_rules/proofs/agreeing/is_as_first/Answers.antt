use Rattle.std.proofs.Common.{◌∙◌}
use Rattle.class_rules.proofs.Signatures.{at_place, nowhere, past}
use Rattle.class_rules.proofs.agreeing.is_as_first.Goals as goal

pub returns-in-None : goal.returns-in-None
returns-in-None c = nowhere (λ op. op.now) c.args.ops.now c.args.op.now (c.in-None.ensures ∙ c.requires c.args.op.now.name.text)

pub returns-in-None-get : goal.returns-in-None-get
returns-in-None-get c =
    past (λ op. op.now) c.args.ops.now c.args.op.now c.in-Some.place (c.in-Some.ensures
    ∙ c.requires c.args.op.now.name.text) c.in-None-get.ensures.lookup.3

pub returns-in-Some-get : goal.returns-in-Some-get
returns-in-Some-get c =
    c.same_signature.ensures
    ∙ at_place (λ op. op.now) c.args.ops.now c.args.op.now c.in-Some.place c.in-Some-get.first.now (c.in-Some.ensures
    ∙ c.requires c.args.op.now.name.text)
    c.in-Some-get.ensures.lookup.3.0 c.in-Some-get.ensures.lookup.1
