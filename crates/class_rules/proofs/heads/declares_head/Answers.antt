use Rattle.std.proofs.Common.{sym, ap, ◌∙◌}
use Rattle.std.specs.Option.{option_copied}
use Rattle.class_rules.proofs.ByName.{head_found, head_missing}
use Rattle.class_rules.proofs.heads.declares_head.Goals as goal

pub returns-in-None-get : goal.returns-in-None-get
returns-in-None-get c =
    head_missing c.args.declared.now c.declared.inside.ops (rw (← c.declared.view_is) c.declared.invariant.each) c.args.class.now c.args.head.now
    c.in-Some.place
    (rw (← c.declared.view_is) (sym (c.declared.invariant.placed c.args.class.now) ∙ sym c.place_of.ensures ∙ c.in-Some.is))
    (sym c.get.ensures.value ∙ ap option_copied c.in-None-get.is)

pub returns-in-Some-get : goal.returns-in-Some-get
returns-in-Some-get c =
    rw (c.has_signature.ensures, c.of_name.ensures)
    (head_found c.args.declared.now c.declared.inside.ops (rw (← c.declared.view_is) c.declared.invariant.each) c.args.class.now c.args.head.now
    c.in-Some.place
    (rw (← c.declared.view_is) (sym (c.declared.invariant.placed c.args.class.now) ∙ sym c.place_of.ensures ∙ c.in-Some.is))
    c.in-Some-get.ops.now (sym c.get.ensures.value ∙ ap option_copied c.in-Some-get.is))
