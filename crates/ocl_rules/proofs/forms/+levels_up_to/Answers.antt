use Rattle.std.proofs.Common.{◌∙◌, sym, ap, ◌+◌, ◌-◌, min}
use Rattle.ocl_rules.specs.Forms.{levels}
use Rattle.ocl_rules.proofs.TypeCases.{levels_of_coll, min_of_one_more}
use Rattle.ocl_rules.proofs.forms.+levels_up_to.Goals as goal

pub returns-else-most-eq0 : goal.returns-else-most-eq0
returns-else-most-eq0 t c =
    ap (λ n. n + 1) (c.levels_up_to.ensures ∙ ap (λ e. min (levels e) (c.args.most - 1)) c.get.ensures)
    ∙ min_of_one_more (levels c.in-Coll.element) c.args.most c.if-most-eq0.false
    ∙ sym (ap (λ e. min (levels e) c.args.most) c.in-Coll.is ∙ ap (λ n. min n c.args.most) (levels_of_coll c.in-Coll.field-0 c.in-Coll.element))
