use Rattle.std.proofs.Common.{rules, sym, ap, ◌∙◌}
use Rattle.std.specs.Option.{option_map_or}
use Rattle.ocl_syntax.specs.Plain.{plain}
use Rattle.ocl_syntax.proofs.Passing.{fewer_passes, plain_next}
use Rattle.ocl_syntax.proofs.plain.+plain.Goals as goal

pub plain-requires : goal.plain-requires
plain-requires t c =
    let less = fewer_passes c.args.node.now c.in-Some.next (sym c.next_of.ensures ∙ c.in-Some.is) in
    search (rules, less)

pub returns-in-None : goal.returns-in-None
returns-in-None t c =
    let node = c.args.node.now in
    c.copy.ensures ∙ sym (plain_next node ∙ ap (λ o. option_map_or plain o node) (sym c.next_of.ensures ∙ c.in-None.is))

pub returns-in-Some : goal.returns-in-Some
returns-in-Some t c =
    let node = c.args.node.now in
    c.plain.ensures ∙ sym (plain_next node ∙ ap (λ o. option_map_or plain o node) (sym c.next_of.ensures ∙ c.in-Some.is))
