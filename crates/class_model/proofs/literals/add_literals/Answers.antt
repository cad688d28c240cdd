use Rattle.std.proofs.Common.{◌∙◌, sym, ap, Some}
use Rattle.std.specs.HashMap.{get_by_text}
use Rattle.std.specs.Option.{option_and_then}
use Rattle.class_decls.specs.Texts.{same_text}
use Rattle.class_model.specs.Indexes.{one_more}
use Rattle.class_model.proofs.Named.{place_more}
use Rattle.class_model.proofs.OnlyLiterals.{literal_more, more_none}
use Rattle.class_model.proofs.literals.add_literals.Goals as goal

pub literals-init : goal.literals-init
literals-init c = λ t. sym (more_none (get_by_text c.args.map.now t))

pub literals-preserved : goal.literals-preserved
literals-preserved c = λ t.
    c.in_ok-add_literal_if.ensures t
    ∙ rw (c.literals.invariant t, c.stands_for-holds.ensures, c.as_str-name.ensures)
    (literal_more (get_by_text c.args.map.now t) (λ x.
    (c.args.number, x)) c.args.table.now c.args.literals.now c.literals.i _ t c.literals-test.true c.index-literals-i.is c.requires.table)
    ∙ ap (λ o. one_more (get_by_text c.args.map.now t) (option_and_then (λ x. Some (c.args.number, x)) o))
    (sym (place_more (λ x. same_text x t) c.args.literals.now c.literals.i _ c.literals-test.true c.index-literals-i.is))
