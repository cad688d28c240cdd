use Rattle.std.proofs.Common.{sym, ◌∙◌}
use Rattle.class_decls.specs.Texts.{same_text}
use Rattle.class_model.proofs.Named.{place_more}
use Rattle.class_model.proofs.by_name.numbers_by_name.Goals as goal

pub items-preserved : goal.items-preserved
items-preserved g c = λ t.
    c.in_ok-add_first.ensures t
    ∙ rw (c.items.invariant t, c.as_str.ensures, c.title.ensures)
    (sym (place_more (λ x. same_text (g.T.Titled.title x) t) c.args.items.now c.items.i _ c.items-test.true c.index-items-i.is))
