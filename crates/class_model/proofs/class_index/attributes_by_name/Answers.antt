use Rattle.std.proofs.Common.{sym, ◌∙◌, ◌&&◌}
use Rattle.class_decls.specs.Texts.{same_text}
use Rattle.class_model.specs.Indexes.{above}
use Rattle.class_model.proofs.Named.{place_more}
use Rattle.class_model.proofs.class_index.attributes_by_name.Goals as goal

pub attrs-preserved : goal.attrs-preserved
attrs-preserved c = λ t.
    c.in_ok-add_first_if.ensures t
    ∙ rw (c.attrs.invariant t, c.as_str.ensures, c.is_above-holds.ensures)
    (sym (place_more (λ a. above c.args.rows.now c.args.class a.class && same_text a.name t) c.args.attrs.now c.attrs.i _ c.attrs-test.true c.index-attrs-i.is))
