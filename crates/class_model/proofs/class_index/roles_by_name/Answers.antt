use Rattle.std.proofs.Common.{sym, ◌∙◌, Some}
use Rattle.std.specs.Option.{option_and_then}
use Rattle.class_model.specs.Features.{end_seen}
use Rattle.class_model.specs.Indexes.{above}
use Rattle.class_model.proofs.Named.{first_next}
use Rattle.class_model.proofs.class_index.roles_by_name.Goals as goal

pub assocs-preserved : goal.assocs-preserved
assocs-preserved c = λ t.
    c.in_ok-add_roles.ensures t
    ∙ rw (c.assocs.invariant t)
    (sym (first_next (λ number a. option_and_then (λ e. Some (number, e))
    (end_seen (above c.args.rows.now c.args.class) t a)) c.args.assocs.now c.assocs.i _ c.assocs-test.true c.index-assocs-i.is))
