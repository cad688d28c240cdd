use Rattle.std.proofs.Common.{sym, ◌∙◌}
use Rattle.object_store.proofs.Marked.{is_there, mark_there, marks_as, on_ok, sorted_put}
use Rattle.object_store.proofs.extents.put_one.Goals as goal

pub returns-then-is_some-clause-ok : goal.returns-then-is_some-clause-ok
returns-then-is_some-clause-ok c =
    mark_there c.args.extents.now (c.args.class, c.args.object) (is_there c.get.result _ c.get.ensures (sym c.is_some.ensures ∙ c.if-is_some.true))

pub returns-clause-ordered : goal.returns-clause-ordered
returns-clause-ordered c =
    sorted_put c.insert.result c.args.extents.now c.insert.new.self (c.args.class, c.args.object) _ c.insert.ensures.ok c.insert.ensures.err c.requires

pub returns-clause-ok : goal.returns-clause-ok
returns-clause-ok c =
    on_ok c.insert.result (λ put. marks_as c.args.extents.now c.insert.new.self (c.args.class, c.args.object) _ put) c.insert.ensures.ok
