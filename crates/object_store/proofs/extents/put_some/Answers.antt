use Rattle.std.specs.Map.{keys_of}
use Rattle.std.proofs.Common.{true}
use Rattle.object_store.proofs.Walked.{marked_on, others_on}
use Rattle.object_store.proofs.extents.put_some.Goals as goal

pub classes-preserved : goal.classes-preserved
classes-preserved c = record {
  ordered = c.in_ok-put_one.ensures.ordered;
  others = others_on c.args.classes.now c.args.object c.classes.class-index c.classes-test.true true (keys_of c.args.extents.now) (keys_of c.classes.extents)
      (keys_of c.put_one.new.extents) c.in_ok-put_one.ensures.ok c.classes.invariant.others;
  there = marked_on c.args.classes.now c.args.object c.classes.class-index c.classes-test.true true (keys_of c.args.extents.now) (keys_of c.classes.extents)
      (keys_of c.put_one.new.extents) c.in_ok-put_one.ensures.ok c.classes.invariant.there;
}
