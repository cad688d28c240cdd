use Rattle.std.specs.Map.{keys_of}
use Rattle.std.proofs.Common.{false}
use Rattle.object_store.proofs.Walked.{marked_on, others_on}
use Rattle.object_store.proofs.extents.take_extents.Goals as goal

pub classes-preserved : goal.classes-preserved
classes-preserved c = record {
  ordered = c.take_one.ensures.ordered;
  others = others_on c.args.classes.now c.args.object c.classes.class-index c.classes-test.true false (keys_of c.args.extents.now) (keys_of c.classes.extents)
      (keys_of c.take_one.new.extents) c.take_one.ensures.taken c.classes.invariant.others;
  gone = marked_on c.args.classes.now c.args.object c.classes.class-index c.classes-test.true false (keys_of c.args.extents.now) (keys_of c.classes.extents)
      (keys_of c.take_one.new.extents) c.take_one.ensures.taken c.classes.invariant.gone;
}
