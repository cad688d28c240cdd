use Rattle.object_state.specs.Changes.{with_slot}
use Rattle.object_state.specs.declared.objects.Object.{Object}
use Rattle.object_store.proofs.Pages.{none_changed}
use Rattle.object_store.proofs.number_map.set_slot_at.Goals as goal

pub returns-in-Some : goal.returns-in-Some
returns-in-Some c = rw c.in-Some.is (λ d h. c.set_slot.ensures d h)

pub returns-in_default : goal.returns-in_default
returns-in_default c = rw c.in_default.is (λ d h. none_changed (λ (x : Object). with_slot c.args.layout.now x c.args.attr c.args.value) c.args.cell d h)
