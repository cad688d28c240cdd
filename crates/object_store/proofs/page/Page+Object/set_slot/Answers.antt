use Rattle.std.proofs.Common.{sym, ap, ◌∙◌, arith, slice_set, unwrap_or}
use Rattle.std.specs.Option.{option_map}
use Rattle.object_state.specs.Changes.{with_slot}
use Rattle.object_state.specs.declared.objects.Object.{Object}
use Rattle.object_store.proofs.Cells.{at}
use Rattle.object_store.proofs.Pages.{changed_count, set_len}
use Rattle.object_store.proofs.page.Page+Object.set_slot.Goals as goal

pub invariant_of-self : goal.invariant_of-self
invariant_of-self c =
    let seen = at c.args.cell c.self.inside.cells.items c.index_mut.result.now (omega (arith, c.requires, c.self.invariant.long)) c.index_mut.ensures.value in
    record {
      long = set_len c.self.inside.cells.items c.args.cell c.set_slot_in.new.cell ∙ c.self.invariant.long;
      counted = c.self.invariant.counted ∙ sym (rw c.set_slot_in.ensures (changed_count (λ (x : Object). with_slot c.args.layout.now x c.args.attr c.args.value) c.args.cell c.self.inside.cells.items c.index_mut.result.now seen));
    }

pub returns : goal.returns
returns c =
    let seen = at c.args.cell c.self.inside.cells.items c.index_mut.result.now (omega (arith, c.requires, c.self.invariant.long)) c.index_mut.ensures.value in
    rw (← c.self.view_is) (λ d h. ap (λ x. slice_set c.self.inside.cells.items c.args.cell x) (c.set_slot_in.ensures
    ∙ ap (option_map (λ (x : Object). with_slot c.args.layout.now x c.args.attr c.args.value)) (ap (λ o. unwrap_or o c.index_mut.result.now) (sym seen ∙ h))))
