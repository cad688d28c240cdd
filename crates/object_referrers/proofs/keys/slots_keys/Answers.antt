use Rattle.std.proofs.Common.{◌≡◌, ◌≤◌, ◌++◌, min, length, ap, sym, ◌∙◌, arith}
use Rattle.std.proofs.lemmas.List.{append-nil}
use Rattle.object_referrers.proofs.Keyed.{no_slot}
use Rattle.object_referrers.proofs.keys.slots_keys.Goals as goal

pub returns : goal.returns
returns c =
    let all : min (length c.args.attrs.now) (length c.args.values.now) ≤ c.slots.i = omega (arith, c.slots-test.false, c.min-count.ensures) in
    sym (append-nil c.slots.keys.items) ∙ ap (λ l. c.slots.keys.items ++ l) (sym (no_slot c.args.object c.slots.i c.args.attrs.now c.args.values.now all))
    ∙ c.slots.invariant
