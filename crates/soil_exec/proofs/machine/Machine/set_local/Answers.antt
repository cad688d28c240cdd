use Rattle.std.proofs.Common.{◌≡◌, ◌+◌, ◌-◌, ◌<◌, Ok, drop, length, sym, ap, subst, ◌∙◌}
use Rattle.soil_exec.specs.Kept.{stand}
use Rattle.soil_exec.proofs.Bound.{put_there}
use Rattle.soil_exec.proofs.machine.Machine.set_local.Goals as goal

pub returns-then-place-len-clause-gives : goal.returns-then-place-len-clause-gives
returns-then-place-len-clause-gives c =
    let k = c.args.self.now in
    let at : length k.shell + (c.args.number - length k.shell) ≡ c.greater-place.result =
    ap (λ n. n + (c.args.number - n)) (sym c.len.ensures) ∙ sym c.greater-place.ensures in
    let within = subst (λ n. c.greater-place.result < n) c.len-2.ensures c.if-place-len.true in
    let same = put_there k c.args.number c.greater-place.result c.args.value at within ∙ ap (drop (length k.shell)) (sym c.set.ensures) in
    λ steps i. (Ok tt, record (stand k steps) { locals = same i })
