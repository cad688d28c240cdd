use Rattle.std.proofs.Common.{◌≡◌, ◌<◌, ◌+◌, false, ap, sym, ◌∙◌, arith}
use Rattle.object_names.specs.Names.{is_free, numbered}
use Rattle.object_names.proofs.Seeking.{first_later}
use Rattle.object_names.proofs.made.made_name.Goals as goal

pub seek-preserved : goal.seek-preserved
seek-preserved g c =
    let state = (g.S.StateReader.held c.args.store.now).state in
    let word = c.args.class.now in
    let last = c.counters-number.result.0 + c.weight.result in
    let less : c.seek.number < last = omega (arith, c.seek-test.true) in
    let taken : is_free state (numbered word c.seek.number) ≡ false =
    ap (is_free state) (sym (c.as_str.ensures ∙ c.in_ok-name.ensures)) ∙ sym c.is_free.ensures ∙ c.if-is_free.false in
    record { name = sym (first_later state word c.seek.number last less taken) ∙ c.seek.invariant.name; within = omega (arith, less) }
