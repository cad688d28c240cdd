use Rattle.std.proofs.Common.{rules, ◌≡◌, ◌-◌, suc, length, ap, sym, ◌∙◌, arith, ap₂, slice_get}
use Rattle.std.specs.Option.{option_copied, option_or}
use Rattle.entry_states.specs.Frames.{saved_within}
use Rattle.entry_states.proofs.Keeps.{mapped_or, within_more, within_none}
use Rattle.entry_states.proofs.frames.Frames.saved.Goals as goal

pub down-init : goal.down-init
down-init c =
    let none : length c.args.self.now - c.depth-i.result ≡ 0 = omega arith in
    record {
      from = omega arith;
      within = omega arith;
      found = sym (ap (λ n. saved_within c.args.self.now n c.args.cell.now) none ∙ within_none c.args.self.now c.args.cell.now);
      can_hold = tt;
    }

pub down-preserved : goal.down-preserved
down-preserved c =
    let fs = c.args.self.now in
    let n = length fs - c.down.i in
    let place : length fs - 1 - (c.down.i - 1) ≡ n = omega arith in
    let more : length fs - (c.down.i - 1) ≡ suc n = omega arith in
    record {
      from = omega arith;
      within = omega arith;
      found =
          ap option_copied c.or-found.ensures ∙ mapped_or (λ x. x.now) c.get.result c.down.found
          ∙ ap₂ option_or c.get.ensures.saved c.down.invariant.found
          ∙ sym (ap (λ n. saved_within fs n c.args.cell.now) more ∙ within_more fs n c.at.result.now c.args.cell.now (sym (ap (slice_get fs) place) ∙ c.at.ensures));
      can_hold = search rules;
    }
