use Rattle.std.proofs.Common.{◌≡◌, ◌++◌, ◌-◌, ◌≤◌, length, take}
use Rattle.std.specs.List.{flat_map}
use Rattle.contract_texts.specs.Calls.{call_line}
use Rattle.contract_texts.proofs.open_calls.append_calls.Given as goal

-- the calls above the level are told
abbrev pub invariant-frames : goal.invariant-frames
invariant-frames g l =
    let s = (g.S.StateReader.held l.state).state in
    record {
      within : l.level ≤ length l.frames;
      told : l.out.items ≡ l.initial.out.items ++ flat_map (λ f. call_line l.model s f.call) (take (length l.frames - l.level) l.frames);
    }

abbrev pub decreases-frames : goal.decreases-frames
decreases-frames g l = l.level
