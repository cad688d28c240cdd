use Rattle.std.proofs.Common.{ap, map, ◌∙◌}
use Rattle.invariant_cache.specs.Broken.{violation_at}
use Rattle.invariant_cache.specs.Counts.{Counts}
use Rattle.invariant_cache.proofs.Listed.{broken_entries}
use Rattle.invariant_cache.proofs.structure.Structure.violations.Goals as goal

pub returns : goal.returns
returns c = λ m s stands.
    let same = ap (λ (z : Counts). z.broken) c.self.view_is in
    c.from_vec.ensures ∙ c.in_ok-found.ensures.told ∙ ap (map (λ e. violation_at e.0 e.1)) same
    ∙ broken_entries m s stands.valid c.args.self.now c.self.inside.broken stands same c.violations_in.ensures.ordered
