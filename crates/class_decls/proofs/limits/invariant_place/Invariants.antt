use Rattle.std.proofs.Common.{◌≡◌}
use Rattle.std.specs.Prelude.{drop, filter, slice_get}
use Rattle.std.specs.Option.{option_map}
use Rattle.class_decls.specs.Limits.{is_invariant}
use Rattle.class_decls.proofs.limits.invariant_place.Given as goal

abbrev pub invariant-conds : goal.invariant-conds
invariant-conds l = option_map (λ c. c.name.place) (slice_get (filter (λ c. is_invariant c.kind) l.conds) l.fn.others) ≡ option_map (λ c. c.name.place)
    (slice_get (filter (λ c. is_invariant c.kind) (drop l.cond-index l.conds)) l.left)
