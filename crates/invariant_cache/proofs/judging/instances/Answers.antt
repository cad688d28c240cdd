use Rattle.std.proofs.Common.{ap, ◌∙◌}
use Rattle.std.specs.List.{filter_map}
use Rattle.invariant_cache.specs.Verdicts.{object_of, objects_in}
use Rattle.invariant_cache.proofs.Answered.{if_ok, on_any}
use Rattle.invariant_cache.proofs.judging.instances.Goals as goal

pub returns-clause-objects : goal.returns-clause-objects
returns-clause-objects g c = if_ok c.objects_among.result
    (λ v is. is ∙ ap (filter_map object_of) c.as_slice.ensures ∙ ap objects_in c.in_ok-found.ensures.seen) c.objects_among.ensures

pub returns-clause-units : goal.returns-clause-units
returns-clause-units g c = on_any c.objects_among.result c.in_ok-found.ensures.counted
