use Rattle.std.proofs.Common.{Some, ap, refl, sym, ◌∙◌, ℕ}
use Rattle.invariant_cache.specs.Counts.{Counts, counted}
use Rattle.invariant_cache.specs.Noting.{one_more}
use Rattle.invariant_cache.proofs.Answered.{on_ok}
use Rattle.invariant_cache.proofs.Recounted.{recounts_absent, recounts_present}
use Rattle.invariant_cache.proofs.structure.Structure.add_one.Goals as goal

pub returns-in-None : goal.returns-in-None
returns-in-None c =
    let was = ap (λ (z : Counts). counted z.counts c.args.navigation) (sym c.self.view_is) ∙ sym (c.in-None.ensures ∙ c.get.ensures.value) in
    recounts_absent c.args.model.now c.args.self.now c.args.navigation one_more was refl

pub returns-in-Some : goal.returns-in-Some
returns-in-Some c =
    let was = ap (λ (z : Counts). counted z.counts c.args.navigation) (sym c.self.view_is) ∙ sym (c.in-Some.ensures ∙ c.get.ensures.value) in
    on_ok c.set_count.result (λ told. recounts_present c.args.model.now _ _ c.args.navigation one_more _ told
    (ap one_more was ∙ ap (λ (n : ℕ). Some n) (sym c.saturating_add.ensures))) c.set_count.ensures
