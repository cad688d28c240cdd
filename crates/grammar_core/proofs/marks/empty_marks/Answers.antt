use Rattle.std.proofs.Common.{ℕ, ◌≡◌, List, Bool, length, ap, subst, sym, ◌∙◌}
use Rattle.grammar_core.specs.declared.table.Prod.{Prod}
use Rattle.grammar_core.specs.Marks.{MarksEmpty, empty_sweep}
use Rattle.grammar_core.proofs.Emptiness.{Sound, sweep_length, sweep_is_sound, marks_done}
use Rattle.grammar_core.proofs.marks.empty_marks.Goals as goal

pub returns-then-not-empty_sweep : goal.returns-then-not-empty_sweep
returns-then-not-empty_sweep c =
    let i = c.rounds.invariant in
    let same : c.empty_sweep.new.seen.items ≡ c.rounds.seen.items = c.empty_sweep.ensures.grows.same c.if-not-empty_sweep.true in
    let set : c.empty_sweep.new.seen.items ≡ empty_sweep c.args.g.now.rules c.rounds.seen.items 0 c.args.g.now.prods = c.empty_sweep.ensures.set
    ∙ ap (λ (l : List ℕ). empty_sweep l c.rounds.seen.items 0 c.as_slice-in-rounds.result.now) c.as_slice.ensures
    ∙ ap (λ (l : List Prod). empty_sweep c.args.g.now.rules c.rounds.seen.items 0 l) c.as_slice-in-rounds.ensures in
    subst (λ (l : List Bool). MarksEmpty c.args.g.now l) (sym same) (marks_done c.args.g.now c.rounds.seen.items i.long i.sound (sym set ∙ same))

pub rounds-preserved : goal.rounds-preserved
rounds-preserved c =
    let i = c.rounds.invariant in
    let set : c.empty_sweep.new.seen.items ≡ empty_sweep c.args.g.now.rules c.rounds.seen.items 0 c.args.g.now.prods = c.empty_sweep.ensures.set
    ∙ ap (λ (l : List ℕ). empty_sweep l c.rounds.seen.items 0 c.as_slice-in-rounds.result.now) c.as_slice.ensures
    ∙ ap (λ (l : List Prod). empty_sweep c.args.g.now.rules c.rounds.seen.items 0 l) c.as_slice-in-rounds.ensures in
    record {
      long = ap (λ (l : List Bool). length l) set ∙ sweep_length c.args.g.now.rules c.args.g.now.prods 0 c.rounds.seen.items ∙ i.long;
      sound = subst (λ (l : List Bool). Sound c.args.g.now l) (sym set) (sweep_is_sound c.args.g.now c.rounds.seen.items i.sound);
    }
