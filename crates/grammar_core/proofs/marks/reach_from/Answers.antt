use Rattle.std.proofs.Common.{◌≡◌, ℕ, List, Some, slice_get, refl, replicate, Bool, false, length, ap, subst, sym, arith, ◌∙◌}
use Rattle.std.proofs.lemmas.Option.{slice_get_read}
use Rattle.grammar_core.specs.declared.table.Prod.{Prod}
use Rattle.grammar_core.specs.Tables.{graph_of, next_prods}
use Rattle.grammar_core.specs.Marks.{mark_all, IsRow}
use Rattle.grammar_core.proofs.Marking.{Sound, Started, sweep_is_sound, sweep_is_started, sweep_length, row_done, first_sound, first_started, first_long}
use Rattle.grammar_core.proofs.Ranks.{graph_length, graph_at}
use Rattle.grammar_core.proofs.marks.reach_from.Goals as goal

pub rounds-init : goal.rounds-init
rounds-init c =
    let graph : List (List ℕ) = graph_of c.args.calls c.args.g.now in
    let at : slice_get c.as_slice.result.now c.args.p ≡ Some c.index-as_slice-p.result = slice_get_read c.as_slice.result.now
    (length c.as_slice.result.now) c.args.p c.index-as_slice-p.result refl (omega (
      arith,
      c.requires,
      ap (λ
          (l : List Prod). length l) c.as_slice.ensures,
    )) c.index-as_slice-p.is in
    let row : List ℕ = next_prods c.args.calls c.args.g.now c.index-as_slice-p.result in
    let e : slice_get graph c.args.p ≡ Some row = graph_at c.args.g.now c.args.calls c.args.p c.index-as_slice-p.result (subst (λ
    (l : List Prod). slice_get l c.args.p ≡ Some c.index-as_slice-p.result) c.as_slice.ensures at) in
    let n : c.len.result ≡ length graph = c.len.ensures ∙ sym (graph_length c.args.g.now c.args.calls) in
    let z : c.in_ok-seen.seen.items ≡ replicate (length graph) false = c.in_ok-seen.ensures.items_if_clones_equal (λ y z. z)
    ∙ ap (λ (k : ℕ). replicate k false) n in
    let s : c.mark_next.new.seen.items ≡ mark_all (replicate (length graph) false) row = c.mark_next.ensures.set ∙ ap (λ (l : List Bool). mark_all l row) z in
    record {
      long = ap (λ (l : List Bool). length l) s ∙ first_long graph c.args.p row e;
      sound = subst (λ (l : List Bool). Sound graph c.args.p l) (sym s) (first_sound graph c.args.p row e);
      started = subst (λ (l : List Bool). Started graph c.args.p l) (sym s) (first_started graph c.args.p row e);
    }

pub returns-then-not-sweep : goal.returns-then-not-sweep
returns-then-not-sweep c =
    let i = c.rounds.invariant in
    let graph : List (List ℕ) = graph_of c.args.calls c.args.g.now in
    let same : c.sweep.new.seen.items ≡ c.rounds.seen.items = c.sweep.ensures.grows.same c.if-not-sweep.true in
    subst (λ (l : List Bool). IsRow graph c.args.p l) (sym same) (row_done graph c.args.p c.rounds.seen.items i.long i.sound i.started (sym c.sweep.ensures.set
    ∙ same))

pub rounds-preserved : goal.rounds-preserved
rounds-preserved c =
    let s = c.rounds.invariant in
    let graph : List (List ℕ) = graph_of c.args.calls c.args.g.now in
    record {
      long = ap (λ (l : List Bool). length l) c.sweep.ensures.set ∙ sweep_length graph 0 c.rounds.seen.items ∙ s.long;
      sound = subst (λ (l : List Bool). Sound graph c.args.p l) (sym c.sweep.ensures.set) (sweep_is_sound graph c.args.p c.rounds.seen.items s.long s.sound);
      started = subst (λ (l : List Bool). Started graph c.args.p l) (sym c.sweep.ensures.set) (sweep_is_started graph c.args.p c.rounds.seen.items s.started);
    }
