-- A check: what it writes, how it ends and what it costs, from what its parts found.
use Rattle.std.proofs.Common.{◌≡◌, ℕ, ◌+◌, ◌<◌, ◌++◌, All, Bool, List, Ok, length, refl, sym, ap, ◌∙◌, subst}
use Rattle.invariant_cache.specs.declared.report.Report.{Report}
use Rattle.invariant_cache.specs.declared.structure.Violation.{Violation}
use Rattle.invariant_cache.specs.Broken.{broken}
use Rattle.invariant_cache.specs.Verdicts.{report, work_of_all}
use Rattle.invariant_cache.proofs.Listed.{broken_known}
use Rattle.object_state.specs.declared.layout.Layout.{Layout}
use Rattle.object_state.specs.Looks.{look}
use Rattle.use_session.specs.declared.machine.Machine.{Machine as Kept}
use Rattle.use_session.specs.declared.session.Turn.{Turn}
use Rattle.use_session.specs.Answering.{Answers}
use Rattle.use_session.specs.Kept.{IsKept, machine_of}
use Rattle.use_session.specs.Machine.{check_step, picture, turn_of_check}
use Rattle.use_session.specs.Reports.{check_text, finds_nothing}

module _ (k : Kept) (h : IsKept k) where
  -- the multiplicities are those of associations of the model
  pub known : (vs : List Violation) → vs ≡ broken k.program.model k.store.state → All (λ (v : Violation). v.assoc < length k.program.model.assocs) vs
  known vs e = subst (λ (l : List Violation). All (λ (v : Violation). v.assoc < length k.program.model.assocs) l) (sym e)
      (broken_known k.program.model k.store.state h.structure.valid)

  pub judged_answers : (detail : Bool) (bytes bytes' : List ℕ) (steps steps' : ℕ) (vs : List Violation) (r : Report) (cache : ℕ) (turn : Turn)
      → vs ≡ broken k.program.model k.store.state → r ≡ report k.program (look k.store.layout k.store.state) → cache ≡ k.cache
      → steps' ≡ steps + work_of_all k.program (look k.store.layout k.store.state)
      → bytes' ≡ bytes ++ check_text k.program k.store.state detail vs r → turn ≡ turn_of_check (finds_nothing vs r)
      → Answers (check_step (machine_of k) detail) bytes steps (Ok turn) (record k { cache = cache }) bytes' steps'
  judged_answers detail bytes bytes' steps steps' vs r cache turn found told same units written ends =
      let verdicts : r ≡ report k.program (picture (machine_of k)) = told ∙ ap (λ (l : Layout). report k.program (look l k.store.state)) h.layout in
      record {
        turn = ends ∙ (λ i. turn_of_check (finds_nothing (found i) (verdicts i)));
        kept = record {
          layout = h.layout;
          capacity = h.capacity;
          whole = h.whole;
          proper = h.proper;
          structure = h.structure;
          cache = h.cache ∙ sym same;
        };
        machine = refl;
        bytes = written ∙ (λ i. bytes ++ check_text k.program k.store.state detail (found i) (verdicts i));
        units = units ∙ ap (λ (l : Layout). steps + work_of_all k.program (look l k.store.state)) h.layout;
      }
