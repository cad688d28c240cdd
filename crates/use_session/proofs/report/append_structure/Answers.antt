use Rattle.std.proofs.Common.{◌≡◌, ◌++◌, ℕ, false, nat_eq, length, List, [], ◌∷◌, refl, sym, ap, ◌∙◌, true≢false}
use Rattle.std.specs.List.{flat_map}
use Rattle.std.proofs.lemmas.List.{take_all}
use Rattle.class_model.specs.declared.object_model.ObjectModel.{ObjectModel}
use Rattle.invariant_cache.specs.declared.structure.Violation.{Violation}
use Rattle.object_state.specs.State.{State}
use Rattle.use_info.proofs.Pieces.{grown}
use Rattle.use_session.specs.Reports.{structure_lines, violation_line}
use Rattle.use_session.proofs.report.append_structure.Goals as goal

-- where a multiplicity is broken
some_lines : (m : ObjectModel) (s : State) (vs : List Violation) → nat_eq (length vs) 0 ≡ false → flat_map (violation_line m s) vs ≡ structure_lines m s vs
some_lines m s [] e = absurd (true≢false e)
some_lines m s (v ∷ vs) e = refl

pub broken-preserved : goal.broken-preserved
broken-preserved c =
    grown (violation_line c.args.model.now c.args.store.now.state) c.args.broken.now c.broken.found-index _ _ _ _ c.broken-test.true c.broken.invariant
    c.in_ok-append_violation.ensures

pub returns : goal.returns
returns c =
    let m = c.args.model.now in
    let s = c.args.store.now.state in
    c.broken.invariant
    ∙ ap (λ (l : List ℕ). c.args.out.now.items ++ l)
    (ap (flat_map (violation_line m s)) (take_all c.broken.found-index c.args.broken.now c.broken-test.false)
    ∙ some_lines m s c.args.broken.now (sym c.is_empty.ensures ∙ c.if-is_empty.false))
