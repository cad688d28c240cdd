use Rattle.std.proofs.Common.{◌≡◌, ◌+◌, ◌<◌, ◌≤◌, List, [], ◌∷◌, ◌++◌, get_or, length, map, ap, ap₂, sym, ◌∙◌, subst, arith}
use Rattle.std.proofs.lemmas.List.{length-map, map_more, take_all}
use Rattle.ocl_core.specs.declared.program.Invariant.{Invariant}
use Rattle.ocl_core.specs.declared.program.ProgramParts.{ProgramParts}
use Rattle.invariant_cache.specs.declared.report.Judged.{Judged}
use Rattle.invariant_cache.specs.Verdicts.{judge, work}
use Rattle.invariant_cache.proofs.Judgements.{all_units, more_units}
use Rattle.invariant_cache.proofs.cache.Cache.refresh.Goals as goal

pub judged-init : goal.judged-init
judged-init g c = record { lines = c.new-lines.ensures; units = omega arith }

pub judged-preserved : goal.judged-preserved
judged-preserved g c =
    let now = g.W.World.picture c.args.world.now in
    let p = c.args.program.now in
    let i = c.judged.invariant-index in
    let x = c.invariant-item.result in
    let within : i < length p.invariants = subst (λ (l : List Invariant). i < length l) c.invariants-invariant-items.ensures c.judged-test.true in
    let item : x ≡ get_or p.invariants i x = c.invariant-item.is ∙ ap (λ (l : List Invariant). get_or l i x) c.invariants-invariant-items.ensures in
    record {
      lines = c.in_ok-push.ensures.ok
          ∙ ap₂ (λ (l : List Judged) (j : Judged). l ++ j ∷ []) c.judged.invariant.lines
          (c.in_ok-judged.ensures.judged ∙ ap (λ (q : ProgramParts). judge q now x) c.as_parts.ensures ∙ ap (judge p now) item)
          ∙ sym (map_more (judge p now) p.invariants i x within);
      units = more_units (work p now) p.invariants i x c.args.steps.now c.judged.steps c.judge.new.steps within c.judged.invariant.units
          (c.in_ok-judged.ensures.units ∙ ap (λ (q : ProgramParts). c.judged.steps + work q now x) c.as_parts.ensures
          ∙ ap (λ (y : Invariant). c.judged.steps + work p now y) item);
    }

pub returns-clause-report : goal.returns-clause-report
returns-clause-report g c =
    let now = g.W.World.picture c.args.world.now in
    let p = c.args.program.now in
    let i = c.judged.invariant-index in
    let past : length p.invariants ≤ i = subst (λ (l : List Invariant). length l ≤ i) c.invariants-invariant-items.ensures c.judged-test.false in
    let lines = c.judged.invariant.lines ∙ ap (map (judge p now)) (take_all i p.invariants past) in
    let evaluated = c.len-evaluated.ensures ∙ ap length lines ∙ length-map p.invariants (judge p now) in
    λ k. record { lines = lines k; evaluated = evaluated k }

pub returns-clause-units : goal.returns-clause-units
returns-clause-units g c =
    let now = g.W.World.picture c.args.world.now in
    let p = c.args.program.now in
    let i = c.judged.invariant-index in
    let past : length p.invariants ≤ i = subst (λ (l : List Invariant). length l ≤ i) c.invariants-invariant-items.ensures c.judged-test.false in
    all_units (work p now) p.invariants i c.args.steps.now c.judged.steps past c.judged.invariant.units
