use Rattle.std.proofs.Common.{All, List, sym, ap, subst, ◌∙◌}
use Rattle.std.specs.Vec.Iter.{into_iter_items}
use Rattle.std.proofs.lemmas.List.Elements.{All-tail}
use Rattle.ocl_values.specs.declared.value.Value.{Value}
use Rattle.ocl_values.specs.Shape.{IsWellMade}
use Rattle.soil_changes.specs.Acts.{each}
use Rattle.soil_changes.proofs.Made.{each_next}
use Rattle.soil_exec.specs.Kept.{stand}
use Rattle.soil_exec.specs.Parts.{inside_in}
use Rattle.soil_exec.specs.Statements.{turn}
use Rattle.soil_exec.proofs.walk.Walk.for_each.Goals as goal

pub turns-preserved : goal.turns-preserved
turns-preserved g c =
    let f = turn c.args.self.now.setting.program.now (inside_in c.args.self.now.setting) c.args.place c.args.body.now in
    let m = stand c.turns.machine (g.V.Evaluator.count c.turns.steps) in
    record {
      same = sym (each_next f c.in-Some.value (into_iter_items c.next.new.self) m (stand c.turn.new.machine (g.V.Evaluator.count c.turn.new.steps))
          c.in_ok-turn.ensures.gives) ∙ ap (λ (l : List Value). each f l m) (sym c.in-Some.ensures.steps.0) ∙ c.turns.invariant.same;
      follows = record {
        current = c.in_ok-turn.ensures.follows.current;
        layout = c.in_ok-turn.ensures.follows.layout ∙ c.turns.invariant.follows.layout;
        shell = c.in_ok-turn.ensures.follows.shell ∙ c.turns.invariant.follows.shell;
        depth = c.in_ok-turn.ensures.follows.depth ∙ c.turns.invariant.follows.depth;
      };
      well_made = All-tail IsWellMade c.in-Some.value (into_iter_items c.next.new.self)
          (subst (All IsWellMade) c.in-Some.ensures.steps.0 c.turns.invariant.well_made);
    }
