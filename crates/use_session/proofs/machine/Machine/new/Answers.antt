use Rattle.std.proofs.Common.{◌≡◌, length, ap, sym, ◌∙◌}
use Rattle.object_state.specs.Layouts.{layout_of}
use Rattle.ocl_core.specs.declared.program.ProgramParts.{ProgramParts}
use Rattle.use_session.specs.declared.machine.Machine.{Machine as Kept}
use Rattle.use_session.specs.Machine.{start}
use Rattle.use_session.proofs.Keeping.{begun_kept, begun_machine}
use Rattle.use_session.proofs.machine.Machine.new.Goals as goal

pub returns-clause-kept : goal.returns-clause-kept
returns-clause-kept c =
    let k : Kept = record {
      alloc = c.args.alloc;
      program = c.program.inside.parts;
      store = c.new.result;
      structure = c.new-2.result;
      frames = c.new-3.result;
      history = c.in_ok-new.field-0;
      cache = c.new-cache.result;
    } in
    let same : c.args.program ≡ k.program = sym c.program.view_is in
    begun_kept k c.new.ensures.state c.in_ok-new.ensures c.new-3.ensures
    (c.new.ensures.layout ∙ c.in_ok-layout.ensures ∙ ap layout_of c.model.ensures ∙ ap (λ (p : ProgramParts). layout_of p.model) same)
    (c.new-2.ensures k.program.model) (sym (c.new-cache.ensures ∙ ap (λ (p : ProgramParts). length p.invariants) same))

pub returns-clause-machine : goal.returns-clause-machine
returns-clause-machine c =
    let k : Kept = record {
      alloc = c.args.alloc;
      program = c.program.inside.parts;
      store = c.new.result;
      structure = c.new-2.result;
      frames = c.new-3.result;
      history = c.in_ok-new.field-0;
      cache = c.new-cache.result;
    } in
    begun_machine k c.new.ensures.state c.in_ok-new.ensures c.new-3.ensures ∙ ap start c.program.view_is
