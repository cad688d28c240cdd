use Rattle.std.proofs.Common.{◌≡◌, ◌≢◌, ◌∙◌, sym, string_bytes, arith, rules}
use Rattle.use_io.proofs.HeldLemmas.{held_same, held_other, held_from, held_end}
use Rattle.use_io.proofs.memory.held.Goals as goal

pub returns-then-eq : goal.returns-then-eq
returns-then-eq c =
    let same : string_bytes c.file-item.result.0 ≡ c.args.name.now = search rules in
    sym (held_same c.file-item.result _ c.args.name.now same)
    ∙ sym (held_from c.file-item.result c.args.files.now c.loop-file.file-index c.args.name.now (omega arith) c.file-item.is) ∙ c.loop-file.invariant

pub loop-file-preserved : goal.loop-file-preserved
loop-file-preserved c =
    let other : string_bytes c.file-item.result.0 ≢ c.args.name.now = search rules in
    sym (held_other c.file-item.result _ c.args.name.now other)
    ∙ sym (held_from c.file-item.result c.args.files.now c.loop-file.file-index c.args.name.now (omega arith) c.file-item.is) ∙ c.loop-file.invariant

pub returns : goal.returns
returns c = sym (held_end c.args.files.now c.loop-file.file-index c.args.name.now (omega arith)) ∙ c.loop-file.invariant
