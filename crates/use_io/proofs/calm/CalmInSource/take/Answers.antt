use Rattle.std.proofs.Common.{◌∙◌, ap, sym, arith, ◌+◌}
use Rattle.std.proofs.lemmas.Grind.{common_steps}
use Rattle.use_io.proofs.Pieces.{front_and_rest, nothing_past}
use Rattle.use_io.proofs.calm.CalmInSource.take.Goals as goal

pub returns-clause-bytes : goal.returns-clause-bytes
returns-clause-bytes c = (
  ap (λ r. r.left) (sym c.self.view_is)
      ∙ front_and_rest c.self.inside.bytes.items c.args.buf.now c.copy_from_slice.new.self c.self.inside.at c.min-count.result
      (grind (arith, common_steps)) (omega arith),
  λ e h. nothing_past c.self.inside.bytes.items (c.self.inside.at + c.min-count.result) (omega arith),
)
