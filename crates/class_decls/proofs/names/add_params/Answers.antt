use Rattle.std.proofs.Common.{◌∙◌}
use Rattle.class_decls.specs.Names.{params_of}
use Rattle.class_decls.proofs.Joined.{joined2}
use Rattle.class_decls.proofs.Numbered.{numbered_more}
use Rattle.class_decls.proofs.names.add_params.Goals as goal

pub heads-preserved : goal.heads-preserved
heads-preserved c =
    joined2 _ _ _ _ _ (rw c.heads.invariant at c.in_ok-add_predeclared.ensures) (rw c.as_slice.ensures at c.in_ok-add_entries.ensures)
    ∙ numbered_more (λ i op. params_of i op.now) _ _ _ _ c.heads-test.true c.index-heads-i.is
