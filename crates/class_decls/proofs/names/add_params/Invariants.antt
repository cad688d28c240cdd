use Rattle.std.proofs.Common.{◌≡◌, ◌++◌, take}
use Rattle.class_decls.specs.Names.{numbered, params_of}
use Rattle.class_decls.proofs.names.add_params.Given as goal

abbrev pub invariant-heads : goal.invariant-heads
invariant-heads l = l.names.items ≡ l.fn.names.items ++ numbered (λ i op. params_of i op.now) (take l.i l.heads)
