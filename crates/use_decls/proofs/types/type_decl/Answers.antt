use Rattle.std.proofs.Common.{◌≡◌, IfOk, subst}
use Rattle.use_decls.specs.Types.{max_depth, type_decl, type_in}
use Rattle.use_decls.proofs.types.type_decl.Goals as goal

pub returns : goal.returns
unfolding type_decl
returns c = subst (λ o. IfOk c.type_in.result (λ r. r ≡ type_in max_depth c.args.lexed.now o c.args.node.now)) c.new.ensures c.type_in.ensures
