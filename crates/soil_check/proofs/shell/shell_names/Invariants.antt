use Rattle.std.proofs.Common.{◌≡◌, drop, fold, []}
use Rattle.soil_check.specs.Shell.{name_of, taken_by}
use Rattle.soil_check.proofs.shell.shell_names.Given as goal

abbrev pub invariant-tokens : goal.invariant-tokens
invariant-tokens g l =
    fold (λ names t. taken_by (g.S.Scope.known l.scope) l.is_block names (name_of l.text t)) l.names (drop l.token-index l.tokens)
    ≡ fold (λ names t. taken_by (g.S.Scope.known l.scope) l.is_block names (name_of l.text t)) [] l.tokens
