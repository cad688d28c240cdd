-- What is appended piece by piece is appended as a whole.
use Rattle.std.proofs.Common.{◌≡◌, List, ◌++◌, ap, ◌∙◌, append_assoc}
use Rattle.grammar_core.specs.declared.table.Prod.{Prod}

pub and_then : (old mid new a b : List Prod) → mid ≡ old ++ a → new ≡ mid ++ b → new ≡ old ++ (a ++ b)
and_then old mid new a b e f = f ∙ ap (λ (l : List Prod). l ++ b) e ∙ append_assoc old a b
