-- Texts that are written one behind the other.
use Rattle.std.proofs.Common.{◌≡◌, ℕ, List, ◌++◌, append_assoc, ap, ◌∙◌}

pub behind : (start first second mid end : List ℕ) → mid ≡ start ++ first → end ≡ mid ++ second → end ≡ start ++ (first ++ second)
behind start first second mid end e f = f ∙ ap (λ l. l ++ second) e ∙ append_assoc start first second
