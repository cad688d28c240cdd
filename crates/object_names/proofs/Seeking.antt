-- Where a name is taken, the search goes on with the next number.
use Rattle.std.proofs.Common.{◌≡◌, ℕ, suc, ◌+◌, ◌-◌, ◌<◌, false, if◌then◌else◌, List, ap, ◌∙◌, arith}
use Rattle.object_state.specs.State.{State}
use Rattle.object_names.specs.Names.{first_free, is_free, numbered}

pub first_later : (s : State) (word : List ℕ) (n last : ℕ) → n < last → is_free s (numbered word n) ≡ false
    → first_free s word n (last - n) ≡ first_free s word (n + 1) (last - (n + 1))
first_later s word n last less taken =
    let tries = last - (n + 1) in
    let more : last - n ≡ suc tries = omega (arith, less) in
    ap (first_free s word n) more ∙ ap (λ b. if b then numbered word n else first_free s word (n + 1) tries) taken
