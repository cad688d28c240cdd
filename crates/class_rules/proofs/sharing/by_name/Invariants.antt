use Rattle.std.proofs.Common.{◌≡◌, ◌&&◌, ℕ, List, nat_lt}
use Rattle.class_decls.specs.Texts.{has_text}
use Rattle.class_rules.specs.Groups.{listed}
use Rattle.class_rules.specs.Numbering.{is_among}
use Rattle.class_rules.specs.Shared.{names_numbered}
use Rattle.class_rules.proofs.sharing.by_name.Given as goal

abbrev pub invariant-numbers : goal.invariant-numbers
invariant-numbers l =
    (t : List ℕ) (n : ℕ) → is_among (listed l.groups t) n ≡ (nat_lt n l.number && has_text (names_numbered l.rule l.index n) t)
