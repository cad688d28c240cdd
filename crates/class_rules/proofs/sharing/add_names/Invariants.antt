use Rattle.std.proofs.Common.{◌≡◌, ◌&&◌, ◌||◌, ℕ, List, nat_eq, take}
use Rattle.class_decls.specs.Texts.{has_text}
use Rattle.class_rules.specs.Groups.{listed}
use Rattle.class_rules.specs.Numbering.{is_among}
use Rattle.class_rules.proofs.sharing.add_names.Given as goal

abbrev pub invariant-names : goal.invariant-names
invariant-names l =
    (t : List ℕ) (n : ℕ) → is_among (listed l.groups t) n
    ≡ (is_among (listed l.fn.groups t) n || (nat_eq n l.number && has_text (take l.name-index l.names) t))
