use Rattle.std.proofs.Common.{◌≡◌, ◌≤◌, drop, length, map}
use Rattle.class_decls.specs.Entries.{first_of}
use Rattle.class_decls.specs.References.{places_outside}
use Rattle.class_decls.specs.Texts.{has_text}
use Rattle.class_decls.proofs.references.first_outside.Given as goal

abbrev pub invariant-names : goal.invariant-names
invariant-names l = (l.first ≡ first_of l.fn.more (places_outside (has_text l.known) (map (λ n. n.now) (drop l.i l.names)))) × (l.i ≤ length l.names)

abbrev pub decreases-names : goal.decreases-names
decreases-names l = l.i
