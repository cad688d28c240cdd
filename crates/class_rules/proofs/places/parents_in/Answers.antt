use Rattle.std.proofs.Common.{refl}
use Rattle.class_rules.specs.Numbering.{place_in}
use Rattle.class_decls.proofs.Numbered.{filter_map_more}
use Rattle.class_rules.proofs.places.parents_in.Goals as goal

pub parents-preserved : goal.parents-preserved
parents-preserved c =
    rw (
      c.in_ok-add_found.ensures,
      c.parents.invariant,
      c.place_of.ensures,
      filter_map_more (λ p. place_in c.args.places.now p.text) c.args.parents.now _ _ c.parents-test.true c.parent-item.is,
    ) refl
