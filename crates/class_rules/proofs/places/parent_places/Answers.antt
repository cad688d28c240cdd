use Rattle.std.specs.List.{filter_map}
use Rattle.class_rules.specs.Numbering.{class_at, place_in}
use Rattle.class_rules.proofs.PlacedClasses.{choices_alike, rows_alike}
use Rattle.class_rules.proofs.places.parent_places.Goals as goal

pub returns : goal.returns
returns c =
    rw (c.in_ok-rows.ensures, c.as_slice.ensures)
    (rows_alike (λ d. filter_map (λ p. place_in c.in_ok-places.places p.text) d.parents) (λ d. filter_map
    (λ p. class_at c.args.decls.now p.text) d.parents)
    (λ d. choices_alike (λ p. place_in c.in_ok-places.places p.text) (λ p. class_at c.args.decls.now p.text)
    (λ p. c.in_ok-places.ensures p.text) d.parents)
    c.args.decls.now.classes)
