use Rattle.std.proofs.Common.{Some, sym, ◌∙◌}
use Rattle.std.proofs.lemmas.Map.Text.{hash_map_updates_str}
use Rattle.class_rules.specs.Numbering.{place_in}
use Rattle.class_rules.proofs.PlacedClasses.{added, kept}
use Rattle.class_rules.proofs.places.add_place.Goals as goal

pub returns : goal.returns
returns c =
    added (place_in c.args.places.now) c.args.text.now c.args.place (place_in c.insert.new.self) (sym c.contains_key.ensures ∙ c.if-contains_key.false)
    (hash_map_updates_str c.args.text.now c.args.places.now c.insert.new.self (Some c.args.place) c.in_ok-insert.ensures.updates)

pub returns-then-contains_key : goal.returns-then-contains_key
returns-then-contains_key c =
    kept (place_in c.args.places.now) c.args.text.now c.args.place (sym c.contains_key.ensures ∙ c.if-contains_key.true)
