use Rattle.std.proofs.Common.{ap, ◌∙◌, List, ℕ}
use Rattle.class_rules.specs.Numbering.{place_in}
use Rattle.class_rules.proofs.places.place_of.Goals as goal

pub returns : goal.returns
returns c = c.copied.ensures ∙ c.get.ensures.value ∙ ap (λ (t : List ℕ). place_in c.args.places.now t) c.as_str.ensures
