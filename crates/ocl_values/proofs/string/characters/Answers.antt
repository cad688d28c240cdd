use Rattle.std.proofs.Common.{◌≡◌, ◌∙◌, ap, sym, ℕ, [], ◌∷◌, map}
use Rattle.std.proofs.lemmas.Iterator.{YieldsList-from_chars}
use Rattle.std.proofs.lemmas.Iterator.Consumers.{YieldsList-end}
use Rattle.std.proofs.lemmas.List.{map-id}
use Rattle.std.specs.Str.{chars}
use Rattle.ocl_values.specs.Strings.{string_of}
use Rattle.ocl_values.specs.declared.value.Kind.TheVariants.{Sequence}
use Rattle.ocl_values.specs.declared.value.Value.TheVariants.{Coll}
use Rattle.ocl_values.proofs.string.characters.Goals as goal

pub returns : goal.returns
returns c =
    let t = YieldsList-end (YieldsList-from_chars c.args.s.now c.utf8.s cc) c.each.yielded _ c.each.yielded_by _ _ c.in-None.is c.next.ensures.steps in
    let all : c.each.yielded ≡ chars c.args.s.now = sym (map-id c.each.yielded) ∙ t.0 in
    ap (Coll Sequence) (c.from_vec.ensures ∙ c.each.invariant ∙ ap (map (λ (x : ℕ). string_of (x ∷ []))) all)
