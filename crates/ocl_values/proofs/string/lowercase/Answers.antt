use Rattle.std.proofs.Common.{map, ap, sym, ◌∙◌}
use Rattle.std.specs.Char.{to_ascii_lowercase}
use Rattle.ocl_values.specs.declared.value.Value.TheVariants.{Str}
use Rattle.ocl_values.proofs.CharacterLists.{lowercase_chars}
use Rattle.ocl_values.proofs.string.lowercase.Goals as goal

pub returns : goal.returns
returns c =
    ap Str
    (c.from_string.ensures ∙ c.make_ascii_lowercase.ensures.bytes ∙ ap (map to_ascii_lowercase) c.in_ok-text.ensures.ok
    ∙ sym (lowercase_chars c.args.s.now c.utf8.s))
