use Rattle.std.proofs.Common.{map, ap, sym, ◌∙◌}
use Rattle.std.specs.Char.{to_ascii_uppercase}
use Rattle.ocl_values.specs.declared.value.Value.TheVariants.{Str}
use Rattle.ocl_values.proofs.CharacterLists.{uppercase_chars}
use Rattle.ocl_values.proofs.string.uppercase.Goals as goal

pub returns : goal.returns
returns c =
    ap Str
    (c.from_string.ensures ∙ c.make_ascii_uppercase.ensures.bytes ∙ ap (map to_ascii_uppercase) c.in_ok-text.ensures.ok
    ∙ sym (uppercase_chars c.args.s.now c.utf8.s))
