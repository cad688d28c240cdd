use Rattle.std.proofs.Common.{◌++◌, ap, sym, ◌∙◌}
use Rattle.ocl_values.specs.declared.value.Value.TheVariants.{Str}
use Rattle.ocl_values.proofs.CharacterLists.{encodes_both}
use Rattle.ocl_values.proofs.string.concatenation.Goals as goal

pub returns : goal.returns
returns c =
    ap Str
    (c.from_string.ensures ∙ c.in_ok-push_str.ensures.bytes ∙ ap (λ x. x ++ c.args.t.now) c.in_ok-text.ensures.ok
    ∙ sym (encodes_both c.args.s.now c.args.t.now c.utf8.s c.utf8.t))
