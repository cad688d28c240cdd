use Rattle.std.proofs.Common.{◌≡◌, ◌∙◌, ap, take, drop, Ok}
use Rattle.std.proofs.lemmas.Iterator.{YieldsList-from_chars, YieldsList-from_take, text_from_collect}
use Rattle.std.proofs.lemmas.Iterator.Adapters.{YieldsList-from_skip}
use Rattle.std.proofs.lemmas.Iterator.Consumers.{YieldsList-at}
use Rattle.std.specs.Str.{chars, encode_utf8_all}
use Rattle.std.specs.declared.alloc.AllocError.{AllocError}
use Rattle.std.specs.String.{string_bytes}
use Rattle.ocl_values.specs.declared.value.Value.TheVariants.{Str}
use Rattle.ocl_values.proofs.string.part.Goals as goal

pub returns : goal.returns
returns c =
    let skips = YieldsList-from_skip c.args.skipped
    (YieldsList-at c.skip.ensures.source (YieldsList-from_chars c.args.s.now c.utf8.s cc)) c.skip.ensures.count in
    let takes = YieldsList-from_take c.args.count (YieldsList-at c.take.ensures.source skips) c.take.ensures.count in
    let bytes : string_bytes c.in_ok-text.text ≡ encode_utf8_all (take c.args.count (drop c.args.skipped (chars c.args.s.now))) =
    text_from_collect {E = AllocError} (Ok c.in_ok-text.text) c.in_ok-text.ensures.ran takes in
    ap Str (c.from_string.ensures ∙ bytes)
