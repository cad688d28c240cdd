use Rattle.std.proofs.Common.{◌≡◌, ◌+◌, ◌-◌, length, take, ap, ◌∙◌, arith}
use Rattle.std.specs.Str.{chars, encode_utf8_all}
use Rattle.std.proofs.lemmas.Str.{length-le-encodes, encodes-chars}
use Rattle.ocl_values.proofs.Finding.{found_at, found_nowhere}
use Rattle.ocl_values.proofs.string.index_of.Goals as goal

pub overflow_add-result : goal.overflow_add-result
overflow_add-result c =
    let front = c.range.result.now in
    let few = length-le-encodes (chars front) in
    let same : length (encode_utf8_all (chars front)) ≡ length front = ap length (encodes-chars front c.range.utf8) in
    omega (arith, few, same)

pub returns-in-Some : goal.returns-in-Some
returns-in-Some c =
    let cases = c.in-Some.ensures.cases in
    let all : c.in-Some.at - 0 ≡ c.in-Some.at = omega arith in
    ap (λ n. n + 1) (c.length_of.ensures ∙ ap (λ s. length (chars s)) (c.range.ensures.value ∙ ap (λ n. take n c.args.s.now) all))
    ∙ found_at c.args.s.now c.args.t.now c.utf8.s c.utf8.t c.in-Some.at cases.0 cases.3 cases.1.0 cases.1.1

pub returns-in-None : goal.returns-in-None
returns-in-None c = found_nowhere c.args.s.now c.args.t.now c.utf8.s c.utf8.t c.in-None.ensures.cases
