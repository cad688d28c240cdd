use Rattle.std.proofs.Common.{◌≡◌, length, sym, ap, ◌∙◌, arith}
use Rattle.use_text.specs.declared.code.Family.TheVariants.{S}
use Rattle.use_text.specs.declared.place.Place.{Place}
use Rattle.use_text.specs.Codes.{code_of}
use Rattle.use_text.specs.Refusals.{refusal_at}
use Rattle.grammar_core.specs.declared.table.Table.{Table}
use Rattle.use_syntax.specs.Numbers.{number_of_rule}
use Rattle.use_syntax.specs.Reading.{refused, place_in}
use Rattle.use_syntax.proofs.Fitness.{rules_there}
use Rattle.use_syntax.proofs.Judged.{read_tree, read_stuck, read_deep}
use Rattle.use_syntax.proofs.reader.read_tokens.Goals as goal

pub parse-requires-clause-rule : goal.parse-requires-clause-rule
parse-requires-clause-rule c =
    let e = ap (λ (t : Table). length t.rules) c.requires.table in
    omega (arith, e, rules_there, c.number.ensures.small)

pub returns-in-Ok-clause-reading : goal.returns-in-Ok-clause-reading
returns-in-Ok-clause-reading c =
    read_tree c.args.g.now c.args.tokens c.as_slice.result.now (number_of_rule c.args.start) c.number.result c.requires.table c.as_slice.ensures
    c.number.ensures.is c.in-Ok.tree c.in-Ok.ensures.verdict

pub returns-in-Err-Stuck-clause-reading : goal.returns-in-Err-Stuck-clause-reading
returns-in-Err-Stuck-clause-reading c =
    let e = read_stuck c.args.g.now c.args.tokens c.as_slice.result.now (number_of_rule c.args.start) c.number.result c.requires.table c.as_slice.ensures
    c.number.ensures.is c.in-Err-Stuck.token (rw c.in-Err-Stuck.field-0-is at c.in-Err-Stuck.ensures.verdict) in
    let at : c.place_in-place.result ≡ place_in c.args.tokens c.in-Err-Stuck.token = rw (← c.in-Err-Stuck.token-is, ← c.as_slice-in-Err-Stuck.ensures)
    c.place_in-place.ensures in
    e ∙ ap (λ (p : Place). refused (refusal_at (code_of S 1) p)) (sym at)

pub returns-in-Err-Deep-clause-reading : goal.returns-in-Err-Deep-clause-reading
returns-in-Err-Deep-clause-reading c =
    let e = read_deep c.args.g.now c.args.tokens c.as_slice.result.now (number_of_rule c.args.start) c.number.result c.requires.table c.as_slice.ensures
    c.number.ensures.is c.in-Err-Deep.token (rw c.in-Err-Deep.field-0-is at c.in-Err-Deep.ensures.verdict) in
    let at : c.place_in-place-in-Err-Deep.result ≡ place_in c.args.tokens c.in-Err-Deep.token = rw (← c.in-Err-Deep.token-is, ← c.as_slice-in-Err-Deep.ensures)
    c.place_in-place-in-Err-Deep.ensures in
    e ∙ ap (λ (p : Place). refused (refusal_at (code_of S 2) p)) (sym at)
