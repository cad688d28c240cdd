use Rattle.std.proofs.Common.{rules, ◌≡◌, ◌∙◌, Ok, ap}
use Rattle.std.proofs.lemmas.Str.{utf8_valid_len-IsUtf8}
use Rattle.use_session.proofs.Trimmed.{judged_empty, judged_long, judged_right}
use Rattle.use_session.proofs.file_word.judged.Goals as goal

pub returns-then-is_empty-clause-err : goal.returns-then-is_empty-clause-err
returns-then-is_empty-clause-err c = judged_empty c.args.name.now (utf8_valid_len-IsUtf8 c.args.name.now c.in-Ok.ensures.cases.1) (search rules)

pub returns-then-name-gt-MAX_NAME-clause-err : goal.returns-then-name-gt-MAX_NAME-clause-err
returns-then-name-gt-MAX_NAME-clause-err c = judged_long c.args.name.now (utf8_valid_len-IsUtf8 c.args.name.now c.in-Ok.ensures.cases.1) (search rules) (search rules)

pub returns-else-name-gt-MAX_NAME-clause-ok : goal.returns-else-name-gt-MAX_NAME-clause-ok
returns-else-name-gt-MAX_NAME-clause-ok c =
    let same : c.args.name.now ≡ c.in-Ok.name.now = search rules in
    judged_right c.args.name.now (utf8_valid_len-IsUtf8 c.args.name.now c.in-Ok.ensures.cases.1) (search rules) (search rules) ∙ ap Ok same
