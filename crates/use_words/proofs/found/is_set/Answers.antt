use Rattle.std.proofs.Common.{◌≡◌, ◌∙◌}
use Rattle.clap.specs.Matches.{found_of, one_text}
use Rattle.clap.specs.Walk.{one_of, rows_of}
use Rattle.use_words.proofs.Rows.{flag_is, one_text_is}
use Rattle.use_words.proofs.found.is_set.Goals as goal

-- src/found.rt:9:1
pub returns : goal.returns
returns c =
    let is : one_text (found_of c.args.matches.now) c.args.name.now ≡ one_of c.args.name.now (rows_of (found_of c.args.matches.now))
    = one_text_is (found_of c.args.matches.now) c.args.name.now in
    c.unwrap_or.ensures
    ∙ flag_is _ (one_of c.args.name.now (rows_of (found_of c.args.matches.now))) c.get_one.result
    (λ none. c.get_one.ensures.none (is ∙ none)) (λ t some. c.get_one.ensures.value t (is ∙ some))
