use Rattle.std.proofs.Common.{rules, arith, ◌∙◌}
use Rattle.use_session.proofs.Trimmed.{dark_before, none_before, white_before}
use Rattle.use_session.proofs.file_word.trimmed.Goals as goal
use Rattle.use_session.proofs.file_word.trimmed.Goals.{then-bytes-test+else-is_white, else-bytes-test}

pub bytes-preserved : goal.bytes-preserved
bytes-preserved c = record {
  within = omega (arith, c.bytes.invariant.within);
  same = white_before c.args.text.now c.bytes.end (search rules) c.bytes.invariant.within (search rules) ∙ c.bytes.invariant.same;
}

pub returns : goal.returns
returns c = elim c.bytes-test.branch [
  | then-bytes-test+else-is_white w ↦ dark_before c.args.text.now c.bytes.end (search rules) c.bytes.invariant.within (search rules) ∙ c.bytes.invariant.same
  | else-bytes-test w ↦ none_before c.args.text.now c.bytes.end (search rules) ∙ c.bytes.invariant.same
]
