use Rattle.std.proofs.Common.{length, ◌-◌, ◌≡◌, ◌≤◌, drop, All}
use Rattle.use_text.specs.Tokens.{tokens_of_utf8, tokens_from, IsWithin}
use Rattle.use_text.specs.TokenSteps.{before_all, IsNearStart}
use Rattle.use_text.proofs.lexer.lex_utf8.Given as goal

abbrev pub invariant-pieces : goal.invariant-pieces
invariant-pieces l = record {
  within : l.at ≤ length l.text;
  near : IsNearStart l.text l.at l.place;
  each : All (IsWithin (length l.text)) l.tokens.items;
  end : IsWithin (length l.text) l.end;
  so_far : before_all l.tokens.items (tokens_from 0 l.at l.place l.end (drop l.at l.text)) ≡ tokens_of_utf8 l.first_line l.text;
}

abbrev pub decreases-pieces : goal.decreases-pieces
decreases-pieces l = length l.text - l.at
