use Rattle.std.proofs.Common.{arith, drop, length}
use Rattle.use_text.specs.Tokens.{tokens_from}
use Rattle.use_text.proofs.TokenLemmas.{before_some, within_some}
use Rattle.use_text.proofs.lexer.lex_utf8.Goals as goal

pub pieces-preserved : goal.pieces-preserved
pieces-preserved c =
    let on = c.in-Ok.ensures.ok in
    let near = on.near in
    let old = c.pieces.invariant.near in
    let next = c.in-Ok.next in
    let more = tokens_from 0 next.at next.place next.end (drop next.at c.args.text.now) in
    record {
      within = on.within;
      near = record { short = old.short; line = omega (arith, near.line, old.line, on.ahead); col = omega (arith, near.col, old.col, on.ahead) };
      each = rw (c.in_ok-push_if_some.ensures) (within_some (length c.args.text.now) c.pieces.tokens.items next.token c.pieces.invariant.each on.token);
      end = on.end;
      so_far = rw (c.in_ok-push_if_some.ensures, before_some c.pieces.tokens.items next.token more, ← on.read) c.pieces.invariant.so_far;
    }
