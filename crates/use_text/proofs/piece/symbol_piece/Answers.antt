use Rattle.std.proofs.Common.{◌≡◌, ◌∷◌, ◌<◌, ◌∙◌, ℕ, List, [], length, slice_index, arith}
use Rattle.use_text.specs.declared.words.TheConstants.{SYMBOLS}
use Rattle.use_text.specs.declared.piece.Piece.{Piece}
use Rattle.use_text.specs.Pieces.{symbol_among, symbol_piece}
use Rattle.use_text.proofs.piece.symbol_piece.Goals as goal

by_rest : (bytes : List ℕ) (of : List ℕ → Piece) → 0 < length bytes → ((rest : List ℕ) → of (slice_index bytes 0
    ∷ rest) ≡ symbol_among SYMBOLS (λ t. t.now) (slice_index bytes 0 ∷ rest)) → of bytes ≡ symbol_piece bytes
unfolding symbol_piece
by_rest [] of h f = absurd (omega (arith, h))
by_rest (b ∷ rest) of h f = f rest

pub returns-in-len1-up : goal.returns-in-len1-up
returns-in-len1-up c = c.symbol_among.ensures ∙ by_rest c.args.bytes.now (λ bytes. symbol_among c.symbols_from.result.now
    (λ t. t.now) bytes) c.in-len1-up.len_at_least c.symbols_from.ensures
