-- Rows of operands and of steps, from the last on.
use Rattle.std.proofs.Common.{◌≡◌, List, [], ◌∷◌, ◌++◌, reverse, ap, ◌∙◌}
use Rattle.std.proofs.lemmas.List.{reverse-append, reverse-reverse}
use Rattle.grammar_core.specs.Trees.{ParseTree}
use Rattle.use_decls.specs.Names.{LexedText}
use Rattle.ocl_syntax.specs.declared.layer.Behind.{Behind}
use Rattle.ocl_syntax.specs.declared.layer.Piece.TheVariants.{Row}
use Rattle.ocl_syntax.specs.Layers.{behind_layer, row_layer}

-- a row by what stands last in it
pub row_last : (l : LexedText) (first : ParseTree) (behind before : List Behind) (last : Behind) → behind ≡ before ++ last ∷ [] →
    row_layer l first (reverse behind) ≡ behind_layer l (Row first before) last
row_last l first behind before last e =
    ap (λ b. row_layer l first (reverse b)) e
    ∙ ap (row_layer l first) (reverse-append before (last ∷ []))
    ∙ ap (λ b. behind_layer l (Row first b) last) (reverse-reverse before)
