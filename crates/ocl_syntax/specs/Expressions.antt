-- Expressions as they are written, from the nodes of their tree.
use Rattle.std.specs.Prelude.{ℕ, zero, suc, map}
use Rattle.std.specs.Option.{option_map_or}
use Rattle.grammar_core.specs.Trees.{ParseTree}
use Rattle.use_decls.specs.Names.{LexedText}
use Rattle.ocl_syntax.specs.declared.layer.Layer.{Layer}
use Rattle.ocl_syntax.specs.declared.layer.Piece.{Piece}
use Rattle.ocl_syntax.specs.declared.layer.Piece.TheVariants.{Node}
use Rattle.ocl_syntax.specs.declared.tree.Written.{Written}
use Rattle.ocl_syntax.specs.declared.tree.Written.TheVariants.{TooDeep}
use Rattle.ocl_syntax.specs.Layers.{layer_of}
use Rattle.ocl_syntax.specs.Made.{head_place, left_out, levels_in, made_of}

-- a form where so many levels are left, by the expressions in it
abbrev pub expression_of : (ℕ → Piece → Written) → ℕ → Layer → Written
expression_of inside n layer = option_map_or (λ m. made_of layer.head (map (inside m) layer.inner)) (levels_in n layer.head) (TooDeep (head_place layer.head))

-- the expression at a piece where so many levels are left and at most so many forms are nested
unfoldable pub expression_in : ℕ → LexedText → ℕ → Piece → Written
expression_in zero l n piece = left_out
expression_in (suc fuel) l n piece = expression_of (expression_in fuel l) n (layer_of l piece)

-- the expression of a form, in which at most so many more are nested
abbrev pub layered : ℕ → LexedText → ℕ → Layer → Written
layered fuel l n layer = expression_of (expression_in fuel l) n layer

-- no expression that was read nests more forms: at most 257 take a level, with one other around each, and 200 are parentheses
abbrev pub max_forms : ℕ
max_forms = 1000

-- how deep written nodes may nest, parentheses not counted
abbrev pub max_depth : ℕ
max_depth = 256

-- an expression as it is written
unfoldable pub written : LexedText → ParseTree → Written
written l t = expression_in max_forms l max_depth (Node t)
