-- Forms and levels that are left.
use Rattle.std.proofs.Common.{◌≡◌, ℕ, zero, suc, List, map, reverse, Option, Some, None, refl, ap, sym}
use Rattle.std.specs.Option.{option_map_or}
use Rattle.grammar_core.specs.Trees.{ParseTree}
use Rattle.use_text.specs.declared.place.Place.{Place}
use Rattle.use_decls.specs.Names.{LexedText}
use Rattle.ocl_syntax.specs.declared.layer.Behind.{Behind}
use Rattle.ocl_syntax.specs.declared.layer.Layer.{Layer}
use Rattle.ocl_syntax.specs.declared.layer.Piece.{Piece}
use Rattle.ocl_syntax.specs.declared.layer.Piece.TheVariants.{Binds, Node, Row}
use Rattle.ocl_syntax.specs.declared.tree.Written.{Written}
use Rattle.ocl_syntax.specs.declared.tree.Written.TheVariants.{TooDeep}
use Rattle.ocl_syntax.specs.Expressions.{expression_in, expression_of, layered}
use Rattle.ocl_syntax.specs.Layers.{binds_layer, layer_of, node_layer, row_layer}
use Rattle.ocl_syntax.specs.Made.{deeper, head_place, left_out, levels_in, made_of}
use Rattle.ocl_syntax.specs.Plain.{plain}

some_same : (m k : ℕ) → Some m ≡ Some k → m ≡ k
some_same m k e = cc

none_some : {A : Type 0} (k : ℕ) → None ≡ Some k → A
none_some k e = absurd (cc)

-- where a form is left
expression_more : (n k : ℕ) (l : LexedText) (levels : ℕ) (piece : Piece) → deeper n ≡ Some k → expression_in n l levels piece ≡ layered k l levels (layer_of l piece)
unfolding expression_in
expression_more zero k l levels piece e = none_some k e
expression_more (suc m) k l levels piece e = ap (λ j. expression_of (expression_in j l) levels (layer_of l piece)) (some_same m k e)

-- where none is left
pub expression_none : (n : ℕ) (l : LexedText) (levels : ℕ) (piece : Piece) → deeper n ≡ None → expression_in n l levels piece ≡ left_out
unfolding expression_in
expression_none zero l levels piece e = refl
expression_none (suc m) l levels piece e = none_some m (sym e)

-- at each piece
pub at_node : (n k : ℕ) (l : LexedText) (levels : ℕ) (t : ParseTree) → deeper n ≡ Some k
    → expression_in n l levels (Node t) ≡ layered k l levels (node_layer l (plain t))
unfolding layer_of
at_node n k l levels t e = expression_more n k l levels (Node t) e

pub at_row : (n k : ℕ) (l : LexedText) (levels : ℕ) (first : ParseTree) (behind : List Behind) → deeper n ≡ Some k
    → expression_in n l levels (Row first behind) ≡ layered k l levels (row_layer l first (reverse behind))
unfolding layer_of
at_row n k l levels first behind e = expression_more n k l levels (Row first behind) e

pub at_binds : (n k : ℕ) (l : LexedText) (levels : ℕ) (word : Option Place) (binds : List ParseTree) (body : ParseTree) → deeper n ≡ Some k
    → expression_in n l levels (Binds word binds body) ≡ layered k l levels (binds_layer l word binds body)
unfolding layer_of
at_binds n k l levels word binds body e = expression_more n k l levels (Binds word binds body) e

of_levels : (inside : ℕ → Piece → Written) (levels : ℕ) (o : Option ℕ) (layer : Layer) → levels_in levels layer.head ≡ o →
    expression_of inside levels layer ≡ option_map_or (λ m. made_of layer.head (map (inside m) layer.inner)) o (TooDeep (head_place layer.head))
of_levels inside levels o layer e = ap (λ x. option_map_or (λ m. made_of layer.head (map (inside m) layer.inner)) x (TooDeep (head_place layer.head))) e

-- a form where no level is left
pub too_deep : (fuel levels : ℕ) (l : LexedText) (layer : Layer) → levels_in levels layer.head ≡ None → layered fuel l levels layer ≡ TooDeep (head_place layer.head)
too_deep fuel levels l layer none = of_levels (expression_in fuel l) levels None layer none

-- a form where one is left
pub made_there : (fuel levels m : ℕ) (l : LexedText) (layer : Layer) → levels_in levels layer.head ≡ Some m
    → layered fuel l levels layer ≡ made_of layer.head (map (expression_in fuel l m) layer.inner)
made_there fuel levels m l layer some = of_levels (expression_in fuel l) levels (Some m) layer some
