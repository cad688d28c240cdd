-- The places that stand in an expression that is written are those of tokens.
use Rattle.std.proofs.Common.{◌≡◌, ℕ, zero, suc, ◌<◌, List, [], ◌∷◌, length, map, Contains, Option, Some, None, refl, sym, subst, ap, arith, inl, inr, ⊎_elim}
use Rattle.std.specs.Prelude.{slice_get}
use Rattle.std.specs.List.{AllByRecursion}
use Rattle.std.specs.Option.{option_map_or}
use Rattle.std.proofs.lemmas.Option.{slice_get_cases}
use Rattle.std.proofs.lemmas.List.Elements.{All-contains, All-from_recursion}
use Rattle.use_text.specs.declared.place.Place.{Place}
use Rattle.use_text.specs.declared.token.Token.{Token}
use Rattle.grammar_core.specs.Trees.{ParseTree}
use Rattle.use_syntax.specs.Reading.{place_or}
use Rattle.use_decls.specs.Names.{LexedText}
use Rattle.ocl_syntax.specs.declared.layer.Head.{Head}
use Rattle.ocl_syntax.specs.declared.layer.Head.TheVariants as h
use Rattle.ocl_syntax.specs.declared.layer.Layer.{Layer}
use Rattle.ocl_syntax.specs.declared.layer.Piece.{Piece}
use Rattle.ocl_syntax.specs.declared.layer.Piece.TheVariants.{Node}
use Rattle.ocl_syntax.specs.declared.tree.Written.{Written, out-Written}
use Rattle.ocl_syntax.specs.declared.tree.Written.TheVariants.{TooDeep}
use Rattle.ocl_syntax.specs.Expressions.{expression_in, max_depth, max_forms, written}
use Rattle.ocl_syntax.specs.Layers.{layer_of}
use Rattle.ocl_syntax.specs.Made.{head_place, levels_in, made_of}
use Rattle.ocl_syntax.specs.Standing.{IsTokenPlaceOrZero, StandsIn, own_places}
use Rattle.ocl_syntax.proofs.HeldForms.{IsKept, PieceHeld, layer_kept}
use Rattle.ocl_syntax.proofs.HeldMade.{HeadHeld, Holds, lacking_holds, made_holds, too_deep_holds}

-- the place of a token that is there
pub among : (t : Token) (ts : List Token) (i : ℕ) → i < length ts → slice_get ts i ≡ Some t → Contains (map (λ x. x.place) ts) t.place
among t [] i below is = absurd (omega (arith, below))
among t (x ∷ ts) zero below is = (0, omega arith, ap (λ o. place_or o) is)
among t (x ∷ ts) (suc i) below is = let k = among t ts i (omega (arith, below)) is in (suc k.0, omega (arith, k.1), k.2)

module _ (l : LexedText) where
  abbrev At : Place → Type 0
  At p = IsTokenPlaceOrZero l.tokens p

  abbrev Kept : Written → Type 0
  Kept e = Holds At e

  lacks : At (place_or None)
  lacks = inr refl

  of_token : (i : ℕ) → At (place_or (slice_get l.tokens i))
  of_token i =
      ⊎_elim (λ s. subst (λ o. At (place_or o)) (sym s.2) (inl (among s.0 l.tokens i s.1 s.2))) (λ s. subst (λ o. At (place_or o)) (sym s.1) lacks)
      ((slice_get_cases l.tokens i).1)

  placed : (head : Head) → HeadHeld At head → At (head_place head)
  placed h.Lacking g = g
  placed h.Same g = lacks
  placed (h.Literal at value) g = g
  placed (h.OnlyLiteral at name) g = g.0
  placed (h.Named name literal is_before heads) g = g.0
  placed (h.Collection at kind heads) g = g.0
  placed (h.If at) g = g
  placed (h.Let at name t) g = g.1
  placed (h.Unary at operator) g = g
  placed (h.Binary at operator) g = g
  placed (h.Dot name is_before heads) g = g.0
  placed (h.Arrow name heads) g = g.0
  placed (h.Group at) g = g

  abbrev Held : Piece → Type 0
  Held piece = PieceHeld l At lacks of_token piece

  abbrev Pieces : List Piece → Type 0
  Pieces all = AllByRecursion Held all

  each_kept : (inside : Piece → Written) → ((piece : Piece) → Held piece → Kept (inside piece)) → (all : List Piece) → Pieces all →
      AllByRecursion Kept (map inside all)
  each_kept inside g [] k = tt
  each_kept inside g (piece ∷ all) k = (g piece k.0, each_kept inside g all k.1)

  form_kept : (inside : ℕ → Piece → Written) → ((n : ℕ) (piece : Piece) → Held piece → Kept (inside n piece)) → (layer : Layer) →
      HeadHeld At layer.head → Pieces layer.inner → (o : Option ℕ) →
      Kept (option_map_or (λ left. made_of layer.head (map (inside left) layer.inner)) o (TooDeep (head_place layer.head)))
  form_kept inside g layer head pieces None = too_deep_holds At (head_place layer.head) (placed layer.head head)
  form_kept inside g layer head pieces (Some left) =
      made_holds At layer.head (map (inside left) layer.inner) head (inr lacks) (each_kept (inside left) (g left) layer.inner pieces)

  layer_there : (piece : Piece) → Held piece → IsKept l At lacks of_token (layer_of l piece)
  layer_there piece g = layer_kept l At lacks of_token piece g

  expression_kept : (fuel n : ℕ) (piece : Piece) → Held piece → Kept (expression_in fuel l n piece)
  unfolding expression_in
  expression_kept zero n piece g = lacking_holds At lacks
  expression_kept (suc fuel) n piece g =
      form_kept (expression_in fuel l) (expression_kept fuel) (layer_of l piece) (layer_there piece g).0 (layer_there piece g).1
      (levels_in n (layer_of l piece).head)

  written_kept : (t : ParseTree) → Kept (written l t)
  unfolding written
  written_kept t = expression_kept max_forms max_depth (Node t) tt

  pub places_kept : (t : ParseTree) (p : Place) → StandsIn p (written l t) → IsTokenPlaceOrZero l.tokens p
  places_kept t p s =
      All-contains At (own_places (out-Written s.part)) p (All-from_recursion At (own_places (out-Written s.part)) (written_kept t s.part s.within)) s.own
