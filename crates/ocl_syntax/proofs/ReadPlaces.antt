-- The places in an expression of a text that was read are those of tokens: so many forms as nest in it are never too many.
use Rattle.std.proofs.Common.{◌≡◌, ◌≢◌, ◌≤◌, ◌+◌, ℕ, zero, suc, List, [], ◌∷◌, map, Option, Some, slice_get, refl, sym, subst, ap, ◌∙◌, arith, inl, ⊎_elim, append-nil}
use Rattle.std.proofs.Math.Nat.{le-max_left, le-max_right}
use Rattle.std.specs.List.{AllByRecursion}
use Rattle.std.specs.Option.{option_map_or}
use Rattle.std.proofs.lemmas.List.{length-map}
use Rattle.std.proofs.lemmas.List.Elements.{All-contains, All-from_recursion}
use Rattle.use_text.specs.declared.place.Place.{Place}
use Rattle.use_text.specs.declared.token.Token.{Token}
use Rattle.use_text.specs.Places.{place_at}
use Rattle.use_text.specs.Tokens.{tokens}
use Rattle.grammar_core.specs.Derives.{kinds, max_level}
use Rattle.grammar_core.specs.Trees.{ParseTree, leaf, node, leaves, numbered, onto, Row, row_leaves}
use Rattle.grammar_core.proofs.Yield.{tree_leaves}
use Rattle.use_syntax.specs.declared.rule.Rule.{Rule}
use Rattle.use_syntax.specs.declared.rule.Rule.TheVariants as r
use Rattle.use_syntax.specs.Language.{language}
use Rattle.use_syntax.specs.Numbers.{number_of_rule}
use Rattle.use_syntax.specs.Reading.{read_command, read_model}
use Rattle.use_nodes.specs.Depth.{depth, nests, one_more_if}
use Rattle.use_nodes.specs.Nodes.{EachNode}
use Rattle.use_nodes.specs.Typed.{HasItsSorts}
use Rattle.use_nodes.specs.Written.{WritesNumber}
use Rattle.use_nodes.proofs.Depths.{derived_shallow}
use Rattle.use_nodes.proofs.Numbers.{IsSound, sound_tokens}
use Rattle.use_nodes.proofs.Sorted.{node_has_sorts}
use Rattle.use_nodes.proofs.Walks.{IsDerived, command_derived, derived_has, model_derived}
use Rattle.use_decls.specs.Names.{LexedText}
use Rattle.ocl_syntax.specs.declared.layer.Layer.{Layer}
use Rattle.ocl_syntax.specs.declared.layer.Piece.{Piece}
use Rattle.ocl_syntax.specs.declared.layer.Piece.TheVariants.{Node, Row as RowOf, Binds}
use Rattle.ocl_syntax.specs.declared.tree.Written.{Written, out-Written}
use Rattle.ocl_syntax.specs.declared.tree.Written.TheVariants.{TooDeep}
use Rattle.ocl_syntax.specs.Expressions.{expression_in, expression_of, max_depth, max_forms, written}
use Rattle.ocl_syntax.specs.InTexts.{HasTokenPlaces, IsPlaceInText, ReadHasTokenPlaces}
use Rattle.ocl_syntax.specs.Layers as L
use Rattle.ocl_syntax.specs.Made.{deeper, head_place, made_of}
use Rattle.ocl_syntax.specs.Standing.{IsTokenPlace, StandsIn, own_places}
use Rattle.ocl_syntax.proofs.HeldMade.{Holds, made_holds, too_deep_holds}
use Rattle.ocl_syntax.proofs.ReadForms.{IsExpression, IsForm, IsPiece, IsSame, layer_form, node_layer_form}
use Rattle.ocl_syntax.proofs.ReadTrees.{IsLeafOf, IsRead, depth_inside, every_left, every_right, one_more_or_less}

module _ (l : LexedText) (number : (i : ℕ) (t : Token) → slice_get l.tokens i ≡ Some t → WritesNumber l.text t) where
  abbrev At : Place → Type 0
  At p = IsTokenPlace l.tokens p

  abbrev Kept : Written → Type 0
  Kept e = Holds At e

  abbrev IsPieceOf : ℕ → Piece → Type 0
  IsPieceOf n piece = IsPiece l number n piece

  -- ---- how many forms nest at most, where so many levels and so many parentheses are left

  abbrev least : ℕ → ℕ → Piece → ℕ
  least levels n (Node t) = levels + levels + n + n + 1
  least levels n (RowOf first bs) = levels + levels + n + n + 2
  least levels n (Binds word binds body) = levels + levels + n + n + 2

  at_most : (levels n : ℕ) (piece : Piece) → least levels n piece ≤ levels + levels + n + n + 2
  at_most levels n (Node t) = omega arith
  at_most levels n (RowOf first bs) = omega arith
  at_most levels n (Binds word binds body) = omega arith

  -- what holds of the expressions in a form where so many are left to nest
  abbrev Inside : ℕ → Type 0
  Inside fuel = (levels n : ℕ) (piece : Piece) → IsPieceOf n piece → least levels n piece ≤ fuel → Kept (expression_in fuel l levels piece)

  each_kept : (fuel levels n : ℕ) → Inside fuel → (all : List Piece) → AllByRecursion (IsPieceOf n) all → levels + levels + n + n + 2 ≤ fuel
      → AllByRecursion Kept (map (expression_in fuel l levels) all)
  each_kept fuel levels n inside [] h low = tt
  each_kept fuel levels n inside (piece ∷ all) h low =
      let most = at_most levels n piece in
      (inside levels n piece h.0 (omega (arith, most, low)), each_kept fuel levels n inside all h.1 low)

  abbrev of_levels : ℕ → Layer → Option ℕ → Written
  of_levels fuel layer o =
      option_map_or (λ m. made_of layer.head (map (expression_in fuel l m) layer.inner)) o (TooDeep (head_place layer.head))

  made_kept : (fuel levels n : ℕ) → Inside fuel → (layer : Layer) (form : IsForm l number n layer)
      → levels + levels + form.inside + form.inside + 2 ≤ fuel → Kept (made_of layer.head (map (expression_in fuel l levels) layer.inner))
  made_kept fuel levels n inside layer form low =
      let long = length-map layer.inner (expression_in fuel l levels) in
      let enough = form.enough in
      made_holds At layer.head (map (expression_in fuel l levels) layer.inner) form.held (inl (omega (arith, long, enough)))
      (each_kept fuel levels form.inside inside layer.inner form.inner low)

  deeper_kept : (fuel levels n : ℕ) → Inside fuel → (layer : Layer) (form : IsForm l number n layer) → form.inside ≤ n → levels + levels + n + n ≤ fuel
      → Kept (of_levels fuel layer (deeper levels))
  deeper_kept fuel zero n inside layer form less low = too_deep_holds At (head_place layer.head) form.placed
  deeper_kept fuel (suc m) n inside layer form less low = made_kept fuel m n inside layer form (omega (arith, less, low))

  form_kept : (fuel levels n : ℕ) → Inside fuel → (layer : Layer) → IsForm l number n layer → levels + levels + n + n ≤ fuel
      → Kept (expression_of (expression_in fuel l) levels layer)
  form_kept fuel levels n inside layer form low =
      ⊎_elim
      (λ c. subst (λ (o : Option ℕ). Kept (of_levels fuel layer o)) (sym (c.0 levels)) (deeper_kept fuel levels n inside layer form c.1 low))
      (λ c. subst (λ (o : Option ℕ). Kept (of_levels fuel layer o)) (sym (c.0 levels))
      (let less = c.1 in made_kept fuel levels n inside layer form (omega (arith, less, low)))) form.cost

  same_kept : (fuel levels n : ℕ) → Inside fuel → (layer : Layer) → IsSame l number n layer → levels + levels + n + n + 1 ≤ fuel
      → Kept (expression_of (expression_in fuel l) levels layer)
  same_kept fuel levels n inside layer h low =
      subst (λ (x : Layer). Kept (expression_of (expression_in fuel l) levels x)) (sym h.is)
      (made_holds At (L.same (Node h.node)).head (map (expression_in fuel l levels) (L.same (Node h.node)).inner) tt (inl (omega arith))
      (inside levels n (Node h.node) h.expression low, tt))

  piece_kept : (fuel levels n : ℕ) (piece : Piece) → Inside fuel → IsPieceOf n piece → least levels n piece ≤ suc fuel
      → Kept (expression_of (expression_in fuel l) levels (L.layer_of l piece))
  piece_kept fuel levels n (Node t) inside h low =
      form_kept fuel levels n inside (L.layer_of l (Node t)) (node_layer_form l number n t h) (omega (arith, low))
  piece_kept fuel levels n (RowOf first bs) inside h low =
      ⊎_elim (λ form. form_kept fuel levels n inside (L.layer_of l (RowOf first bs)) form (omega (arith, low)))
      (λ same. same_kept fuel levels n inside (L.layer_of l (RowOf first bs)) same (omega (arith, low))) (layer_form l number n (RowOf first bs) h)
  piece_kept fuel levels n (Binds word binds body) inside h low =
      ⊎_elim (λ form. form_kept fuel levels n inside (L.layer_of l (Binds word binds body)) form (omega (arith, low)))
      (λ same. same_kept fuel levels n inside (L.layer_of l (Binds word binds body)) same (omega (arith, low)))
      (layer_form l number n (Binds word binds body) h)

  some_needed : (levels n : ℕ) (piece : Piece) → least levels n piece ≤ 0 → ⊥
  some_needed levels n (Node t) low = omega (arith, low)
  some_needed levels n (RowOf first bs) low = omega (arith, low)
  some_needed levels n (Binds word binds body) low = omega (arith, low)

  expression_kept : (fuel : ℕ) → Inside fuel
  unfolding expression_in
  expression_kept zero levels n piece h low = absurd (some_needed levels n piece low)
  expression_kept (suc fuel) levels n piece h low = piece_kept fuel levels n piece (expression_kept fuel) h low

  written_kept : (t : ParseTree) → IsExpression l number max_level t → Kept (written l t)
  unfolding written
  written_kept t h = expression_kept max_forms max_depth max_level (Node t) h (omega arith)

  pub places_kept : (t : ParseTree) → IsExpression l number max_level t → (p : Place) → StandsIn p (written l t) → IsTokenPlace l.tokens p
  places_kept t h p s =
      All-contains At (own_places (out-Written s.part)) p (All-from_recursion At (own_places (out-Written s.part)) (written_kept t h s.part s.within)) s.own

-- ---- tokens

-- a token at a place of a list in which each is such
at_place : (P : Token → Type 0) (ts : List Token) → AllByRecursion P ts → (i : ℕ) (t : Token) → slice_get ts i ≡ Some t → P t
at_place P [] h i t e = absurd (cc)
at_place P (x ∷ ts) h zero t e = let same : x ≡ t = cc in subst P same h.0
at_place P (x ∷ ts) h (suc i) t e = at_place P ts h.1 i t e

-- a place of tokens that stand in columns from 1 on
no_zero : (p : Place) → 1 ≤ p.col → p ≢ place_at 0 0
no_zero p h e = let c : p.col ≡ 0 = ap (λ (q : Place). q.col) e in omega (arith, h, c)

in_column : (text : List ℕ) (ts : List Token) → AllByRecursion (IsSound text) ts → AllByRecursion (λ p. 1 ≤ p.col) (map (λ t. t.place) ts)
in_column text [] h = tt
in_column text (t ∷ ts) h = (h.0.column, in_column text ts h.1)

place_in_text : (text : List ℕ) (ts : List Token) → AllByRecursion (IsSound text) ts → (p : Place) → IsTokenPlace ts p → IsPlaceInText ts p
place_in_text text ts h p is =
    let places : List Place = map (λ t. t.place) ts in (
      is,
      no_zero p (All-contains (λ q. 1 ≤ q.col) places p (All-from_recursion (λ q. 1 ≤ q.col) places (in_column text ts h)) is),
    )

-- ---- the leaves of a tree are its tokens

kind_at : (ts : List Token) (i : ℕ) (k : ℕ) → slice_get (kinds ts) i ≡ Some k → (t : Token) × ((slice_get ts i ≡ Some t) × (t.kind ≡ k))
kind_at [] i k e = absurd (cc)
kind_at (x ∷ ts) zero k e = let same : x.kind ≡ k = cc in (x, (refl, same))
kind_at (x ∷ ts) (suc i) k e = kind_at ts i k e

numbered_at : (ks all : List ℕ) (i : ℕ) → ((j k : ℕ) → slice_get ks j ≡ Some k → slice_get all (j + i) ≡ Some k)
    → AllByRecursion (λ label. slice_get all label.1 ≡ Some label.0) (numbered i ks)
numbered_at [] all i g = tt
numbered_at (k ∷ ks) all i g =
    let z : 0 + i ≡ i = omega arith in (
      subst (λ (m : ℕ). slice_get all m ≡ Some k) z (g 0 k refl),
      numbered_at ks all (suc i) (λ j x e. let n : suc j + i ≡ j + suc i = omega arith in subst (λ (m : ℕ). slice_get all m ≡ Some x) n (g (suc j) x e)),
    )

leaf_weaker : (ts : List Token) (labels : List (ℕ × ℕ)) → AllByRecursion (λ label. slice_get (kinds ts) label.1 ≡ Some label.0) labels
    → AllByRecursion (IsLeafOf ts) labels
leaf_weaker ts [] h = tt
leaf_weaker ts (label ∷ labels) h =
    let it = kind_at ts label.1 label.0 h.0 in
    (record { token = it.0; there = it.1.0; kind = it.1.1 }, leaf_weaker ts labels h.1)

leaves_there : (ts : List Token) (labels : List (ℕ × ℕ)) → labels ≡ numbered 0 (kinds ts) → AllByRecursion (IsLeafOf ts) labels
leaves_there ts labels e =
    let all : List ℕ = kinds ts in
    leaf_weaker ts labels
    (subst (λ (xs : List (ℕ × ℕ)). AllByRecursion (λ label. slice_get all label.1 ≡ Some label.0) xs) (sym e)
    (numbered_at all all 0 (λ j k h. let z : j ≡ j + 0 = omega arith in subst (λ (m : ℕ). slice_get all m ≡ Some k) z h)))

-- ---- each node of a tree

module _ (text : List ℕ) (ts : List Token) (sound : AllByRecursion (IsSound text) ts) where
  abbrev read_text : LexedText
  read_text = record { text = text; tokens = ts }

  number_at : (i : ℕ) (t : Token) → slice_get ts i ≡ Some t → WritesNumber text t
  number_at i t e = (at_place (IsSound text) ts sound i t e).number

  has_places : (t : ParseTree) → IsRead ts t → depth_inside t ≤ max_level → HasTokenPlaces read_text t
  has_places t read within is p s =
      place_in_text text ts sound p
      (places_kept read_text number_at t (record { read = read; is = is; within = within; low = omega arith }) p s)

  each_has_places : (row : Row) → EachNode HasItsSorts row → AllByRecursion (IsLeafOf ts) (row_leaves row) → depth row ≤ max_level
      → EachNode (HasTokenPlaces read_text) row
  each_has_places Row.none h k low = tt
  each_has_places (Row.token kind at row) h k low = each_has_places row h k.1 low
  each_has_places (Row.rule q below row) h k low =
      let one = one_more_if (nests (node q below)) (depth below) in
      let left = le-max_left one (depth row) in
      let right = le-max_right one (depth row) in
      let more = one_more_or_less (nests (node q below)) (depth below) in
      let mine = every_left (IsLeafOf ts) (row_leaves below) (row_leaves row) k in (
        has_places (node q below) (record { typed = (h.0, h.1, tt); tokens = mine }) (omega (arith, left, more, low)),
        each_has_places below h.1 mine (omega (arith, left, more, low)),
        each_has_places row h.2 (every_right (IsLeafOf ts) (row_leaves below) (row_leaves row) k) (omega (arith, right, low)),
      )

one_leaves : (t : ParseTree) → row_leaves (onto t Row.none) ≡ leaves t
one_leaves (leaf k at) = refl
one_leaves (node q row) = append-nil (row_leaves row)

derived_has_places : (start : Rule) (first_line : ℕ) (text : List ℕ) (ts : List Token) (tree : ParseTree) → IsDerived start (tokens first_line text) ts tree
    → EachNode (HasTokenPlaces (record { text = text; tokens = ts })) (onto tree Row.none)
derived_has_places start first_line text ts tree it =
    each_has_places text ts (sound_tokens first_line text ts it.tokens) (onto tree Row.none)
    (derived_has HasItsSorts node_has_sorts (kinds ts) start tree it.derived)
    (leaves_there ts (row_leaves (onto tree Row.none)) (one_leaves tree ∙ tree_leaves language (kinds ts) (number_of_rule start) tree it.derived))
    (derived_shallow (kinds ts) start tree it.derived)

pub model_has_places : (text : List ℕ) → ReadHasTokenPlaces text (read_model text)
model_has_places text ts tree e = derived_has_places r.File 1 text ts tree (model_derived text ts tree e)

pub command_has_places : (first_line : ℕ) (text : List ℕ) → ReadHasTokenPlaces text (read_command first_line text)
command_has_places first_line text ts tree e = derived_has_places r.Command first_line text ts tree (command_derived first_line text ts tree e)
