-- The form at each piece of an expression that was read: its places are those of tokens, and it has each expression that it takes.
use Rattle.std.proofs.Common.{◌≡◌, ◌≤◌, ◌==◌, ◌||◌, ℕ, zero, suc, ◌+◌, ◌-◌, not, if◌then◌else◌, Bool, true, false, List, [], ◌∷◌, ◌++◌, length, map, filter, flat_map, take, reverse, Option, Some, None, is_some, slice_get, unwrap_or, refl, sym, subst, ap, ◌∙◌, arith, inl, inr, ◌⊎◌}
use Rattle.std.specs.List.{AllByRecursion}
use Rattle.std.specs.Option.{IfSome, option_map, option_map_or, option_to_list}
use Rattle.std.proofs.lemmas.Grind.{reverse_onto}
use Rattle.std.proofs.lemmas.List.{length-append, length-reverse}
use Rattle.std.proofs.lemmas.Option.{slice_get_within}
use Rattle.std.proofs.lemmas.Bool.Decides.{nat_tests}
use Rattle.use_text.specs.declared.place.Place.{Place}
use Rattle.use_text.specs.declared.token.Token.{Token}
use Rattle.use_text.specs.declared.token.TokenKind.{TokenKind}
use Rattle.use_text.specs.declared.token.TokenKind.TheVariants as k
use Rattle.use_text.specs.Kinds.{number_of}
use Rattle.grammar_core.specs.Derives.{max_level}
use Rattle.grammar_core.specs.Trees.{ParseTree, leaf, node, below}
use Rattle.use_syntax.specs.declared.rule.Rule.{Rule}
use Rattle.use_syntax.specs.declared.rule.Rule.TheVariants as r
use Rattle.use_syntax.specs.Reading.{place_or}
use Rattle.use_nodes.specs.declared.parts.Select.{Select}
use Rattle.use_nodes.specs.declared.parts.Select.TheVariants as s
use Rattle.use_nodes.specs.declared.expressions.ArgsNode.{ArgsNode}
use Rattle.use_nodes.specs.declared.expressions.ItemNode.{ItemNode}
use Rattle.use_nodes.specs.declared.expressions.PartNode.{PartNode}
use Rattle.use_nodes.specs.declared.types.TypeNode.{TypeNode}
use Rattle.use_nodes.specs.Depth.{nests}
use Rattle.use_nodes.specs.Nodes.{all_behind, and_then, behind, child, has, is_node, is_rule, is_token, next_to, of, part, parts, selects, token_in}
use Rattle.use_nodes.specs.ExpressionNodes.{item_node}
use Rattle.use_nodes.specs.ExpressionNodes.{is_chain, part_node}
use Rattle.use_nodes.specs.TypeNodes.{type_node}
use Rattle.use_nodes.specs.Typed.{Fact, a_kind, a_name, a_rule, a_token, after, are_so, at_most_one, at_most_one_behind, each, first_of, is_at_most_one, is_one_of, maybe, nth, some_of, there}
use Rattle.use_nodes.specs.Written.{WritesNumber, number_written}
use Rattle.ocl_values.specs.declared.value.Kind.{Kind}
use Rattle.class_decls.specs.declared.decls.TypeDecl.{TypeDecl}
use Rattle.use_decls.specs.Names.{LexedText, name_at, number_at}
use Rattle.use_decls.specs.Types.{kind_at, max_depth, type_at, type_decl, type_in, type_of_node}
use Rattle.ocl_syntax.specs.declared.layer.ArgumentHead.{ArgumentHead}
use Rattle.ocl_syntax.specs.declared.layer.ArgumentHead.TheVariants as a
use Rattle.ocl_syntax.specs.declared.layer.ArgumentLayer.{ArgumentLayer}
use Rattle.ocl_syntax.specs.declared.layer.Behind.{Behind}
use Rattle.ocl_syntax.specs.declared.layer.Behind.TheVariants.{Operator, Step}
use Rattle.ocl_syntax.specs.declared.layer.Head.{Head}
use Rattle.ocl_syntax.specs.declared.layer.Head.TheVariants as h
use Rattle.ocl_syntax.specs.declared.layer.Layer.{Layer}
use Rattle.ocl_syntax.specs.declared.layer.PartHead.TheVariants as p
use Rattle.ocl_syntax.specs.declared.layer.Piece.{Piece}
use Rattle.ocl_syntax.specs.declared.layer.Piece.TheVariants.{Node, Row, Binds}
use Rattle.ocl_syntax.specs.declared.tree.WrittenLiteral.{WrittenLiteral}
use Rattle.ocl_syntax.specs.declared.tree.WrittenLiteral.TheVariants as w
use Rattle.ocl_syntax.specs.InTexts.{is_expression}
use Rattle.ocl_syntax.specs.Layers as L
use Rattle.ocl_syntax.specs.Made.{deeper, head_place, levels_in}
use Rattle.ocl_syntax.specs.Plain.{may_pass, next_of, plain}
use Rattle.ocl_syntax.specs.Standing.{IsTokenPlace, of_name}
use Rattle.ocl_syntax.specs.Tokens.{literal_at, place_at, place_of_mark, string_at, unary_operator}
use Rattle.ocl_syntax.proofs.HeldMade.{ArgumentHeld, ArgumentsHeld, HeadHeld, PartHeld, TypeHeld, every_append, heads_of, takes, takes_argument, takes_arguments, takes_part, takes_parts}
use Rattle.ocl_syntax.proofs.ReadTrees.{IsRead, IsReadWithin, IsThere, depth_inside, depth_of, deeper_within, every_both, every_weaker, expression_sort, facts_there, first_fact, held_at, held_next, held_sought, if_it_is_there, inside_below, it_is_there, more_facts, nests_deeper, parts_read, parts_within, rule_sort, sought_pass, token_of}
use Rattle.ocl_syntax.proofs.ReadAlone.{alone_at_most, alone_by_count, alone_by_nodes, alone_by_steps, chain_there, in_primary, in_unary, meant, not_alone, steps_sorts}
use Rattle.ocl_syntax.proofs.TokenPlaces.{among}

-- ---- lists

every_reverse : {X : Type 0} (P : X → Type 0) (xs : List X) → AllByRecursion P xs → AllByRecursion P (reverse xs)
every_reverse P [] h = tt
every_reverse P (x ∷ xs) h =
    subst (AllByRecursion P) (sym (reverse_onto xs x [])) (every_append P (reverse xs) (x ∷ []) (every_reverse P xs h.1) (h.0, tt))

every_map : {X Y : Type 0} (P : X → Type 0) (Q : Y → Type 0) (f : X → Y) → ((x : X) → P x → Q (f x)) → (xs : List X) → AllByRecursion P xs
    → AllByRecursion Q (map f xs)
every_map P Q f g [] h = tt
every_map P Q f g (x ∷ xs) h = (g x h.0, every_map P Q f g xs h.1)

every_flat : {X Y : Type 0} (P : X → Type 0) (Q : Y → Type 0) (f : X → List Y) → ((x : X) → P x → AllByRecursion Q (f x)) → (xs : List X)
    → AllByRecursion P xs → AllByRecursion Q (flat_map f xs)
every_flat P Q f g [] h = tt
every_flat P Q f g (x ∷ xs) h = every_append Q (f x) (flat_map f xs) (g x h.0) (every_flat P Q f g xs h.1)

every_front : {X : Type 0} (P : X → Type 0) (xs ys : List X) → AllByRecursion P (xs ++ ys) → AllByRecursion P xs
every_front P [] ys h = tt
every_front P (x ∷ xs) ys h = (h.0, every_front P xs ys h.1)

every_end : {X : Type 0} (P : X → Type 0) (xs ys : List X) → AllByRecursion P (xs ++ ys) → AllByRecursion P ys
every_end P [] ys h = h
every_end P (x ∷ xs) ys h = every_end P xs ys h.1

take_all : (xs : List ParseTree) → take (length xs) xs ≡ xs
take_all [] = refl
take_all (x ∷ xs) = ap (λ (l : List ParseTree). x ∷ l) (take_all xs)

take_front : (xs ys : List ParseTree) → take (length xs) (xs ++ ys) ≡ xs
take_front [] ys = refl
take_front (x ∷ xs) ys = ap (λ (l : List ParseTree). x ∷ l) (take_front xs ys)

-- the last one that is sought
pub record IsLast (x : ParseTree) (xs : List ParseTree) : Type 0 where
  pub before : List ParseTree
  pub is : xs ≡ before ++ x ∷ []

-- where one that is sought stands behind a token, and at most one does, it is the last
last_behind : (kind : TokenKind) (f : ParseTree → Bool) (xs : List ParseTree) (x : ParseTree) → next_to kind xs ≡ Some x → f x ≡ true
    → is_at_most_one (filter f (all_behind kind xs)) ≡ true → IsLast x (filter f xs)
last_behind kind f [] x e is most = absurd (cc)
last_behind kind f (y ∷ xs) x e is most = here (is_token kind y) (f y) e most (last_behind kind f xs x)
  where
    only : (xs : List ParseTree) → slice_get xs 0 ≡ Some x → is_at_most_one (filter f xs) ≡ true → filter f xs ≡ x ∷ []
    only [] e most = absurd (cc)
    only (z ∷ zs) e most =
        let same : z ≡ x = cc in
        by_test (f z) (subst (λ (u : ParseTree). f u ≡ true) (sym same) is) (filter f zs) most ∙ ap (λ (u : ParseTree). u ∷ []) same
      where
        by_test : (b : Bool) → b ≡ true → (us : List ParseTree) → is_at_most_one (if b then z ∷ us else us) ≡ true → (if b then z ∷ us else us) ≡ z ∷ []
        by_test true e [] most = refl
        by_test true e (u ∷ us) most = absurd (cc)
        by_test false e us most = absurd (cc)

    more : (b : Bool) (us : List ParseTree) → IsLast x us → IsLast x (if b then y ∷ us else us)
    more true us last = record { before = y ∷ last.before; is = ap (λ (l : List ParseTree). y ∷ l) last.is }
    more false us last = last

    here : (b c : Bool) → (if b then slice_get xs 0 else next_to kind xs) ≡ Some x → is_at_most_one (filter f (if b then xs else all_behind kind xs)) ≡ true
        → (next_to kind xs ≡ Some x → f x ≡ true → is_at_most_one (filter f (all_behind kind xs)) ≡ true → IsLast x (filter f xs))
        → IsLast x (if c then y ∷ filter f xs else filter f xs)
    here true c e most later = more c (filter f xs) (record { before = []; is = only xs e most })
    here false c e most later = more c (filter f xs) (later e is most)

-- ---- nodes by their rules

of_rule : {N : Type 0} (rule : Rule) (t : ParseTree) (o : Option N) → is_rule rule t ≡ true → of rule t o ≡ o
of_rule rule t o e = ap (λ (b : Bool). if b then o else None) e

-- a form where there is one, or else another
choose : {N : Type 0} (P : Layer → Type 0) (b : Bool) (o : Option N) (f : N → Layer) (d : Layer) → (b ≡ true → P (option_map_or f o d))
    → (b ≡ false → P d) → P (option_map_or f (if b then o else None) d)
choose P true o f d g h = g refl
choose P false o f d g h = h refl

-- a form of a part that is there
with_part : {N : Type 0} (P : Layer → Type 0) (o : Option ParseTree) (next : ParseTree → Option N) (f : N → Layer) (d : Layer) (sorts : List Select)
    → IsThere sorts o → ((x : ParseTree) → o ≡ Some x → is_one_of sorts x ≡ true → P (option_map_or f (next x) d)) → P (option_map_or f (and_then o next) d)
with_part P None next f d sorts it g = let e = it.there in absurd (cc)
with_part P (Some x) next f d sorts it g =
    let e = it.there in
    let same : it.tree ≡ x = cc in
    g x refl (subst (λ (y : ParseTree). is_one_of sorts y ≡ true) same it.sort)

-- a token that stands before another part is there
marked : (kind : TokenKind) (xs : List ParseTree) (x : ParseTree) → next_to kind xs ≡ Some x
    → is_some (slice_get (filter (selects (s.Token kind)) xs) 0) ≡ true
marked kind [] x e = absurd (cc)
marked kind (y ∷ xs) x e = here (is_token kind y) e (marked kind xs x)
  where
    here : (b : Bool) → (if b then slice_get xs 0 else next_to kind xs) ≡ Some x
        → (next_to kind xs ≡ Some x → is_some (slice_get (filter (selects (s.Token kind)) xs) 0) ≡ true)
        → is_some (slice_get (if b then y ∷ filter (selects (s.Token kind)) xs else filter (selects (s.Token kind)) xs) 0) ≡ true
    here true e later = refl
    here false e later = later e

type_is_nesting : (t : ParseTree) → is_rule r.Type t ≡ true → nests t ≡ true
type_is_nesting t e = ap (λ (b : Bool). b || is_rule r.Unary t || is_rule r.Expr t || is_rule r.Stmt t) e

or_any : (a b c d : Bool) → c ≡ true → (a || b || c || d) ≡ true
or_any true b c d e = refl
or_any false true c d e = refl
or_any false false true d e = refl
or_any false false false d e = absurd (cc)

expression_is_nesting : (t : ParseTree) → is_rule r.Expr t ≡ true → nests t ≡ true
expression_is_nesting t e = or_any (is_rule r.Type t) (is_rule r.Unary t) (is_rule r.Expr t) (is_rule r.Stmt t) e

module _ (l : LexedText) (number : (i : ℕ) (t : Token) → slice_get l.tokens i ≡ Some t → WritesNumber l.text t) where
  abbrev pub At : Place → Type 0
  At p = IsTokenPlace l.tokens p

  abbrev Read : ParseTree → Type 0
  Read t = IsRead l.tokens t

  abbrev Within : ℕ → ParseTree → Type 0
  Within n t = IsReadWithin l.tokens n t

  -- ---- tokens

  token_placed : (t : ParseTree) → Read t → is_node t ≡ false → At (place_at l t)
  token_placed (leaf kind at) read is =
      let it = read.tokens.0 in
      subst (λ (o : Option Token). At (place_or o)) (sym it.there) (among it.token l.tokens at (slice_get_within l.tokens at it.token it.there) it.there)
  token_placed (node q row) read is = absurd (cc)

  name_placed : (t : ParseTree) → Read t → is_one_of a_name t ≡ true → At (name_at l t).place
  name_placed t read is = token_placed t read (token_of a_name t refl is)

  mark_of : (kind : TokenKind) (o : Option ParseTree) → ((m : ParseTree) → o ≡ Some m → Read m × (is_token kind m ≡ true)) → is_some o ≡ true
      → At (place_or (and_then o (token_in l.tokens)))
  mark_of kind None g e = absurd (cc)
  mark_of kind (Some m) g e = token_placed m (g m refl).0 (is_leaf m (g m refl).1)
    where
      is_leaf : (t : ParseTree) → is_token kind t ≡ true → is_node t ≡ false
      is_leaf (leaf a at) h = refl
      is_leaf (node q row) h = absurd (cc)

  mark_placed : (kind : TokenKind) (t : ParseTree) → Read t → is_some (part (s.Token kind) t) ≡ true → At (place_of_mark l kind t)
  mark_placed kind t read e =
      let P : ParseTree → Type 0 = λ m. Within (depth_inside t) m in
      let Q : ParseTree → Type 0 = λ m. is_token kind m ≡ true in
      let all = every_both P Q (parts (s.Token kind) t) (held_sought P (selects (s.Token kind)) (below t) (parts_read l.tokens t read))
      (sought_pass (selects (s.Token kind)) (below t)) in
      mark_of kind (part (s.Token kind) t)
      (λ m is. let both = held_at (λ x. P x × Q x) (parts (s.Token kind) t) all 0 m is in (both.0.read, both.1)) e

  behind_mark : (kind : TokenKind) (t x : ParseTree) → Read t → behind kind t ≡ Some x → At (place_of_mark l kind t)
  behind_mark kind t x read e = mark_placed kind t read (marked kind (below t) x e)

  -- ---- types

  element_placed : (n : ℕ) (outer : List Kind) (found : TypeNode) (o : Option ParseTree) → At (place_at l found.word)
      → ((inner : List Kind) (x : ParseTree) → o ≡ Some x → At (type_in n l inner x).name.place) → At (type_at (type_in n l) l outer found o).name.place
  element_placed n outer found None word g = word
  element_placed n outer found (Some x) word g = g (outer ++ kind_at found.word ∷ []) x refl

  abbrev type_sorts : List Select
  type_sorts = a_name ++ a_kind

  type_placed : (n : ℕ) (outer : List Kind) (t : ParseTree) → Read t → is_rule r.Type t ≡ true → depth_of t ≤ n → At (type_in n l outer t).name.place
  type_placed zero outer t read is low = let d = nests_deeper t (type_is_nesting t is) in absurd (omega (arith, d, low))
  type_placed (suc n) outer t read is low =
      let d = nests_deeper t (type_is_nesting t is) in
      let first = there (nth 0) type_sorts in
      let element = maybe (after k.LeftParen) (a_rule r.Type) in
      let all = facts_there l.tokens r.Type t read is in
      let word = it_is_there type_sorts (child 0 t) (first_fact first (element ∷ []) t all) in
      let inner = more_facts first (element ∷ []) t all in
      let made : ParseTree → Option TypeNode = λ w. Some (record { word = w; element = behind k.LeftParen t }) in
      let same : type_node t ≡ made word.tree = of_rule r.Type t (and_then (child 0 t) made) is ∙ ap (λ (o : Option ParseTree). and_then o made) word.there in
      let below_it = parts_read l.tokens t read in
      let token = held_at (Within (depth_inside t)) (below t) below_it 0 word.tree word.there in
      subst (λ (o : Option TypeNode). At (type_of_node (type_in n l) l outer t o).name.place) (sym same)
      (element_placed n outer (record { word = word.tree; element = behind k.LeftParen t }) (behind k.LeftParen t)
      (token_placed word.tree token.read (token_of type_sorts word.tree refl word.sort))
      (λ kinds x e.
      let one = held_next (Within (depth_inside t)) k.LeftParen (below t) below_it x e in
      let w = one.within in
      type_placed n kinds x one.read
      (rule_sort r.Type x (if_it_is_there (a_rule r.Type) (behind k.LeftParen t) x (first_fact element [] t inner) e)) (omega (arith, w, d, low))))

  declared : (t : ParseTree) → Within max_level t → is_rule r.Type t ≡ true → At (type_decl l t).name.place
  unfolding type_decl
  declared t h is = let w = h.within in type_placed max_depth [] t h.read is (omega (arith, w))

  -- ---- what pieces are

  -- a tree inside an expression
  pub record IsInside (n : ℕ) (t : ParseTree) : Type 0 where
    pub tree : Within n t
    pub low : n ≤ max_level

  -- a node of an expression
  pub record IsExpression (n : ℕ) (t : ParseTree) : Type 0 where
    pub read : Read t
    pub is : is_expression t ≡ true
    pub within : depth_inside t ≤ n
    pub low : n ≤ max_level

  expression_inside : (n : ℕ) (t : ParseTree) → IsInside n t → is_expression t ≡ true → IsExpression n t
  expression_inside n t h is =
      let w = h.tree.within in
      let i = inside_below t in
      record { read = h.tree.read; is = is; within = omega (arith, w, i); low = h.low }

  -- the trees right below a node
  parts_inside : (n : ℕ) (t : ParseTree) → Read t → depth_inside t ≤ n → n ≤ max_level → AllByRecursion (IsInside n) (below t)
  parts_inside n t read within low =
      every_weaker (Within n) (IsInside n) (λ x h. record { tree = h; low = low }) (below t) (parts_within l.tokens n t read within)

  parts_of_tree : (n : ℕ) (t : ParseTree) → IsInside n t → AllByRecursion (IsInside n) (below t)
  parts_of_tree n t h = let w = h.tree.within in let i = inside_below t in parts_inside n t h.tree.read (omega (arith, w, i)) h.low

  declared_inside : (n : ℕ) (t : ParseTree) → IsInside n t → is_rule r.Type t ≡ true → At (type_decl l t).name.place
  declared_inside n t h is = declared t (deeper_within l.tokens n max_level h.low t h.tree) is

  abbrev IsBehind : ℕ → Behind → Type 0
  IsBehind n (Operator operator operand) = (Read operator × (is_node operator ≡ false)) × IsExpression n operand
  IsBehind n (Step t) = IsInside n t × (selects s.Steps t ≡ true)

  abbrev IsOf : Rule → ℕ → ParseTree → Type 0
  IsOf rule n t = IsInside n t × (is_rule rule t ≡ true)

  abbrev pub IsPiece : ℕ → Piece → Type 0
  IsPiece n (Node t) = IsExpression n t
  IsPiece n (Row first bs) = IsExpression n first × AllByRecursion (IsBehind n) bs
  IsPiece n (Binds word binds body) = IfSome word At × AllByRecursion (IsOf r.Bind n) binds × IsExpression n body

  -- a form takes a level, or is parentheses, inside which one less stands
  abbrev pub IsCost : ℕ → ℕ → Head → Type 0
  IsCost n m head = (((levels : ℕ) → levels_in levels head ≡ deeper levels) × (m ≤ n)) ⊎ (((levels : ℕ) → levels_in levels head ≡ Some levels) × (suc m ≤ n))

  -- a form that lacks nothing
  pub record IsForm (n : ℕ) (layer : Layer) : Type 0 where
    pub held : HeadHeld At layer.head
    pub placed : At (head_place layer.head)
    pub enough : takes layer.head ≤ length layer.inner
    pub inside : ℕ
    pub cost : IsCost n inside layer.head
    pub inner : AllByRecursion (IsPiece inside) layer.inner

  -- or the same as a node
  pub record IsSame (n : ℕ) (layer : Layer) : Type 0 where
    pub node : ParseTree
    pub is : layer ≡ L.same (Node node)
    pub expression : IsExpression n node

  level_form : (n : ℕ) (layer : Layer) → HeadHeld At layer.head → At (head_place layer.head) → takes layer.head ≤ length layer.inner
      → ((levels : ℕ) → levels_in levels layer.head ≡ deeper levels) → AllByRecursion (IsPiece n) layer.inner → IsForm n layer
  level_form n layer held placed enough level inner =
      record { held = held; placed = placed; enough = enough; inside = n; cost = inl (level, omega arith); inner = inner }

  -- a part that is there, and one that may be
  part_is : (n : ℕ) (t : ParseTree) → AllByRecursion (IsInside n) (below t) → (i : ℕ) (x : ParseTree) → child i t ≡ Some x → IsInside n x
  part_is n t all i x e = held_at (IsInside n) (below t) all i x e

  behind_is : (n : ℕ) (t : ParseTree) → AllByRecursion (IsInside n) (below t) → (kind : TokenKind) (x : ParseTree) → behind kind t ≡ Some x → IsInside n x
  behind_is n t all kind x e = held_next (IsInside n) kind (below t) all x e

  sought_are : (n : ℕ) (t : ParseTree) → AllByRecursion (IsInside n) (below t) → (select : Select) → AllByRecursion (IsInside n) (parts select t)
  sought_are n t all select = held_sought (IsInside n) (selects select) (below t) all

  first_is : (n : ℕ) (t : ParseTree) → AllByRecursion (IsInside n) (below t) → (select : Select) (x : ParseTree) → part select t ≡ Some x → IsInside n x
  first_is n t all select x e = held_at (IsInside n) (parts select t) (sought_are n t all select) 0 x e

  of_each : (n : ℕ) (t : ParseTree) → AllByRecursion (IsInside n) (below t) → (rule : Rule) → AllByRecursion (IsOf rule n) (parts (s.Rule rule) t)
  of_each n t all rule =
      every_both (IsInside n) (λ x. is_rule rule x ≡ true) (parts (s.Rule rule) t) (sought_are n t all (s.Rule rule)) (sought_pass (is_rule rule) (below t))

  -- an expression that may be there
  maybe_expression : (n : ℕ) (t : ParseTree) → AllByRecursion (IsInside n) (below t) → (kind : TokenKind) (more : List Fact)
      → are_so (maybe (after kind) (a_rule r.Expr) ∷ more) t ≡ true → (x : ParseTree) → behind kind t ≡ Some x → IsExpression n x
  maybe_expression n t all kind more e x is =
      expression_inside n x (behind_is n t all kind x is)
      (expression_sort (a_rule r.Expr) x refl
      (if_it_is_there (a_rule r.Expr) (behind kind t) x (first_fact (maybe (after kind) (a_rule r.Expr)) more t e) is))

  expression_at : (n : ℕ) (x : ParseTree) → IsInside n x → is_one_of (a_rule r.Expr) x ≡ true → IsExpression n x
  expression_at n x h is = expression_inside n x h (expression_sort (a_rule r.Expr) x refl is)

  maybe_type : (n : ℕ) (t : ParseTree) → AllByRecursion (IsInside n) (below t) → (more : List Fact)
      → are_so (maybe (after k.Colon) (a_rule r.Type) ∷ more) t ≡ true → TypeHeld At (option_map (type_decl l) (behind k.Colon t))
  maybe_type n t all more e = by_option (behind k.Colon t) (λ x is. declared_inside n x (behind_is n t all k.Colon x is)
      (rule_sort r.Type x (if_it_is_there (a_rule r.Type) (behind k.Colon t) x (first_fact (maybe (after k.Colon) (a_rule r.Type)) more t e) is)))
    where
      by_option : (o : Option ParseTree) → ((x : ParseTree) → o ≡ Some x → At (type_decl l x).name.place) → TypeHeld At (option_map (type_decl l) o)
      by_option None g = tt
      by_option (Some x) g = (g x refl, tt)

  nodes_if : (n : ℕ) (o : Option ParseTree) → ((x : ParseTree) → o ≡ Some x → IsExpression n x) → AllByRecursion (IsPiece n) (option_to_list (option_map Node o))
  nodes_if n None g = tt
  nodes_if n (Some x) g = (g x refl, tt)

  -- ---- arguments

  item_expression : (n : ℕ) (t : ParseTree) → IsOf r.Item n t → IsThere (a_rule r.Expr) (child 0 t)
  item_expression n t h =
      it_is_there (a_rule r.Expr) (child 0 t)
      (first_fact (there (nth 0) (a_rule r.Expr)) (maybe (after k.Colon) (a_rule r.Type) ∷ maybe (after k.Equal) (a_rule r.Expr) ∷ []) t
      (facts_there l.tokens r.Item t h.0.tree.read h.1))

  item_facts : (n : ℕ) (t : ParseTree) → IsOf r.Item n t → are_so (maybe (after k.Colon) (a_rule r.Type) ∷ maybe (after k.Equal) (a_rule r.Expr) ∷ []) t ≡ true
  item_facts n t h =
      more_facts (there (nth 0) (a_rule r.Expr)) (maybe (after k.Colon) (a_rule r.Type) ∷ maybe (after k.Equal) (a_rule r.Expr) ∷ []) t
      (facts_there l.tokens r.Item t h.0.tree.read h.1)

  abbrev item_of : ParseTree → ParseTree → ItemNode
  item_of t e = record { expression = e; of_type = behind k.Colon t; start = behind k.Equal t }

  item_same : (n : ℕ) (t : ParseTree) → (h : IsOf r.Item n t) → item_node t ≡ Some (item_of t (item_expression n t h).tree)
  item_same n t h =
      of_rule r.Item t (and_then (child 0 t) (λ e. Some (item_of t e))) h.1
      ∙ ap (λ (o : Option ParseTree). and_then o (λ e. Some (item_of t e))) (item_expression n t h).there

  argument_held : (is_accumulator : Bool) (of_type : Option TypeDecl) (has_start : Bool) → TypeHeld At of_type
      → ArgumentHeld At (L.argument_head is_accumulator of_type has_start)
  argument_held true of_type has_start h = h
  argument_held false of_type has_start h = h

  item_held : (is_accumulator : Bool) (n : ℕ) (t : ParseTree) → IsOf r.Item n t → ArgumentHeld At (L.item_head l is_accumulator t)
  item_held is_accumulator n t h =
      let head : ItemNode → ArgumentHead =
      λ node. L.argument_head is_accumulator (option_map (type_decl l) node.of_type) (is_some node.start) in
      subst (λ (o : Option ItemNode). ArgumentHeld At (option_map_or head o (L.argument_head is_accumulator None false))) (sym (item_same n t h))
      (argument_held is_accumulator (option_map (type_decl l) (behind k.Colon t)) (is_some (behind k.Equal t))
      (maybe_type n t (parts_of_tree n t h.0) (maybe (after k.Equal) (a_rule r.Expr) ∷ []) (item_facts n t h)))

  item_pieces : (n : ℕ) (t : ParseTree) → IsOf r.Item n t → AllByRecursion (IsPiece n) (L.item_inner t)
  item_pieces n t h =
      let pieces : ItemNode → List Piece = λ node. Node node.expression ∷ option_to_list (option_map Node node.start) in
      let e = item_expression n t h in
      let all = parts_of_tree n t h.0 in
      subst (λ (o : Option ItemNode). AllByRecursion (IsPiece n) (option_map_or pieces o (Node t ∷ []))) (sym (item_same n t h)) (
        expression_at n e.tree (part_is n t all 0 e.tree e.there) e.sort,
        nodes_if n (behind k.Equal t)
            (maybe_expression n t all k.Equal [] (more_facts (maybe (after k.Colon) (a_rule r.Type)) (maybe (after k.Equal) (a_rule r.Expr) ∷ []) t (item_facts n t h))),
      )

  item_takes : (is_accumulator : Bool) (t : ParseTree) → takes_argument (L.item_head l is_accumulator t) ≡ length (L.item_inner t)
  item_takes is_accumulator t = by_node is_accumulator (item_node t)
    where
      by_start : (b : Bool) (of_type : Option TypeDecl) (e : ParseTree) (start : Option ParseTree)
          → takes_argument (L.argument_head b of_type (is_some start)) ≡ length (Node e ∷ option_to_list (option_map Node start))
      by_start true of_type e None = refl
      by_start true of_type e (Some x) = refl
      by_start false of_type e None = refl
      by_start false of_type e (Some x) = refl

      by_node : (b : Bool) (o : Option ItemNode)
          → takes_argument (option_map_or (λ node. L.argument_head b (option_map (type_decl l) node.of_type) (is_some node.start)) o (L.argument_head b None false))
          ≡ length (option_map_or (λ node. Node node.expression ∷ option_to_list (option_map Node node.start)) o (Node t ∷ []))
      by_node true None = refl
      by_node false None = refl
      by_node b (Some x) = by_start b (option_map (type_decl l) x.of_type) x.expression x.start

  takes_append : (hs ks : List ArgumentHead) → takes_arguments (hs ++ ks) ≡ takes_arguments hs + takes_arguments ks
  takes_append [] ks = omega arith
  takes_append (head ∷ hs) ks = let e = takes_append hs ks in omega (arith, e)

  abbrev inner_length : List ParseTree → ℕ
  inner_length items = length (flat_map L.item_inner items)

  inner_append : (xs ys : List ParseTree) → inner_length (xs ++ ys) ≡ inner_length xs + inner_length ys
  inner_append [] ys = omega arith
  inner_append (x ∷ xs) ys =
      let e = inner_append xs ys in
      let m = length-append (L.item_inner x) (flat_map L.item_inner (xs ++ ys)) in
      let n = length-append (L.item_inner x) (flat_map L.item_inner xs) in
      omega (arith, e, m, n)

  items_take : (is_accumulator : Bool) (items : List ParseTree) → takes_arguments (map (L.item_head l is_accumulator) items) ≡ inner_length items
  items_take is_accumulator [] = refl
  items_take is_accumulator (t ∷ items) =
      let e = items_take is_accumulator items in
      let one = item_takes is_accumulator t in
      let m = length-append (L.item_inner t) (flat_map L.item_inner items) in
      omega (arith, e, one, m)

  -- the items before the accumulator, and the accumulator
  record IsSplit (n : ℕ) (items : List ParseTree) (accumulator : Option ParseTree) : Type 0 where
    front : List ParseTree
    before : take (length items - length (option_to_list accumulator)) items ≡ front
    sum : inner_length items ≡ inner_length front + inner_length (option_to_list accumulator)
    each_before : AllByRecursion (IsOf r.Item n) front
    last : AllByRecursion (IsOf r.Item n) (option_to_list accumulator)

  split_items : (n : ℕ) (items : List ParseTree) (accumulator : Option ParseTree) → AllByRecursion (IsOf r.Item n) items
      → ((x : ParseTree) → accumulator ≡ Some x → IsLast x items) → IsSplit n items accumulator
  split_items n items None all last =
      let e : length items - 0 ≡ length items = omega arith in
      record {
        front = items;
        before = ap (λ (m : ℕ). take m items) e ∙ take_all items;
        sum = omega arith;
        each_before = all;
        last = tt;
      }
  split_items n items (Some x) all last =
      let it = last x refl in
      let long = length-append it.before (x ∷ []) in
      let e : length (it.before ++ x ∷ []) - 1 ≡ length it.before = omega (arith, long) in
      let every = subst (λ (xs : List ParseTree). AllByRecursion (IsOf r.Item n) xs) it.is all in
      record {
        front = it.before;
        before = ap (λ (xs : List ParseTree). take (length xs - 1) xs) it.is ∙ ap (λ (m : ℕ). take m (it.before ++ x ∷ [])) e ∙ take_front it.before (x ∷ []);
        sum = ap inner_length it.is ∙ inner_append it.before (x ∷ []);
        each_before = every_front (IsOf r.Item n) it.before (x ∷ []) every;
        last = every_end (IsOf r.Item n) it.before (x ∷ []) every;
      }

  pub record IsArguments (n : ℕ) (layer : ArgumentLayer) : Type 0 where
    pub held : ArgumentsHeld At layer.heads
    pub enough : takes_arguments (heads_of layer.heads) ≤ length layer.inner
    pub inner : AllByRecursion (IsPiece n) layer.inner

  last_held : (n : ℕ) (o : Option ParseTree) → AllByRecursion (IsOf r.Item n) (option_to_list o)
      → AllByRecursion (ArgumentHeld At) (option_to_list (option_map (L.item_head l true) o))
  last_held n None h = tt
  last_held n (Some x) h = (item_held true n x h.0, tt)

  last_takes : (o : Option ParseTree) → takes_arguments (option_to_list (option_map (L.item_head l true) o)) ≡ inner_length (option_to_list o)
  last_takes None = refl
  last_takes (Some x) = items_take true (x ∷ [])

  body_held : (o : Option ParseTree) → AllByRecursion (ArgumentHeld At) (option_to_list (option_map (λ body. a.Body) o))
  body_held None = tt
  body_held (Some x) = (tt, tt)

  body_takes : (o : Option ParseTree) → takes_arguments (option_to_list (option_map (λ body. a.Body) o)) ≡ length (option_to_list (option_map Node o))
  body_takes None = refl
  body_takes (Some x) = refl

  arguments_made : (n : ℕ) (items : List ParseTree) (accumulator body : Option ParseTree) → AllByRecursion (IsOf r.Item n) items
      → ((x : ParseTree) → accumulator ≡ Some x → IsLast x items) → ((x : ParseTree) → body ≡ Some x → IsExpression n x)
      → IsArguments n (L.arguments_of l (record { items = items; accumulator = accumulator; body = body }))
  arguments_made n items accumulator body all last inside =
      let it = split_items n items accumulator all last in
      let first : List ArgumentHead = map (L.item_head l false) (take (length items - length (option_to_list accumulator)) items) in
      let second : List ArgumentHead = option_to_list (option_map (L.item_head l true) accumulator) in
      let third : List ArgumentHead = option_to_list (option_map (λ b. a.Body) body) in
      let same : first ≡ map (L.item_head l false) it.front = ap (λ (xs : List ParseTree). map (L.item_head l false) xs) it.before in
      let held = subst (λ (xs : List ArgumentHead). AllByRecursion (ArgumentHeld At) xs) (sym same)
      (every_map (IsOf r.Item n) (ArgumentHeld At) (L.item_head l false) (item_held false n) it.front it.each_before) in
      let x = takes_append (first ++ second) third in
      let y = takes_append first second in
      let z = ap takes_arguments same ∙ items_take false it.front in
      let u = last_takes accumulator in
      let v = body_takes body in
      let w = length-append (flat_map L.item_inner items) (option_to_list (option_map Node body)) in
      let s = it.sum in
      record {
        held = every_append (ArgumentHeld At) (first ++ second) third (every_append (ArgumentHeld At) first second held (last_held n accumulator it.last))
            (body_held body);
        enough = omega (arith, x, y, z, u, v, w, s);
        inner = every_append (IsPiece n) (flat_map L.item_inner items) (option_to_list (option_map Node body))
            (every_flat (IsOf r.Item n) (IsPiece n) L.item_inner (item_pieces n) items all) (nodes_if n body inside);
      }

  arguments_at : (n : ℕ) (o : Option ParseTree) → ((x : ParseTree) → o ≡ Some x → IsOf r.Args n x) → IsArguments n (L.arguments_at l o)
  arguments_at n None g = record { held = tt; enough = omega arith; inner = tt }
  arguments_at n (Some t) g =
      let h = g t refl in
      let all = parts_of_tree n t h.0 in
      let last = maybe (after k.Semicolon) (a_rule r.Item) in
      let body = maybe (after k.Bar) (a_rule r.Expr) in
      let most = at_most_one_behind k.Semicolon (s.Rule r.Item) in
      let said = facts_there l.tokens r.Args t h.0.tree.read h.1 in
      let later = more_facts last (body ∷ most ∷ []) t said in
      let node : ArgsNode = record { items = parts (s.Rule r.Item) t; accumulator = behind k.Semicolon t; body = behind k.Bar t } in
      subst (λ (o : Option ArgsNode). IsArguments n (option_map_or (L.arguments_of l) o (L.no_arguments (Some [])))) (sym (of_rule r.Args t (Some node) h.1))
      (arguments_made n (parts (s.Rule r.Item) t) (behind k.Semicolon t) (behind k.Bar t) (of_each n t all r.Item)
      (λ x e. last_behind k.Semicolon (is_rule r.Item) (below t) x e
      (rule_sort r.Item x (if_it_is_there (a_rule r.Item) (behind k.Semicolon t) x (first_fact last (body ∷ most ∷ []) t said) e))
      (first_fact most [] t (more_facts body (most ∷ []) t later)))
      (maybe_expression n t all k.Bar (most ∷ []) later))

  arguments_below : (n : ℕ) (t : ParseTree) → AllByRecursion (IsInside n) (below t) → IsArguments n (L.arguments_at l (part (s.Rule r.Args) t))
  arguments_below n t all =
      arguments_at n (part (s.Rule r.Args) t) (λ x e. held_at (IsOf r.Args n) (parts (s.Rule r.Args) t) (of_each n t all r.Args) 0 x e)

  -- ---- rows

  abbrev dot_sorts : List Select
  dot_sorts = a_name ++ a_token k.Div ++ a_token k.Mod

  dot_form : (n : ℕ) (source : Piece) (t : ParseTree) (d : Layer) → IsPiece n source → IsInside n t → is_rule r.Dot t ≡ true
      → IsForm n (option_map_or (L.dot_layer l source) (and_then (behind k.Dot t) (λ name. Some (record {
        name = name;
        is_before = has k.AtPre t;
        arguments = part (s.Rule r.Args) t;
      }))) d)
  dot_form n source t d from h is =
      let all = parts_of_tree n t h in
      let args = arguments_below n t all in
      let enough = args.enough in
      with_part (IsForm n) (behind k.Dot t) _ (L.dot_layer l source) d dot_sorts
      (it_is_there dot_sorts (behind k.Dot t) (first_fact (there (after k.Dot) dot_sorts) [] t (facts_there l.tokens r.Dot t h.tree.read is)))
      (λ name e sort. let placed = token_placed name (behind_is n t all k.Dot name e).tree.read (token_of dot_sorts name refl sort) in
      level_form n _ (placed, args.held) placed (omega (arith, enough)) (λ levels. refl) (from, args.inner))

  arrow_form : (n : ℕ) (source : Piece) (t : ParseTree) (d : Layer) → IsPiece n source → IsInside n t → is_rule r.Arrow t ≡ true
      → IsForm n (option_map_or (L.arrow_layer l source) (and_then (behind k.Arrow t) (λ name. Some (record {
        name = name;
        arguments = part (s.Rule r.Args) t;
      }))) d)
  arrow_form n source t d from h is =
      let all = parts_of_tree n t h in
      let args = arguments_below n t all in
      let enough = args.enough in
      with_part (IsForm n) (behind k.Arrow t) _ (L.arrow_layer l source) d a_name
      (it_is_there a_name (behind k.Arrow t) (first_fact (there (after k.Arrow) a_name) [] t (facts_there l.tokens r.Arrow t h.tree.read is)))
      (λ name e sort. let placed = name_placed name (behind_is n t all k.Arrow name e).tree.read sort in
      level_form n _ (placed, args.held) placed (omega (arith, enough)) (λ levels. refl) (from, args.inner))

  neither : {A : Type 0} (a b : Bool) → (a || b) ≡ true → a ≡ false → b ≡ false → A
  neither true b h e f = absurd (cc)
  neither false true h e f = absurd (cc)
  neither false false h e f = absurd (cc)

  step_form : (n : ℕ) (source : Piece) (t : ParseTree) → IsPiece n source → IsInside n t → selects s.Steps t ≡ true → IsForm n (L.step_layer l source t)
  step_form n source t from h is =
      choose (IsForm n) (is_rule r.Dot t) _ (L.dot_layer l source) _ (λ dot. dot_form n source t _ from h dot)
      (λ no_dot. choose (IsForm n) (is_rule r.Arrow t) _ (L.arrow_layer l source) L.lacking (λ arrow. arrow_form n source t L.lacking from h arrow)
      (λ no_arrow. neither (is_rule r.Dot t) (is_rule r.Arrow t) is no_dot no_arrow))

  behind_form : (n : ℕ) (left : Piece) (b : Behind) → IsPiece n left → IsBehind n b → IsForm n (L.behind_layer l left b)
  behind_form n left (Operator operator operand) from h =
      let placed = token_placed operator h.0.0 h.0.1 in
      level_form n (L.behind_layer l left (Operator operator operand)) placed placed (omega arith) (λ levels. refl) (from, (h.1, tt))
  behind_form n left (Step t) from h = step_form n left t from h.0 h.1

  row_form : (n : ℕ) (first : ParseTree) (bs : List Behind) → IsExpression n first → AllByRecursion (IsBehind n) bs → 1 ≤ length bs
      → IsForm n (L.row_layer l first bs)
  row_form n first [] h k some = absurd (omega (arith, some))
  row_form n first (last ∷ before) h k some = behind_form n (Row first (reverse before)) last (h, every_reverse (IsBehind n) before k.1) k.0

  row_or_same : (n : ℕ) (first : ParseTree) (bs : List Behind) → IsExpression n first → AllByRecursion (IsBehind n) bs
      → IsForm n (L.row_layer l first bs) ⊎ IsSame n (L.row_layer l first bs)
  row_or_same n first [] h k = inr (record { node = first; is = refl; expression = h })
  row_or_same n first (last ∷ before) h k = inl (row_form n first (last ∷ before) h k (omega arith))

  operators_behind : (n : ℕ) (ops os : List ParseTree) → AllByRecursion (λ x. Read x × (is_node x ≡ false)) ops → AllByRecursion (IsExpression n) os
      → AllByRecursion (IsBehind n) (L.operators_of ops os)
  operators_behind n [] os h k = tt
  operators_behind n (op ∷ ops) [] h k = tt
  operators_behind n (op ∷ ops) (o ∷ os) h k = ((h.0, k.0), operators_behind n ops os h.1 k.1)

  some_reversed : (bs : List Behind) → 1 ≤ length bs → 1 ≤ length (reverse bs)
  some_reversed bs h = let e = length-reverse bs in omega (arith, e, h)

  chain_form : (n : ℕ) (os ops : List ParseTree) → AllByRecursion (IsExpression n) os → AllByRecursion (λ x. Read x × (is_node x ≡ false)) ops
      → length os ≡ suc (length ops) → (ops ≡ [] → ⊥) → IsForm n (L.chain_of l os ops)
  chain_form n [] ops h k one some = absurd (omega (arith, one))
  chain_form n (first ∷ os) [] h k one some = absurd (some refl)
  chain_form n (first ∷ []) (op ∷ ops) h k one some = absurd (omega (arith, one))
  chain_form n (first ∷ o ∷ os) (op ∷ ops) h k one some =
      let bs = L.operators_of (op ∷ ops) (o ∷ os) in
      row_form n first (reverse bs) h.0 (every_reverse (IsBehind n) bs (operators_behind n (op ∷ ops) (o ∷ os) k h.1)) (some_reversed bs (omega arith))

  -- ---- binds

  word_placed : (word : Option Place) (p : Place) → IfSome word At → At p → At (unwrap_or word p)
  word_placed None p h k = k
  word_placed (Some at) p h k = h

  bind_form : (n : ℕ) (word : Option Place) (bind : ParseTree) (more : List ParseTree) (body : ParseTree) → IfSome word At → IsOf r.Bind n bind
      → AllByRecursion (IsOf r.Bind n) more → IsExpression n body → IsForm n (L.binds_layer l word (bind ∷ more) body)
  bind_form n word bind more body w h later inside =
      let all = parts_of_tree n bind h.0 in
      let name = there (nth 0) a_name in
      let kind = maybe (after k.Colon) (a_rule r.Type) in
      let value = there (after k.Equal) (a_rule r.Expr) in
      let said = facts_there l.tokens r.Bind bind h.0.tree.read h.1 in
      let rest = more_facts name (kind ∷ value ∷ []) bind said in
      choose (IsForm n) (is_rule r.Bind bind) _ (L.bind_layer l word (Binds None more body)) L.lacking
      (λ is. with_part (IsForm n) (child 0 bind) _ (L.bind_layer l word (Binds None more body)) L.lacking a_name
      (it_is_there a_name (child 0 bind) (first_fact name (kind ∷ value ∷ []) bind said))
      (λ x e sort. with_part (IsForm n) (behind k.Equal bind) _ (L.bind_layer l word (Binds None more body)) L.lacking (a_rule r.Expr)
      (it_is_there (a_rule r.Expr) (behind k.Equal bind) (first_fact value [] bind (more_facts kind (value ∷ []) bind rest)))
      (λ y f of_expr.
      let placed = name_placed x (part_is n bind all 0 x e).tree.read sort in
      level_form n _ (word_placed word (place_at l x) w placed, placed, maybe_type n bind all (value ∷ []) rest) placed (omega arith) (λ levels. refl)
      (expression_at n y (behind_is n bind all k.Equal y f) of_expr, ((tt, later, inside), tt)))))
      (λ none. let is = h.1 in absurd (cc))

  binds_form : (n : ℕ) (word : Option Place) (binds : List ParseTree) (body : ParseTree) → IfSome word At → AllByRecursion (IsOf r.Bind n) binds
      → IsExpression n body → is_some (slice_get binds 0) ≡ true → IsForm n (L.binds_layer l word binds body)
  binds_form n word [] body w h inside some = absurd (cc)
  binds_form n word (bind ∷ more) body w h inside some = bind_form n word bind more body w h.0 h.1 inside

  binds_or_same : (n : ℕ) (word : Option Place) (binds : List ParseTree) (body : ParseTree) → IfSome word At → AllByRecursion (IsOf r.Bind n) binds
      → IsExpression n body → IsForm n (L.binds_layer l word binds body) ⊎ IsSame n (L.binds_layer l word binds body)
  binds_or_same n word [] body w h inside = inr (record { node = body; is = refl; expression = inside })
  binds_or_same n word (bind ∷ more) body w h inside = inl (bind_form n word bind more body w h.0 h.1 inside)

  -- ---- primaries

  -- the token of an Integer writes a number
  number_there : (t : ParseTree) → Read t → is_token k.Int t ≡ true → is_some (number_at l t) ≡ true
  number_there (node q row) read is = absurd (cc)
  number_there (leaf kind at) read is =
      let it = read.tokens.0 in
      let same : it.token.kind ≡ number_of k.Int = it.kind ∙ same_kind kind (number_of k.Int) is in
      subst (λ (b : Bool). is_some (if b then and_then (slice_get l.tokens at) (number_written l.text) else None) ≡ true) (sym is)
      (subst (λ (o : Option Token). is_some (and_then o (number_written l.text)) ≡ true) (sym it.there) (number at it.token it.there same))
    where
      same_kind : (m n : ℕ) → (m == n) ≡ true → m ≡ n
      same_kind m n e = grind (arith, nat_tests)

  literal_there : (t : ParseTree) → Read t → is_node t ≡ false → is_one_of in_primary t ≡ true → is_some (literal_at l t) ≡ true
  literal_there (node q row) read token sort = absurd (cc)
  literal_there (leaf kind at) read token sort =
      here (is_token k.Int (leaf kind at)) (is_token k.Str (leaf kind at)) (is_token k.True (leaf kind at)) (is_token k.False (leaf kind at))
      (is_token k.Null (leaf kind at)) (is_token k.Undefined (leaf kind at)) (is_token k.Invalid (leaf kind at)) (number_there (leaf kind at) read) sort
    where
      mapped : {A B : Type 0} (f : A → B) (o : Option A) → is_some o ≡ true → is_some (option_map f o) ≡ true
      mapped f None e = absurd (cc)
      mapped f (Some x) e = refl

      here : (i s t f n u v : Bool) → (i ≡ true → is_some (number_at l (leaf kind at)) ≡ true)
          → (i || (s || (t || (f || (n || (u || (v || false))))))) ≡ true
          → is_some (if i then option_map w.Int (number_at l (leaf kind at)) else (if s then Some (string_at l (leaf kind at))
          else (if t then Some (w.Bool true) else (if f then Some (w.Bool false) else (if n then Some w.Null else (if u then Some w.Null
          else (if v then Some w.Invalid else None))))))) ≡ true
      here true s t f n u v g e = mapped w.Int (number_at l (leaf kind at)) (g refl)
      here false true t f n u v g e = refl
      here false false true f n u v g e = refl
      here false false false true n u v g e = refl
      here false false false false true u v g e = refl
      here false false false false false true v g e = refl
      here false false false false false false true g e = refl
      here false false false false false false false g e = absurd (cc)

  literal_form : (n : ℕ) (form : ParseTree) (o : Option WrittenLiteral) → At (place_at l form) → is_some o ≡ true
      → IsForm n (option_map_or (λ x. record { head = h.Literal (place_at l form) x; inner = [] }) o L.lacking)
  literal_form n form None placed e = absurd (cc)
  literal_form n form (Some x) placed e = level_form n _ placed placed (omega arith) (λ levels. refl) tt

  part_form : (n : ℕ) (t : ParseTree) → IsOf r.Part n t → PartHeld At (L.part_head l t)
  part_form n t h = by_node (part_node t) made
    where
      make : ParseTree → Option PartNode
      make e = Some (record { first = e; last = behind k.DoubleDot t })

      last_of : (o : Option ParseTree) (found : PartNode) → and_then o make ≡ Some found → found.last ≡ behind k.DoubleDot t
      last_of None found e = absurd (cc)
      last_of (Some x) found e = let same : record { first = x; last = behind k.DoubleDot t } ≡ found = cc in sym (ap (λ (p : PartNode). p.last) same)

      made : (found : PartNode) → part_node t ≡ Some found → found.last ≡ behind k.DoubleDot t
      made found e = last_of (child 0 t) found (sym (of_rule r.Part t (and_then (child 0 t) make) h.1) ∙ e)

      by_last : (o : Option ParseTree) → ((x : ParseTree) → o ≡ Some x → At (place_of_mark l k.DoubleDot t))
          → PartHeld At (option_map_or (λ last. p.Range (place_of_mark l k.DoubleDot t)) o p.One)
      by_last None g = tt
      by_last (Some x) g = g x refl

      by_node : (o : Option PartNode) → ((node : PartNode) → o ≡ Some node → node.last ≡ behind k.DoubleDot t)
          → PartHeld At (option_map_or (λ node. option_map_or (λ last. p.Range (place_of_mark l k.DoubleDot t)) node.last p.One) o p.One)
      by_node None g = tt
      by_node (Some found) g = by_last found.last (λ x e. behind_mark k.DoubleDot t x h.0.tree.read (sym (g found refl) ∙ e))

  first_in_part : (n : ℕ) (t : ParseTree) → IsOf r.Part n t → IsThere (a_rule r.Expr) (child 0 t)
  first_in_part n t h =
      it_is_there (a_rule r.Expr) (child 0 t)
      (first_fact (there (nth 0) (a_rule r.Expr)) (maybe (after k.DoubleDot) (a_rule r.Expr) ∷ []) t (facts_there l.tokens r.Part t h.0.tree.read h.1))

  part_pieces : (n : ℕ) (t : ParseTree) → IsOf r.Part n t → AllByRecursion (IsPiece n) (L.part_inner t)
  part_pieces n t h =
      let pieces : PartNode → List Piece = λ node. Node node.first ∷ option_to_list (option_map Node node.last) in
      let make : ParseTree → Option PartNode = λ e. Some (record { first = e; last = behind k.DoubleDot t }) in
      let e = first_in_part n t h in
      let all = parts_of_tree n t h.0 in
      let same : part_node t ≡ make e.tree = of_rule r.Part t (and_then (child 0 t) make) h.1 ∙ ap (λ (o : Option ParseTree). and_then o make) e.there in
      subst (λ (o : Option PartNode). AllByRecursion (IsPiece n) (option_map_or pieces o (Node t ∷ []))) (sym same) (
        expression_at n e.tree (part_is n t all 0 e.tree e.there) e.sort,
        nodes_if n (behind k.DoubleDot t)
            (maybe_expression n t all k.DoubleDot [] (more_facts (there (nth 0) (a_rule r.Expr)) (maybe (after k.DoubleDot) (a_rule r.Expr) ∷ []) t
            (facts_there l.tokens r.Part t h.0.tree.read h.1))),
      )

  part_takes : (t : ParseTree) → takes_part (L.part_head l t) ≡ length (L.part_inner t)
  part_takes t = by_node (part_node t)
    where
      by_last : (e : ParseTree) (o : Option ParseTree) → takes_part (option_map_or (λ last. p.Range (place_of_mark l k.DoubleDot t)) o p.One)
          ≡ length (Node e ∷ option_to_list (option_map Node o))
      by_last e None = refl
      by_last e (Some x) = refl

      by_node : (o : Option PartNode)
          → takes_part (option_map_or (λ node. option_map_or (λ last. p.Range (place_of_mark l k.DoubleDot t)) node.last p.One) o p.One)
          ≡ length (option_map_or (λ node. Node node.first ∷ option_to_list (option_map Node node.last)) o (Node t ∷ []))
      by_node None = refl
      by_node (Some found) = by_last found.first found.last

  parts_take : (ts : List ParseTree) → takes_parts (map (L.part_head l) ts) ≡ length (flat_map L.part_inner ts)
  parts_take [] = refl
  parts_take (t ∷ ts) =
      let e = parts_take ts in
      let one = part_takes t in
      let m = length-append (L.part_inner t) (flat_map L.part_inner ts) in
      omega (arith, e, one, m)

  names_if : (n : ℕ) (t : ParseTree) (more : List Fact) → AllByRecursion (IsInside n) (below t) → are_so (maybe (after k.DoubleColon) a_name ∷ more) t ≡ true
      → AllByRecursion At (of_name (option_map (name_at l) (behind k.DoubleColon t)))
  names_if n t more all e = by_option (behind k.DoubleColon t) (λ x is. name_placed x (behind_is n t all k.DoubleColon x is).tree.read
      (if_it_is_there a_name (behind k.DoubleColon t) x (first_fact (maybe (after k.DoubleColon) a_name) more t e) is))
    where
      by_option : (o : Option ParseTree) → ((x : ParseTree) → o ≡ Some x → At (name_at l x).place) → AllByRecursion At (of_name (option_map (name_at l) o))
      by_option None g = tt
      by_option (Some x) g = (g x refl, tt)

  rest_of : (a x : Bool) → a ≡ false → (a || x) ≡ true → x ≡ true
  rest_of true x h e = absurd (cc)
  rest_of false x h e = e

  module _ (n : ℕ) (t : ParseTree) (read : Read t) (within : depth_inside t ≤ n) (low : n ≤ max_level) where
    all : AllByRecursion (IsInside n) (below t)
    all = parts_inside n t read within low

    primary_form : (d : Layer) → is_rule r.Primary t ≡ true → next_of t ≡ None
        → IsForm n (option_map_or (L.literal_layer l) (and_then (child 0 t) (λ form. Some (record { form = form }))) d)
    primary_form d is stays =
        let fact = there (nth 0) in_primary in
        let most = at_most_one (s.Rules ∷ s.Tokens ∷ []) in
        let said = facts_there l.tokens r.Primary t read is in
        with_part (IsForm n) (child 0 t) _ (L.literal_layer l) d in_primary
        (it_is_there in_primary (child 0 t) (first_fact fact (most ∷ []) t said))
        (λ form e sort.
        let read_it = (part_is n t all 0 form e).tree.read in
        let token = no_node form (λ node. not_alone t (may_primary t is) stays
        (alone_at_most (below t) (first_fact most [] t (more_facts fact (most ∷ []) t said)) form e node)) in
        literal_form n form (literal_at l form) (token_placed form read_it token) (literal_there form read_it token sort))
      where
        no_node : (x : ParseTree) → (is_node x ≡ true → ⊥) → is_node x ≡ false
        no_node (leaf kind at) g = refl
        no_node (node q row) g = absurd (g refl)

        may_primary : (x : ParseTree) → is_rule r.Primary x ≡ true → may_pass x ≡ true
        may_primary x e = or_last (is_chain x) (is_rule r.Unary x) (is_rule r.Postfix x) (is_rule r.Primary x) e
          where
            or_last : (a b c d : Bool) → d ≡ true → (a || b || c || d) ≡ true
            or_last true b c d e = refl
            or_last false true c d e = refl
            or_last false false true d e = refl
            or_last false false false d e = e

    only_literal_form : (d : Layer) → is_rule r.Literal t ≡ true
        → IsForm n (option_map_or (L.only_literal_layer l t) (and_then (behind k.Hash t) (λ name. Some (record { name = name }))) d)
    only_literal_form d is =
        with_part (IsForm n) (behind k.Hash t) _ (L.only_literal_layer l t) d a_name
        (it_is_there a_name (behind k.Hash t) (first_fact (there (after k.Hash) a_name) [] t (facts_there l.tokens r.Literal t read is)))
        (λ name e sort.
        let mark = behind_mark k.Hash t name read e in
        level_form n _ (mark, name_placed name (behind_is n t all k.Hash name e).tree.read sort) mark (omega arith) (λ levels. refl) tt)

    collection_form : (d : Layer) → is_rule r.Collection t ≡ true
        → IsForm n (option_map_or (L.collection_layer l) (and_then (child 0 t) (λ kind. Some (record { kind = kind; parts = parts (s.Rule r.Part) t }))) d)
    collection_form d is =
        let each_part = of_each n t all r.Part in
        let e = parts_take (parts (s.Rule r.Part) t) in
        with_part (IsForm n) (child 0 t) _ (L.collection_layer l) d a_kind
        (it_is_there a_kind (child 0 t) (first_fact (there (nth 0) a_kind) [] t (facts_there l.tokens r.Collection t read is)))
        (λ kind is_there sort.
        let placed = token_placed kind (part_is n t all 0 kind is_there).tree.read (token_of a_kind kind refl sort) in
        level_form n _ (placed, every_map (IsOf r.Part n) (PartHeld At) (L.part_head l) (part_form n) (parts (s.Rule r.Part) t) each_part) placed
        (omega (arith, e)) (λ levels. refl) (every_flat (IsOf r.Part n) (IsPiece n) L.part_inner (part_pieces n) (parts (s.Rule r.Part) t) each_part))

    named_form : (d : Layer) → is_rule r.Named t ≡ true
        → IsForm n (option_map_or (L.named_layer l) (and_then (child 0 t) (λ name. Some (record {
          name = name;
          literal = behind k.DoubleColon t;
          is_before = has k.AtPre t;
          arguments = part (s.Rule r.Args) t;
        }))) d)
    named_form d is =
        let args = arguments_below n t all in
        let enough = args.enough in
        let first = there (nth 0) a_name in
        let second = maybe (after k.DoubleColon) a_name in
        let said = facts_there l.tokens r.Named t read is in
        with_part (IsForm n) (child 0 t) _ (L.named_layer l) d a_name
        (it_is_there a_name (child 0 t) (first_fact first (second ∷ []) t said))
        (λ name e sort.
        let placed = name_placed name (part_is n t all 0 name e).tree.read sort in
        level_form n _ (placed, names_if n t [] all (more_facts first (second ∷ []) t said), args.held) placed (omega (arith, enough)) (λ levels. refl) args.inner)

    choice_form : (d : Layer) → is_rule r.Choice t ≡ true
        → IsForm n (option_map_or (L.choice_layer l t) (and_then (behind k.If t) (λ condition. and_then (behind k.Then t) (λ consequence. and_then
        (behind k.Else t) (λ alternative. Some (record { condition = condition; consequence = consequence; alternative = alternative }))))) d)
    choice_form d is =
        let of_if = there (after k.If) (a_rule r.Expr) in
        let of_then = there (after k.Then) (a_rule r.Expr) in
        let of_else = there (after k.Else) (a_rule r.Expr) in
        let said = facts_there l.tokens r.Choice t read is in
        let rest = more_facts of_if (of_then ∷ of_else ∷ []) t said in
        with_part (IsForm n) (behind k.If t) _ (L.choice_layer l t) d (a_rule r.Expr)
        (it_is_there (a_rule r.Expr) (behind k.If t) (first_fact of_if (of_then ∷ of_else ∷ []) t said))
        (λ x e sort. with_part (IsForm n) (behind k.Then t) _ (L.choice_layer l t) d (a_rule r.Expr)
        (it_is_there (a_rule r.Expr) (behind k.Then t) (first_fact of_then (of_else ∷ []) t rest))
        (λ y f sort_of_then. with_part (IsForm n) (behind k.Else t) _ (L.choice_layer l t) d (a_rule r.Expr)
        (it_is_there (a_rule r.Expr) (behind k.Else t) (first_fact of_else [] t (more_facts of_then (of_else ∷ []) t rest)))
        (λ z g sort_of_else.
        let mark = behind_mark k.If t x read e in
        level_form n _ mark mark (omega arith) (λ levels. refl) (
          expression_at n x (behind_is n t all k.If x e) sort,
          (expression_at n y (behind_is n t all k.Then y f) sort_of_then, (expression_at n z (behind_is n t all k.Else z g) sort_of_else, tt)),
        ))))

    group_form : is_rule r.Group t ≡ true
        → IsForm n (option_map_or (L.group_layer l t) (and_then (behind k.LeftParen t) (λ expression. Some (record { expression = expression }))) L.lacking)
    group_form is =
        with_part (IsForm n) (behind k.LeftParen t) _ (L.group_layer l t) L.lacking (a_rule r.Expr)
        (it_is_there (a_rule r.Expr) (behind k.LeftParen t)
        (first_fact (there (after k.LeftParen) (a_rule r.Expr)) [] t (facts_there l.tokens r.Group t read is)))
        (λ e here sort.
        let it = held_next (Within (depth_inside t)) k.LeftParen (below t) (parts_read l.tokens t read) e here in
        let d = nests_deeper e (expression_is_nesting e (rule_sort r.Expr e sort)) in
        let w = it.within in
        let mark = behind_mark k.LeftParen t e read here in
        record {
          held = mark;
          placed = mark;
          enough = omega arith;
          inside = depth_inside e;
          cost = inr (λ levels. refl, omega (arith, d, w, within));
          inner = (
            record {
              read = it.read;
              is = expression_sort (a_rule r.Expr) e refl sort;
              within = omega arith;
              low = omega (arith, d, w, within, low);
            },
            tt,
          );
        })

    -- ---- every form

    unary_form : (d : Layer) → is_rule r.Unary t ≡ true → next_of t ≡ None
        → IsForm n (option_map_or (L.unary_layer l) (and_then (part s.Rules t) (λ operand. Some (record { operator = part s.Tokens t; operand = operand }))) d)
    unary_form d is stays =
        let operand = there (first_of s.Rules) in_unary in
        let operator = maybe (first_of s.Tokens) (a_token k.Not ++ a_token k.Minus) in
        let most = at_most_one (s.Rules ∷ []) in
        let said = facts_there l.tokens r.Unary t read is in
        let later = more_facts operator (most ∷ []) t (more_facts operand (operator ∷ most ∷ []) t said) in
        with_part (IsForm n) (part s.Rules t) _ (L.unary_layer l) d in_unary
        (it_is_there in_unary (part s.Rules t) (first_fact operand (operator ∷ most ∷ []) t said))
        (λ x e sort.
        by_operator (part s.Tokens t) x
        (expression_inside n x (first_is n t all s.Rules x e) (expression_sort in_unary x refl sort))
        (λ none. not_alone t (may_unary t is) stays
        (alone_by_nodes (below t) none (first_fact most [] t later) (ap (λ (o : Option ParseTree). is_some o) e)))
        (λ op here. (
          (first_is n t all s.Tokens op here).tree.read,
          no_node op (held_at (λ y. not (is_node y) ≡ true) (parts s.Tokens t)
              (sought_pass (selects s.Tokens) (below t)) 0 op here),
        )))
      where
        no_node : (x : ParseTree) → not (is_node x) ≡ true → is_node x ≡ false
        no_node (leaf kind at) g = refl
        no_node (node q row) g = absurd (cc)

        may_unary : (x : ParseTree) → is_rule r.Unary x ≡ true → may_pass x ≡ true
        may_unary x e = or_second (is_chain x) (is_rule r.Unary x) (is_rule r.Postfix x) (is_rule r.Primary x) e
          where
            or_second : (a b c d : Bool) → b ≡ true → (a || b || c || d) ≡ true
            or_second true b c d e = refl
            or_second false true c d e = refl
            or_second false false c d e = absurd (cc)

        by_operator : (o : Option ParseTree) (operand : ParseTree) → IsExpression n operand → (o ≡ None → ⊥)
            → ((x : ParseTree) → o ≡ Some x → Read x × (is_node x ≡ false))
            → IsForm n (option_map_or (λ operator. record {
              head = h.Unary (place_at l operator) (unary_operator operator);
              inner = Node operand ∷ [];
            }) o L.lacking)
        by_operator None operand inside some g = absurd (some refl)
        by_operator (Some x) operand inside some g =
            let it = g x refl in
            let placed = token_placed x it.0 it.1 in
            level_form n _ placed placed (omega arith) (λ levels. refl) (inside, tt)

    let_form : (d : Layer) → is_rule r.Let t ≡ true
        → IsForm n (option_map_or (L.let_layer l t) (and_then (behind k.In t) (λ body. Some (record { binds = parts (s.Rule r.Bind) t; body = body }))) d)
    let_form d is =
        let binds = some_of (s.Rule r.Bind) in
        let body = there (after k.In) (a_rule r.Expr) in
        let word = some_of (s.Token k.Let) in
        let said = facts_there l.tokens r.Let t read is in
        let rest = more_facts binds (body ∷ word ∷ []) t said in
        with_part (IsForm n) (behind k.In t) _ (L.let_layer l t) d (a_rule r.Expr)
        (it_is_there (a_rule r.Expr) (behind k.In t) (first_fact body (word ∷ []) t rest))
        (λ x e sort. binds_form n (Some (place_of_mark l k.Let t)) (parts (s.Rule r.Bind) t) x
        (mark_placed k.Let t read (first_fact word [] t (more_facts body (word ∷ []) t rest))) (of_each n t all r.Bind)
        (expression_at n x (behind_is n t all k.In x e) sort) (first_fact binds (body ∷ word ∷ []) t said))

    postfix_form : (d : Layer) → is_rule r.Postfix t ≡ true → next_of t ≡ None
        → IsForm n (option_map_or (L.postfix_layer l) (and_then (child 0 t) (λ source. Some (record { source = source; steps = parts s.Steps t }))) d)
    postfix_form d is stays =
        let first = there (nth 0) (a_rule r.Primary) in
        let most = at_most_one (a_rule r.Primary) in
        let nodes = each s.Rules steps_sorts in
        let tokens = each s.Tokens [] in
        let said = facts_there l.tokens r.Postfix t read is in
        let second = more_facts first (most ∷ nodes ∷ tokens ∷ []) t said in
        let third = more_facts most (nodes ∷ tokens ∷ []) t second in
        with_part (IsForm n) (child 0 t) _ (L.postfix_layer l) d (a_rule r.Primary)
        (it_is_there (a_rule r.Primary) (child 0 t) (first_fact first (most ∷ nodes ∷ tokens ∷ []) t said))
        (λ x e sort.
        by_steps (parts s.Steps t) x (expression_inside n x (part_is n t all 0 x e) (expression_sort (a_rule r.Primary) x refl sort))
        (every_both (IsInside n) (λ y. selects s.Steps y ≡ true) (parts s.Steps t) (sought_are n t all s.Steps) (sought_pass (selects s.Steps) (below t)))
        (λ none. not_alone t (may_postfix t is) stays
        (alone_by_steps (below t) (first_fact tokens [] t (more_facts nodes (tokens ∷ []) t third)) (first_fact nodes (tokens ∷ []) t third)
        (first_fact most (nodes ∷ tokens ∷ []) t second) x e (rule_sort r.Primary x sort) none)))
      where
        may_postfix : (x : ParseTree) → is_rule r.Postfix x ≡ true → may_pass x ≡ true
        may_postfix x e = or_third (is_chain x) (is_rule r.Unary x) (is_rule r.Postfix x) (is_rule r.Primary x) e
          where
            or_third : (a b c d : Bool) → c ≡ true → (a || b || c || d) ≡ true
            or_third true b c d e = refl
            or_third false true c d e = refl
            or_third false false true d e = refl
            or_third false false false d e = absurd (cc)

        by_steps : (steps : List ParseTree) (source : ParseTree) → IsExpression n source → AllByRecursion (λ y. IsInside n y × (selects s.Steps y ≡ true)) steps
            → (steps ≡ [] → ⊥) → IsForm n (L.row_layer l source (reverse (map Step steps)))
        by_steps [] source inside each_step some = absurd (some refl)
        by_steps (step ∷ steps) source inside each_step some =
            let bs = map Step (step ∷ steps) in
            row_form n source (reverse bs) inside
            (every_reverse (IsBehind n) bs (every_map (λ y. IsInside n y × (selects s.Steps y ≡ true)) (IsBehind n) Step (λ y k. k) (step ∷ steps) each_step))
            (some_reversed bs (omega arith))

    chained_form : is_chain t ≡ true → next_of t ≡ None → IsForm n (L.chain_of l (parts s.Rules t) (parts s.Tokens t))
    chained_form is stays =
        let it = chain_there l.tokens t read is in
        let one = it.more in
        chain_form n (parts s.Rules t) (parts s.Tokens t)
        (each_expression (parts s.Rules t) (every_both (IsInside n) (λ x. is_expression x ≡ true) (parts s.Rules t) (sought_are n t all s.Rules) it.operands))
        (each_token (parts s.Tokens t) (every_both (IsInside n) (λ x. not (is_node x) ≡ true) (parts s.Tokens t) (sought_are n t all s.Tokens)
        (sought_pass (selects s.Tokens) (below t)))) one
        (λ none. not_alone t (may_chain t is) stays
        (alone_by_count (below t) none (one ∙ ap (λ (xs : List ParseTree). suc (length xs)) none)))
      where
        may_chain : (x : ParseTree) → is_chain x ≡ true → may_pass x ≡ true
        may_chain x e = ap (λ (b : Bool). b || is_rule r.Unary x || is_rule r.Postfix x || is_rule r.Primary x) e

        no_node : (x : ParseTree) → not (is_node x) ≡ true → is_node x ≡ false
        no_node (leaf kind at) g = refl
        no_node (node q row) g = absurd (cc)

        each_expression : (xs : List ParseTree) → AllByRecursion (λ x. IsInside n x × (is_expression x ≡ true)) xs → AllByRecursion (IsExpression n) xs
        each_expression [] h = tt
        each_expression (x ∷ xs) h = (expression_inside n x h.0.0 h.0.1, each_expression xs h.1)

        each_token : (xs : List ParseTree) → AllByRecursion (λ x. IsInside n x × (not (is_node x) ≡ true)) xs
            → AllByRecursion (λ x. Read x × (is_node x ≡ false)) xs
        each_token [] h = tt
        each_token (x ∷ xs) h = ((h.0.0.tree.read, no_node x h.0.1), each_token xs h.1)

    -- what is none of the other forms
    not_chain : (a b c d e f g h x : Bool) → (a || b || c || d || e || f || g || h) ≡ false
        → (a || (b || (c || (d || (e || (f || (g || (h || x)))))))) ≡ true → x ≡ true
    not_chain true b c d e f g h x none is = absurd (cc)
    not_chain false true c d e f g h x none is = absurd (cc)
    not_chain false false true d e f g h x none is = absurd (cc)
    not_chain false false false true e f g h x none is = absurd (cc)
    not_chain false false false false true f g h x none is = absurd (cc)
    not_chain false false false false false true g h x none is = absurd (cc)
    not_chain false false false false false false true h x none is = absurd (cc)
    not_chain false false false false false false false true x none is = absurd (cc)
    not_chain false false false false false false false false x none is = is

    primary_layer_form : next_of t ≡ None
        → (is_rule r.Primary t || (is_rule r.Literal t || (is_rule r.Collection t || (is_rule r.Named t || (is_rule r.Choice t || (is_rule r.Group t || false)))))) ≡ true
        → IsForm n (L.primary_layer l t)
    unfolding L.primary_layer
    primary_layer_form stays is =
        choose (IsForm n) (is_rule r.Primary t) _ (L.literal_layer l) _ (λ it. primary_form _ it stays)
        (λ no_primary. let of_literal = rest_of (is_rule r.Primary t) _ no_primary is in
        choose (IsForm n) (is_rule r.Literal t) _ (L.only_literal_layer l t) _ (λ it. only_literal_form _ it)
        (λ no_literal. let of_collection = rest_of (is_rule r.Literal t) _ no_literal of_literal in
        choose (IsForm n) (is_rule r.Collection t) _ (L.collection_layer l) _ (λ it. collection_form _ it)
        (λ no_collection. let of_named = rest_of (is_rule r.Collection t) _ no_collection of_collection in
        choose (IsForm n) (is_rule r.Named t) _ (L.named_layer l) _ (λ it. named_form _ it)
        (λ no_named. let of_choice = rest_of (is_rule r.Named t) _ no_named of_named in
        choose (IsForm n) (is_rule r.Choice t) _ (L.choice_layer l t) _ (λ it. choice_form _ it)
        (λ no_choice. let of_group = rest_of (is_rule r.Choice t) _ no_choice of_choice in
        choose (IsForm n) (is_rule r.Group t) _ (L.group_layer l t) L.lacking (λ it. group_form it)
        (λ no_group. let none = rest_of (is_rule r.Group t) false no_group of_group in absurd (cc)))))))

    node_form : is_expression t ≡ true → next_of t ≡ None → IsForm n (L.node_layer l t)
    unfolding L.node_layer
    node_form is stays =
        choose (IsForm n) (is_chain t) _ (L.chain_layer l) _ (λ it. chained_form it stays)
        (λ no_chain.
        let of_unary = not_chain (is_rule r.Muls t) (is_rule r.Sums t) (is_rule r.Rels t) (is_rule r.Eqs t) (is_rule r.Ands t) (is_rule r.Ors t) (is_rule r.Xors t)
        (is_rule r.Expr t) _ no_chain is in
        choose (IsForm n) (is_rule r.Unary t) _ (L.unary_layer l) _ (λ it. unary_form _ it stays)
        (λ no_unary. let of_let = rest_of (is_rule r.Unary t) _ no_unary of_unary in
        choose (IsForm n) (is_rule r.Let t) _ (L.let_layer l t) _ (λ it. let_form _ it)
        (λ no_let. let of_postfix = rest_of (is_rule r.Let t) _ no_let of_let in
        choose (IsForm n) (is_rule r.Postfix t) _ (L.postfix_layer l) (L.primary_layer l t) (λ it. postfix_form (L.primary_layer l t) it stays)
        (λ no_postfix. primary_layer_form stays (rest_of (is_rule r.Postfix t) _ no_postfix of_postfix)))))

  -- the form at a node
  pub node_layer_form : (n : ℕ) (t : ParseTree) → IsExpression n t → IsForm n (L.layer_of l (Node t))
  unfolding L.layer_of
  node_layer_form n t h =
      let it = meant l.tokens t n h.read h.is h.within in
      node_form n (plain t) it.read it.within h.low it.expression it.stays

  -- the form at any piece
  pub layer_form : (n : ℕ) (piece : Piece) → IsPiece n piece → IsForm n (L.layer_of l piece) ⊎ IsSame n (L.layer_of l piece)
  unfolding L.layer_of
  layer_form n (Node t) h = inl (node_layer_form n t h)
  layer_form n (Row first bs) h = row_or_same n first (reverse bs) h.0 (every_reverse (IsBehind n) bs h.1)
  layer_form n (Binds word binds body) h = binds_or_same n word binds body h.0 h.1 h.2
