-- The steps of a builder, over its two lists.
use Rattle.std.proofs.Common.{◌≡◌, ℕ, zero, suc, slice_index_or, slice_set, ◌+◌, ◌-◌, ◌≤◌, List, [], ◌∷◌, ◌++◌, length, map, take, drop, min, cond, false, Some, Result, Ok, Err, MatchResult, is_ok, slice_get, refl, sym, ap, ◌∙◌, arith, subst, length-append}
use Rattle.std.specs.Result.{is_err}
use Rattle.std.proofs.Math.Nat.{min-le_left}
use Rattle.std.proofs.lemmas.List.{length-map, map-append, take_all, length-drop}
use Rattle.std.proofs.lemmas.Option.{get_or_from_slice_get}
use Rattle.grammar_core.specs.declared.node.Node.{Node}
use Rattle.grammar_core.specs.declared.node.Node.TheVariants.{Token, Rule}
use Rattle.grammar_core.specs.declared.fault.ParseFault.{ParseFault}
use Rattle.grammar_core.specs.declared.fault.ParseFault.TheVariants.{Memory}
use Rattle.grammar_core.specs.Trees.{ParseTree, leaf}
use Rattle.grammar_core.specs.Arena.{tree_with, node_trees, root_tree, ArePlaced, IsArena, IsTree, IsBuilt, read_trees, closed}
use Rattle.grammar_core.proofs.Nodes.{built, node_trees-append, length-node_trees, ArePlaced-more, ArePlaced-take, ArePlaced-drop, ArePlaced-snoc, ArePlaced-last, IsArena-after, read_close, closed_past}

-- what `put` leaves
abbrev Put : Result (Unit {0}) ParseFault → List Node → List Node → Node → Type 0
Put res old new n = MatchResult res (λ u. new ≡ old ++ (n ∷ [])) (λ e. (e ≡ Memory) × (new ≡ old))

pub put_as : (res : Result (Unit {0}) ParseFault) (new old old' : List Node) (r first first' count count' : ℕ) → Put res old new (Rule r first count)
    → old ≡ old' → first ≡ first' → count ≡ count' → Put res old' new (Rule r first' count')
put_as res new old old' r first first' count count' h e f k =
    subst (λ (l : List Node). Put res l new (Rule r first' count')) e (subst (λ (n : ℕ). Put res old new (Rule r n count')) f (subst (λ (n : ℕ). Put res old new
    (Rule r first n)) k h))

pub push_built : (res : Result (Unit {0}) ParseFault) (nodes old new : List Node) (k at : ℕ) → Put res old new (Token k at) → IsBuilt (built nodes old)
    → IsBuilt (built nodes new)
push_built (Ok u) nodes old new k at h b = rw h (record { placed = b.placed; ahead = ArePlaced-snoc (length nodes) old (Token k at) b.ahead tt })
push_built (Err e) nodes old new k at h b = rw (h.1) b

pub push_reads : (res : Result (Unit {0}) ParseFault) (nodes old new : List Node) (k at : ℕ) → Put res old new (Token k at)
    → MatchResult res (λ u. read_trees (built nodes new) ≡ read_trees (built nodes old) ++ (leaf k at ∷ [])) (λ e. e ≡ Memory)
push_reads (Ok u) nodes old new k at h = ap (λ (l : List Node). read_trees (built nodes l)) h ∙ map-append (λ n. tree_with (node_trees nodes) n) old (Token k at
    ∷ [])
push_reads (Err e) nodes old new k at h = h.0

pub extended : {A B X : Type 0} (res : Result A B) (l a b : List X) → is_err res ≡ false → l ≡ cond (is_ok res) a b → l ≡ a
extended (Ok u) l a b e h = h
extended (Err x) l a b e h = (cc)

module _ (nodes waiting : List Node) (r start i : ℕ) (b : IsBuilt (built nodes waiting)) (least : i ≡ min (length waiting) start) where
  low : i ≤ length waiting
  low = let m = min-le_left (length waiting) start in omega (arith, m, least)

  top : Node
  top = Rule r (length nodes) (length waiting - i)

  arena : IsArena 0 (nodes ++ drop i waiting)
  arena = IsArena-after nodes (drop i waiting) b.placed (ArePlaced-drop (length nodes) i waiting b.ahead)

  rest_ahead : ArePlaced (length (nodes ++ drop i waiting)) (take i waiting)
  rest_ahead = ArePlaced-more (length nodes) (length (nodes ++ drop i waiting)) (take i waiting) (omega (arith, length-append nodes (drop i waiting)))
      (ArePlaced-take (length nodes) i waiting b.ahead)

  pub close_built : (res : Result (Unit {0}) ParseFault) (new : List Node) → Put res (take i waiting) new (Rule r (length nodes) (length waiting - i))
      → IsBuilt (built (nodes ++ drop i waiting) new)
  close_built (Ok u) new h =
      let l = low in
      let p : length nodes + (length waiting - i) ≤ length (nodes ++ drop i waiting) = omega (
        arith,
        l,
        length-append nodes
            (drop i waiting),
        length-drop i waiting,
      ) in
      rw h (record {
        placed = arena;
        ahead = ArePlaced-snoc (length (nodes ++ drop i waiting)) (take i waiting) (Rule r (length nodes)
            (length waiting - i)) rest_ahead p;
      })
  close_built (Err e) new h = rw (h.1) (record { placed = arena; ahead = rest_ahead })

  pub close_reads : (res : Result (Unit {0}) ParseFault) (new : List Node) → Put res (take i waiting) new (Rule r (length nodes) (length waiting - i))
      → MatchResult res (λ u. read_trees (built (nodes ++ drop i waiting) new) ≡ closed r start (read_trees (built nodes waiting))) (λ e. e ≡ Memory)
  close_reads (Ok u) new h =
      let done : List ParseTree = read_trees (built nodes waiting) in
      let long : length done ≡ length waiting = length-map waiting (λ n. tree_with (node_trees nodes) n) in
      let e : i ≡ min (length done) start = least ∙ ap (λ (k : ℕ). min k start) (sym long) in
      ap (λ (l : List Node). read_trees (built (nodes ++ drop i waiting) l)) h ∙ read_close nodes waiting r i b.ahead low ∙ ap (λ (k : ℕ). closed r k done) e
      ∙ closed_past r start done
  close_reads (Err e) new h = h.0

-- the last element alone
pub one_left : (l : List Node) (i : ℕ) (n d : Node) → i + 1 ≡ length l → n ≡ slice_index_or l i d → drop i l ≡ n ∷ []
one_left [] i n d h e = absurd (omega (arith, h))
one_left (x ∷ []) zero n d h e = ap (λ (y : Node). y ∷ []) (sym e)
one_left (x ∷ y ∷ ys) zero n d h e = absurd (omega (arith, h))
one_left (x ∷ xs) (suc i) n d h e = one_left xs i n d (omega (arith, h)) e

last_set : (l : List Node) (i : ℕ) (x : Node) → i + 1 ≡ length l → slice_set l i x ≡ take i l ++ (x ∷ [])
last_set [] i x h = absurd (omega (arith, h))
last_set (y ∷ []) zero x h = refl
last_set (y ∷ z ∷ l) zero x h = absurd (omega (arith, h))
last_set (y ∷ l) (suc i) x h = ap (λ (m : List Node). y ∷ m) (last_set l i x (omega (arith, h)))

-- a rule in the place of the last node
pub one_set : (l : List Node) (i r first first' : ℕ) → i + 1 ≡ length l → first ≡ first' → slice_set l i (Rule r first 1) ≡ take i l
    ++ (Rule r first' (length l - i) ∷ [])
one_set l i r first first' h e =
    let one : 1 ≡ length l - i = omega (arith, h) in
    last_set l i (Rule r first 1) h ∙ ap (λ (k : ℕ). take i l ++ (Rule r k 1 ∷ [])) e ∙ ap (λ (k : ℕ). take i l ++ (Rule r first' k ∷ [])) one

-- a slice from a place on
pub slice_from : {X : Type 0} (i : ℕ) (l : List X) → take (length l - i) (drop i l) ≡ drop i l
slice_from i l = take_all (length l - i) (drop i l) (omega (arith, length-drop i l))

get_last : {X : Type 0} (xs : List X) (x : X) → slice_get (xs ++ (x ∷ [])) (length (xs ++ (x ∷ [])) - 1) ≡ Some x
get_last {X = X} xs x = let e : length (xs ++ (x ∷ [])) - 1 ≡ length xs = omega (arith, length-append xs (x ∷ [])) in subst (λ (k : ℕ). slice_get (xs ++ (x
    ∷ [])) k ≡ Some x) (sym e) (at xs)
  where
    at : (l : List X) → slice_get (l ++ (x ∷ [])) (length l) ≡ Some x
    at [] = refl
    at (y ∷ ys) = at ys

-- the last node that waits, behind the others: the root
pub root_built : (nodes rest : List Node) (root : Node) → IsBuilt (built nodes (rest ++ (root ∷ []))) → IsTree (nodes ++ (root ∷ []))
root_built nodes rest root b = let l = ArePlaced-last (length nodes) rest root b.ahead in record {
  some = omega (
    arith,
    length-append nodes (root
        ∷ []),
  );
  placed = IsArena-after nodes (root ∷ []) b.placed (l.1, tt);
}

pub root_read : (nodes rest : List Node) (root : Node) → IsBuilt (built nodes (rest ++ (root ∷ []))) → slice_get (read_trees (built nodes (rest ++ (root
    ∷ [])))) (length (read_trees (built nodes (rest ++ (root ∷ [])))) - 1) ≡ Some (root_tree (nodes ++ (root ∷ [])))
root_read nodes rest root b =
    let l = ArePlaced-last (length nodes) rest root b.ahead in
    let f : Node → ParseTree = λ n. tree_with (node_trees nodes) n in
    let t : ParseTree = tree_with (node_trees nodes) root in
    let reads : read_trees (built nodes (rest ++ (root ∷ []))) ≡ map f rest ++ (t ∷ []) = map-append f rest (root ∷ []) in
    let all : node_trees (nodes ++ (root ∷ [])) ≡ node_trees nodes ++ (t ∷ []) = node_trees-append nodes (root ∷ []) (l.1, tt) in
    let here : slice_get (map f rest ++ (t ∷ [])) (length (map f rest ++ (t ∷ [])) - 1) ≡ Some t = get_last (map f rest) t in
    let there : slice_get (node_trees nodes ++ (t ∷ [])) (length (node_trees nodes ++ (t ∷ [])) - 1) ≡ Some t = get_last (node_trees nodes) t in
    let n : length (node_trees nodes ++ (t ∷ [])) - 1 ≡ length (nodes ++ (root ∷ [])) - 1 = omega (
      arith,
      length-append (node_trees nodes) (t
          ∷ []),
      length-append nodes (root ∷ []),
      length-node_trees nodes,
    ) in
    let last : slice_get (node_trees (nodes ++ (root ∷ []))) (length (nodes ++ (root ∷ [])) - 1) ≡ Some t = ap (λ (x : List ParseTree). slice_get x (length
    (nodes ++ (root ∷ [])) - 1)) all ∙ subst (λ (k : ℕ). slice_get (node_trees nodes ++ (t ∷ [])) k ≡ Some t) n there in
    let is : root_tree (nodes ++ (root ∷ [])) ≡ t = get_or_from_slice_get (node_trees (nodes ++ (root ∷ []))) (length (nodes ++ (root
    ∷ [])) - 1) t (leaf 0 0) last in
    ap (λ (x : List ParseTree). slice_get x (length x - 1)) reads ∙ here ∙ ap (λ (x : ParseTree). Some x) (sym is)
