-- Nodes in a list, and the trees that they stand for.
use Rattle.std.proofs.Common.{◌≡◌, ℕ, ◌+◌, ◌-◌, ◌<◌, ◌≤◌, List, [], ◌∷◌, ◌++◌, length, map, take, drop, min, Some, slice_get, zero, suc, refl, sym, ap, ◌∙◌, arith, subst, append_assoc, append-nil, length-append, ⊎_elim}
use Rattle.std.proofs.lemmas.Bool.{cases_lt}
use Rattle.std.proofs.lemmas.List.{length-map, take-append-le, drop-append-le, take-map, drop-map, map-append, take_all, drop_all, length-take-le, length-drop}
use Rattle.std.proofs.lemmas.Option.{slice_get_within, slice_get-get_or, get_or_from_slice_get}
use Rattle.std.proofs.Math.Seq.{drop-append_seam}
use Rattle.grammar_core.specs.declared.node.Node.{Node}
use Rattle.grammar_core.specs.declared.node.Node.TheVariants.{Token, Rule}
use Rattle.grammar_core.specs.Trees.{ParseTree, leaf, node, row_of, trees_of, below}
use Rattle.grammar_core.specs.Arena.{tree_with, trees_from, node_trees, tree_at, IsPlaced, ArePlaced, IsArena, Built, read_trees, closed}

part_same : {X : Type 0} (ts more : List X) (first count : ℕ) → first + count ≤ length ts → take count (drop first (ts ++ more)) ≡ take count (drop first ts)
part_same ts more first count h = ap (λ (l : List _). take count l) (drop-append-le first ts more (omega (arith, h)))
    ∙ take-append-le count (drop first ts) more (omega (arith, h, length-drop first ts))

-- further trees do not change the tree of a node that is placed before them
tree_same : (ts more : List ParseTree) (n : Node) → IsPlaced (length ts) n → tree_with (ts ++ more) n ≡ tree_with ts n
tree_same ts more (Token k at) h = refl
tree_same ts more (Rule r first count) h = ap (λ (l : List ParseTree). node r (row_of l)) (part_same ts more first count h)

trees_same : (ts more : List ParseTree) (ns : List Node) → ArePlaced (length ts) ns → map (λ n. tree_with (ts ++ more) n) ns ≡ map (λ n. tree_with ts n) ns
trees_same ts more [] h = refl
trees_same ts more (n ∷ ns) h = ap (λ (t : ParseTree). t ∷ map (λ x. tree_with (ts ++ more) x) ns) (tree_same ts more n h.0)
    ∙ ap (λ (l : List ParseTree). tree_with ts n ∷ l) (trees_same ts more ns h.1)

pub length-trees_from : (ts : List ParseTree) (ns : List Node) → length (trees_from ts ns) ≡ length ts + length ns
length-trees_from ts [] = omega arith
length-trees_from ts (n ∷ ns) = let e = length-trees_from (ts ++ (tree_with ts n ∷ [])) ns in omega (arith, e, length-append ts (tree_with ts n ∷ []))

pub length-node_trees : (ns : List Node) → length (node_trees ns) ≡ length ns
length-node_trees ns = omega (arith, length-trees_from [] ns)

trees_from-append : (ts : List ParseTree) (ns ms : List Node) → trees_from ts (ns ++ ms) ≡ trees_from (trees_from ts ns) ms
trees_from-append ts [] ms = refl
trees_from-append ts (n ∷ ns) ms = trees_from-append (ts ++ (tree_with ts n ∷ [])) ns ms

-- the trees so far stay
trees_more : (ts : List ParseTree) (ns : List Node) → (more : List ParseTree) × (trees_from ts ns ≡ ts ++ more)
trees_more ts [] = ([], sym (append-nil ts))
trees_more ts (n ∷ ns) = let r = trees_more (ts ++ (tree_with ts n ∷ [])) ns in (tree_with ts n ∷ r.0, r.1 ∙ append_assoc ts (tree_with ts n ∷ []) r.0)

get_at : (ts : List ParseTree) (t : ParseTree) (more : List ParseTree) → slice_get (ts ++ (t ∷ more)) (length ts) ≡ Some t
get_at [] t more = refl
get_at (u ∷ us) t more = get_at us t more

-- each node's tree is made of the trees of all nodes
trees_at : (ts : List ParseTree) (ns : List Node) (i : ℕ) (x : Node) → IsArena (length ts) ns → slice_get ns i ≡ Some x
    → slice_get (trees_from ts ns) (length ts + i) ≡ Some (tree_with (trees_from ts ns) x)
trees_at ts [] i x h e = (cc)
trees_at ts (n ∷ ns) zero x h e =
    let same : n ≡ x = cc in
    let t : ParseTree = tree_with ts n in
    let m = trees_more (ts ++ (t ∷ [])) ns in
    let all : trees_from ts (n ∷ ns) ≡ ts ++ (t ∷ m.0) = m.1 ∙ append_assoc ts (t ∷ []) m.0 in
    let z : length ts + 0 ≡ length ts = omega arith in
    let there : slice_get (trees_from ts (n ∷ ns)) (length ts + 0) ≡ Some t = ap (λ (l : List ParseTree). slice_get l (length ts + 0)) all
    ∙ ap (λ (k : ℕ). slice_get (ts ++ (t ∷ m.0)) k) z ∙ get_at ts t m.0 in
    let made : tree_with (trees_from ts (n ∷ ns)) n ≡ t = ap (λ (l : List ParseTree). tree_with l n) all ∙ tree_same ts (t ∷ m.0) n h.0 in
    subst (λ (y : Node). slice_get (trees_from ts (n ∷ ns)) (length ts + 0) ≡ Some (tree_with (trees_from ts (n ∷ ns)) y)) same (there
    ∙ ap (λ (y : ParseTree). Some y) (sym made))
trees_at ts (n ∷ ns) (suc i) x h e =
    let t : ParseTree = tree_with ts n in
    let long : length (ts ++ (t ∷ [])) ≡ suc (length ts) = omega (arith, length-append ts (t ∷ [])) in
    let at : length (ts ++ (t ∷ [])) + i ≡ length ts + suc i = omega (arith, long) in
    subst (λ (k : ℕ). slice_get (trees_from (ts ++ (t ∷ [])) ns) k ≡ Some (tree_with (trees_from (ts ++ (t ∷ [])) ns) x)) at
    (trees_at (ts ++ (t ∷ [])) ns i x (subst (λ (k : ℕ). IsArena k ns) (sym long) h.1) e)

pub node_tree : (ns : List Node) (i : ℕ) (x : Node) → IsArena 0 ns → slice_get ns i ≡ Some x → slice_get (node_trees ns) i ≡ Some (tree_with (node_trees ns) x)
node_tree ns i x h e = let z : 0 + i ≡ i = omega arith in subst (λ (k : ℕ). slice_get (node_trees ns) k ≡ Some (tree_with (node_trees ns) x)) z
    (trees_at [] ns i x h e)

-- nodes that name none of each other
trees_flat : (ts acc : List ParseTree) (ns : List Node) → ArePlaced (length ts) ns → trees_from (ts ++ acc) ns ≡ (ts ++ acc) ++ map (λ n. tree_with ts n) ns
trees_flat ts acc [] h = sym (append-nil (ts ++ acc))
trees_flat ts acc (n ∷ ns) h =
    let t : ParseTree = tree_with ts n in
    let same : tree_with (ts ++ acc) n ≡ t = tree_same ts acc n h.0 in
    ap (λ (u : ParseTree). trees_from ((ts ++ acc) ++ (u ∷ [])) ns) same
    ∙ ap (λ (l : List ParseTree). trees_from l ns) (append_assoc ts acc (t ∷ []))
    ∙ trees_flat ts (acc ++ (t ∷ [])) ns h.1
    ∙ ap (λ (l : List ParseTree). l ++ map (λ x. tree_with ts x) ns) (sym (append_assoc ts acc (t ∷ [])))
    ∙ append_assoc (ts ++ acc) (t ∷ []) (map (λ x. tree_with ts x) ns)

pub node_trees-append : (ns ms : List Node) → ArePlaced (length ns) ms → node_trees (ns ++ ms) ≡ node_trees ns ++ map (λ n. tree_with (node_trees ns) n) ms
node_trees-append ns ms h =
    let ts : List ParseTree = node_trees ns in
    let p : ArePlaced (length ts) ms = subst (λ (k : ℕ). ArePlaced k ms) (sym (length-node_trees ns)) h in
    trees_from-append [] ns ms ∙ ap (λ (l : List ParseTree). trees_from l ms) (sym (append-nil ts)) ∙ trees_flat ts [] ms p ∙ ap (λ (l : List ParseTree). l
    ++ map (λ n. tree_with ts n) ms) (append-nil ts)

placed_more : (j k : ℕ) (n : Node) → j ≤ k → IsPlaced j n → IsPlaced k n
placed_more j k (Token kind at) l h = tt
placed_more j k (Rule r first count) l h = omega (arith, l, h)

pub ArePlaced-more : (j k : ℕ) (ns : List Node) → j ≤ k → ArePlaced j ns → ArePlaced k ns
ArePlaced-more j k [] l h = tt
ArePlaced-more j k (n ∷ ns) l h = (placed_more j k n l h.0, ArePlaced-more j k ns l h.1)

pub ArePlaced-take : (k i : ℕ) (ns : List Node) → ArePlaced k ns → ArePlaced k (take i ns)
ArePlaced-take k zero ns h = tt
ArePlaced-take k (suc i) [] h = tt
ArePlaced-take k (suc i) (n ∷ ns) h = (h.0, ArePlaced-take k i ns h.1)

pub ArePlaced-drop : (k i : ℕ) (ns : List Node) → ArePlaced k ns → ArePlaced k (drop i ns)
ArePlaced-drop k zero ns h = h
ArePlaced-drop k (suc i) [] h = tt
ArePlaced-drop k (suc i) (n ∷ ns) h = ArePlaced-drop k i ns h.1

pub ArePlaced-snoc : (k : ℕ) (ns : List Node) (n : Node) → ArePlaced k ns → IsPlaced k n → ArePlaced k (ns ++ (n ∷ []))
ArePlaced-snoc k [] n h p = (p, tt)
ArePlaced-snoc k (m ∷ ms) n h p = (h.0, ArePlaced-snoc k ms n h.1 p)

pub ArePlaced-last : (k : ℕ) (ns : List Node) (n : Node) → ArePlaced k (ns ++ (n ∷ [])) → ArePlaced k ns × IsPlaced k n
ArePlaced-last k [] n h = (tt, h.0)
ArePlaced-last k (m ∷ ms) n h = let r = ArePlaced-last k ms n h.1 in ((h.0, r.0), r.1)

arena_flat : (j k : ℕ) (ms : List Node) → j ≤ k → ArePlaced j ms → IsArena k ms
arena_flat j k [] l h = tt
arena_flat j k (n ∷ ns) l h = (placed_more j k n l h.0, arena_flat j (suc k) ns (omega (arith, l)) h.1)

-- nodes that are placed before them may follow
pub IsArena-append : (k : ℕ) (ns ms : List Node) → IsArena k ns → ArePlaced (k + length ns) ms → IsArena k (ns ++ ms)
IsArena-append k [] ms h p = arena_flat (k + 0) k ms (omega arith) p
IsArena-append k (n ∷ ns) ms h p = let e : k + length (n ∷ ns) ≡ suc k + length ns = omega arith
    in (h.0, IsArena-append (suc k) ns ms h.1 (subst (λ (x : ℕ). ArePlaced x ms) e p))

pub IsArena-after : (ns ms : List Node) → IsArena 0 ns → ArePlaced (length ns) ms → IsArena 0 (ns ++ ms)
IsArena-after ns ms h p = let z : length ns ≡ 0 + length ns = omega arith in IsArena-append 0 ns ms h (subst (λ (x : ℕ). ArePlaced x ms) z p)

pub trees_of-row_of : (ts : List ParseTree) → trees_of (row_of ts) ≡ ts
trees_of-row_of [] = refl
trees_of-row_of (leaf k at ∷ ts) = ap (λ (l : List ParseTree). leaf k at ∷ l) (trees_of-row_of ts)
trees_of-row_of (node r row ∷ ts) = ap (λ (l : List ParseTree). node r row ∷ l) (trees_of-row_of ts)

abbrev pub built : List Node → List Node → Built
built nodes waiting = record { nodes = nodes; waiting = waiting }

-- the trees from a place on are put below a rule
pub read_close : (nodes waiting : List Node) (r i : ℕ) → ArePlaced (length nodes) waiting → i ≤ length waiting
    → read_trees (built (nodes ++ drop i waiting) (take i waiting ++ (Rule r (length nodes) (length waiting - i)
    ∷ []))) ≡ closed r i (read_trees (built nodes waiting))
read_close nodes waiting r i p l =
    let ts : List ParseTree = node_trees nodes in
    let extra : List ParseTree = map (λ n. tree_with ts n) (drop i waiting) in
    let long : length ts ≡ length nodes = length-node_trees nodes in
    let all : node_trees (nodes ++ drop i waiting) ≡ ts ++ extra = node_trees-append nodes (drop i waiting) (ArePlaced-drop (length nodes) i waiting p) in
    let kept : map (λ n. tree_with (ts ++ extra) n) (take i waiting) ≡ take i (map (λ n. tree_with ts n) waiting) = trees_same ts extra (take i waiting) (subst
    (λ (k : ℕ). ArePlaced k (take i waiting)) (sym long) (ArePlaced-take (length nodes) i waiting p)) ∙ sym (take-map (λ n. tree_with ts n) i waiting) in
    let e : drop (length nodes) (ts ++ extra) ≡ extra = subst (λ (k : ℕ). drop k (ts ++ extra) ≡ extra) long (drop-append_seam ts extra) in
    let f : take (length waiting - i) extra ≡ extra = take_all (length waiting - i) extra (omega (
      arith,
      length-map (drop i waiting)
          (λ n. tree_with ts n),
      length-drop i waiting,
    )) in
    let low : take (length waiting - i) (drop (length nodes) (ts ++ extra)) ≡ drop i (map (λ n. tree_with ts n) waiting) = ap (λ (x : List ParseTree). take
    (length waiting - i) x) e ∙ f ∙ sym (drop-map (λ n. tree_with ts n) i waiting) in
    map-append (λ n. tree_with (node_trees (nodes ++ drop i waiting)) n) (take i waiting) (Rule r (length nodes) (length waiting - i) ∷ [])
    ∙ ap (λ (all : List ParseTree). map (λ n. tree_with all n) (take i waiting) ++ (node r (row_of (take (length waiting - i) (drop (length nodes) all)))
    ∷ [])) all
    ∙ ap (λ (x : List ParseTree). x ++ (node r (row_of (take (length waiting - i) (drop (length nodes) (ts ++ extra)))) ∷ [])) kept
    ∙ ap (λ (x : List ParseTree). take i (map (λ n. tree_with ts n) waiting) ++ (node r (row_of x) ∷ [])) low

-- places past the end mean the end
pub closed_past : (r start : ℕ) (done : List ParseTree) → closed r (min (length done) start) done ≡ closed r start done
closed_past r start done =
    ⊎_elim
    (λ (l : start < length done). let e : min (length done) start ≡ start = omega (arith, l) in ap (λ (k : ℕ). closed r k done) e)
    (λ (l : length done ≤ start).
    let e : min (length done) start ≡ length done = omega (arith, l) in
    let a : take (length done) done ≡ take start done = take_all (length done) done (omega arith) ∙ sym (take_all start done l) in
    let b : drop (length done) done ≡ drop start done = drop_all (length done) done (omega arith) ∙ sym (drop_all start done l) in
    ap (λ (k : ℕ). closed r k done) e ∙ ap (λ (x : List ParseTree). x ++ (node r (row_of (drop (length done) done)) ∷ [])) a
    ∙ ap (λ (x : List ParseTree). take start done ++ (node r (row_of x) ∷ [])) b)
    (cases_lt start (length done))

-- the trees below a rule's node
pub below-rule : (ns : List Node) (i r first count : ℕ) → IsArena 0 ns → slice_get ns i ≡ Some (Rule r first count)
    → below (tree_at ns i) ≡ take count (drop first (node_trees ns))
below-rule ns i r first count h e =
    let t = node_tree ns i (Rule r first count) h e in
    ap (λ (x : ParseTree). below x) (get_or_from_slice_get (node_trees ns) i (tree_with (node_trees ns) (Rule r first count)) (leaf 0 0) t)
    ∙ trees_of-row_of (take count (drop first (node_trees ns)))

pub tree_at-node : (ns : List Node) (i : ℕ) (x : Node) → IsArena 0 ns → slice_get ns i ≡ Some x → tree_at ns i ≡ tree_with (node_trees ns) x
tree_at-node ns i x h e = get_or_from_slice_get (node_trees ns) i (tree_with (node_trees ns) x) (leaf 0 0) (node_tree ns i x h e)

arena_at : (k : ℕ) (ns : List Node) (i : ℕ) (x : Node) → IsArena k ns → slice_get ns i ≡ Some x → IsPlaced (k + i) x
arena_at k [] i x h e = (cc)
arena_at k (n ∷ ns) zero x h e = let same : n ≡ x = cc in let z : k ≡ k + 0 = omega arith in subst (λ (y : Node). IsPlaced (k + 0) y) same (subst (λ
    (j : ℕ). IsPlaced j n) z h.0)
arena_at k (n ∷ ns) (suc i) x h e = let z : suc k + i ≡ k + suc i = omega arith in subst (λ (j : ℕ). IsPlaced j x) z (arena_at (suc k) ns i x h.1 e)

-- the nodes below a rule's node stand before it
pub placed_at : (ns : List Node) (i r first count : ℕ) → IsArena 0 ns → slice_get ns i ≡ Some (Rule r first count) → first + count ≤ i
placed_at ns i r first count h e = let p : first + count ≤ 0 + i = arena_at 0 ns i (Rule r first count) h e in omega (arith, p)

pub length-below : (ns : List Node) (i r first count : ℕ) → IsArena 0 ns → slice_get ns i ≡ Some (Rule r first count) → length (below (tree_at ns i)) ≡ count
length-below ns i r first count h e =
    let p = placed_at ns i r first count h e in
    let l : i < length ns = slice_get_within ns i (Rule r first count) e in
    ap (λ (ts : List ParseTree). length ts) (below-rule ns i r first count h e) ∙ length-take-le count (drop first (node_trees ns)) (omega
    (arith, p, l, length-drop first (node_trees ns), length-node_trees ns))

get_taken : {X : Type 0} (count i : ℕ) (xs : List X) → i < count → slice_get (take count xs) i ≡ slice_get xs i
get_taken zero i xs l = absurd (omega arith)
get_taken (suc count) i [] l = refl
get_taken (suc count) zero (x ∷ xs) l = refl
get_taken (suc count) (suc i) (x ∷ xs) l = get_taken count i xs (omega arith)

get_dropped : {X : Type 0} (first i : ℕ) (xs : List X) → slice_get (drop first xs) i ≡ slice_get xs (first + i)
get_dropped zero i xs = let z : i ≡ 0 + i = omega arith in ap (λ (k : ℕ). slice_get xs k) z
get_dropped (suc first) i [] = refl
get_dropped (suc first) i (x ∷ xs) = let z : suc (first + i) ≡ suc first + i = omega arith in get_dropped first i xs ∙ ap (λ (k : ℕ). slice_get (x ∷ xs) k) z

pub below_at : (ns : List Node) (n r first count i : ℕ) → IsArena 0 ns → slice_get ns n ≡ Some (Rule r first count) → i < count
    → slice_get (below (tree_at ns n)) i ≡ Some (tree_at ns (first + i))
below_at ns n r first count i h e l =
    let p = placed_at ns n r first count h e in
    let w : n < length ns = slice_get_within ns n (Rule r first count) e in
    let in_range : first + i < length (node_trees ns) = omega (arith, p, w, l, length-node_trees ns) in
    ap (λ (ts : List ParseTree). slice_get ts i) (below-rule ns n r first count h e) ∙ get_taken count i (drop first (node_trees ns)) l
    ∙ get_dropped first i (node_trees ns) ∙ slice_get-get_or (node_trees ns) (first + i) (leaf 0 0) in_range
