-- Four sorts of knowledge of rows: that all trees are good, that the tree behind one of a sort is good, that the tree at a place
-- is good, and by how much the nodes are more than the tokens.
use Rattle.std.proofs.Common.{◌≡◌, ℕ, zero, suc, ◌+◌, ◌==◌, ◌||◌, not, if◌then◌else◌, Bool, true, false, List, [], ◌∷◌, ◌++◌, length, filter, Option, Some, None, slice_get, refl, sym, ap, ◌∙◌, arith, inl, inr, ◌⊎◌, ⊎_elim}
use Rattle.std.proofs.lemmas.Bool.Decides.{nat_tests}
use Rattle.std.proofs.lemmas.List.{length-append}
use Rattle.std.proofs.lemmas.List.Elements.{filter-append}
use Rattle.grammar_core.specs.Trees.{ParseTree, leaf, node, Row}
use Rattle.use_syntax.proofs.Ranked.{both, both_left, both_right}
use Rattle.use_nodes.specs.declared.parts.Select.TheVariants as s
use Rattle.use_nodes.specs.Nodes.{selects}
use Rattle.use_nodes.proofs.Known.{Way}
use Rattle.use_nodes.proofs.Sure.{both_of, is_filled}

-- a test that looks at what a tree is alone, and not at what is below it
pub record IsOfLabel (test : ParseTree → Bool) : Type 0 where
  pub of_token : (k at : ℕ) → test (leaf k 0) ≡ test (leaf k at)
  pub of_rule : (r : ℕ) (row : Row) → test (node r Row.none) ≡ test (node r row)

pub filled_behind : (ts us : List ParseTree) → is_filled us ≡ true → is_filled (ts ++ us) ≡ true
filled_behind [] us e = e
filled_behind (t ∷ ts) us e = refl

pub filled_before : (ts us : List ParseTree) → is_filled ts ≡ true → is_filled (ts ++ us) ≡ true
filled_before [] us e = absurd (cc)
filled_before (t ∷ ts) us e = refl

pub or_left : (a b : Bool) → a ≡ true → (a || b) ≡ true
or_left true b e = refl
or_left false b e = absurd (cc)

pub or_right : (a b : Bool) → b ≡ true → (a || b) ≡ true
or_right true b e = refl
or_right false b e = e

or_cases : (a b : Bool) → (a || b) ≡ true → (a ≡ true) ⊎ (b ≡ true)
or_cases true b e = inl refl
or_cases false b e = inr e

-- the row has a tree; how many it has; at which places the tree is good, if there is one
pub data Spots : Type 0 where
  spots : Bool → Option ℕ → (ℕ → Bool) → Spots

-- the row has a tree; the first one is good; the last one is not of the sort; what follows one of the sort is good
pub data Edges : Type 0 where
  edges : Bool → Bool → Bool → Bool → Edges

module _ (good : ParseTree → Bool) where
  abbrev pub all_good : List ParseTree → Bool
  all_good [] = true
  all_good (t ∷ ts) = both (good t) (all_good ts)

  pub all_append : (ts us : List ParseTree) → all_good ts ≡ true → all_good us ≡ true → all_good (ts ++ us) ≡ true
  all_append [] us h k = k
  all_append (t ∷ ts) us h k =
      both_of (good t) (all_good (ts ++ us)) (both_left (good t) (all_good ts) h) (all_append ts us (both_right (good t) (all_good ts) h) k)

  abbrev pub AllAreGood : Bool → List ParseTree → Type 0
  AllAreGood b ts = b ≡ true → all_good ts ≡ true

  abbrev pub all_way : IsOfLabel good → Way Bool AllAreGood
  all_way label = record {
    of_token = λ k. good (leaf k 0);
    of_rule = λ r. good (node r Row.none);
    of_none = true;
    nothing = false;
    in_turn = both;
    either = both;
    often = λ b. b;
    token_true = λ k at e. both_of (good (leaf k at)) true (sym (label.of_token k at) ∙ e) refl;
    rule_true = λ r row e. both_of (good (node r row)) true (sym (label.of_rule r row) ∙ e) refl;
    none_true = λ e. refl;
    nothing_true = λ ts e. absurd (cc);
    turn_true = λ b c ts us h k e. all_append ts us (h (both_left b c e)) (k (both_right b c e));
    left_true = λ b c ts h e. h (both_left b c e);
    right_true = λ b c ts h e. h (both_right b c e);
    never_true = λ b e. refl;
    often_true = λ b ts us h k e. all_append ts us (h e) (k e);
  }

  -- the tree that is there is good
  abbrev pub good_if : Option ParseTree → Bool
  good_if None = true
  good_if (Some t) = good t

  pub record AreSpots (n : Bool) (m : Option ℕ) (at : ℕ → Bool) (ts : List ParseTree) : Type 0 where
    pub filled : n ≡ true → is_filled ts ≡ true
    pub long : (k : ℕ) → m ≡ Some k → length ts ≡ k
    pub fits : (i : ℕ) → at i ≡ true → good_if (slice_get ts i) ≡ true

  abbrev pub HasSpots : Spots → List ParseTree → Type 0
  HasSpots (spots n m at) ts = AreSpots n m at ts

  abbrev sum_of : Option ℕ → Option ℕ → Option ℕ
  sum_of None o = None
  sum_of (Some k) None = None
  sum_of (Some k) (Some l) = Some (k + l)

  -- the places of a row of so many trees and then another
  abbrev past : ℕ → (ℕ → Bool) → (ℕ → Bool) → ℕ → Bool
  past zero at more i = more i
  past (suc k) at more zero = at 0
  past (suc k) at more (suc i) = past k (λ j. at (suc j)) more i

  abbrev at_in_turn : Option ℕ → Bool → (ℕ → Bool) → (ℕ → Bool) → ℕ → Bool
  at_in_turn (Some k) n at more i = past k at more i
  at_in_turn None n at more zero = both (at 0) (n || more 0)
  at_in_turn None n at more (suc i) = false

  abbrev spots_in_turn : Spots → Spots → Spots
  spots_in_turn (spots n m at) (spots n' m' more) = spots (n || n') (sum_of m m') (at_in_turn m n at more)

  abbrev same_of : Option ℕ → Option ℕ → Option ℕ
  same_of None o = None
  same_of (Some k) None = None
  same_of (Some k) (Some l) = if k == l then Some k else None

  abbrev spots_either : Spots → Spots → Spots
  spots_either (spots n m at) (spots n' m' more) = spots (both n n') (same_of m m') (λ i. both (at i) (more i))

  abbrev only_at : Bool → ℕ → Bool
  only_at b zero = b
  only_at b (suc i) = true

  abbrev one_spot : Bool → Spots
  one_spot b = spots true (Some 1) (only_at b)

  abbrev no_spots : Spots
  no_spots = spots false None (λ i. false)

  past_good : (ts us : List ParseTree) (k : ℕ) (at more : ℕ → Bool) → length ts ≡ k → ((i : ℕ) → at i ≡ true → good_if (slice_get ts i) ≡ true)
      → ((i : ℕ) → more i ≡ true → good_if (slice_get us i) ≡ true) → (i : ℕ) → past k at more i ≡ true → good_if (slice_get (ts ++ us) i) ≡ true
  past_good [] us zero at more long g h i e = h i e
  past_good [] us (suc k) at more long g h i e = absurd (omega (arith, long))
  past_good (t ∷ ts) us zero at more long g h i e = absurd (omega (arith, long))
  past_good (t ∷ ts) us (suc k) at more long g h zero e = g 0 e
  past_good (t ∷ ts) us (suc k) at more long g h (suc i) e = past_good ts us k (λ j. at (suc j)) more (omega (arith, long)) (λ j. g (suc j)) h i e

  first_good_in : (ts us : List ParseTree) (n : Bool) → (n ≡ true → is_filled ts ≡ true)
      → good_if (slice_get ts 0) ≡ true → (n || good_if (slice_get us 0)) ≡ true → good_if (slice_get (ts ++ us) 0) ≡ true
  first_good_in [] us true f g e = let none = f refl in absurd (cc)
  first_good_in [] us false f g e = e
  first_good_in (t ∷ ts) us n f g e = g

  or_more : (n b c : Bool) → (b ≡ true → c ≡ true) → (n || b) ≡ true → (n || c) ≡ true
  or_more true b c f e = refl
  or_more false b c f e = f e

  turn_good : (m : Option ℕ) (n : Bool) (at more : ℕ → Bool) (ts us : List ParseTree)
      → ((k : ℕ) → m ≡ Some k → length ts ≡ k) → (n ≡ true → is_filled ts ≡ true) → ((i : ℕ) → at i ≡ true → good_if (slice_get ts i) ≡ true)
      → ((i : ℕ) → more i ≡ true → good_if (slice_get us i) ≡ true) → (i : ℕ) → at_in_turn m n at more i ≡ true → good_if (slice_get (ts ++ us) i) ≡ true
  turn_good (Some k) n at more ts us long f g h i e = past_good ts us k at more (long k refl) g h i e
  turn_good None n at more ts us long f g h zero e =
      first_good_in ts us n f (g 0 (both_left (at 0) (n || more 0) e)) (or_more n (more 0) (good_if (slice_get us 0)) (h 0) (both_right (at 0) (n || more 0) e))
  turn_good None n at more ts us long f g h (suc i) e = absurd (cc)

  turn_long : (m m' : Option ℕ) (ts us : List ParseTree) → ((k : ℕ) → m ≡ Some k → length ts ≡ k)
      → ((k : ℕ) → m' ≡ Some k → length us ≡ k) → (k : ℕ) → sum_of m m' ≡ Some k → length (ts ++ us) ≡ k
  turn_long None m' ts us f g k e = absurd (cc)
  turn_long (Some a) None ts us f g k e = absurd (cc)
  turn_long (Some a) (Some b) ts us f g k e = let s : a + b ≡ k = cc in let l = f a refl in let r = g b refl in omega (arith, s, l, r, length-append ts us)

  pub turn_spots : (a b : Spots) (ts us : List ParseTree) → HasSpots a ts → HasSpots b us → HasSpots (spots_in_turn a b) (ts ++ us)
  turn_spots (spots n m at) (spots n' m' more) ts us h k = record {
    filled = λ e. ⊎_elim (λ l. filled_before ts us (h.filled l)) (λ r. filled_behind ts us (k.filled r)) (or_cases n n' e);
    long = turn_long m m' ts us h.long k.long;
    fits = turn_good m n at more ts us h.long h.filled h.fits k.fits;
  }

  left_long : (m m' : Option ℕ) (l : ℕ) → ((k : ℕ) → m ≡ Some k → l ≡ k) → (k : ℕ) → same_of m m' ≡ Some k → l ≡ k
  left_long None m' l f k e = absurd (cc)
  left_long (Some a) None l f k e = absurd (cc)
  left_long (Some a) (Some b) l f k e = by_test (a == b) e
    where
      by_test : (t : Bool) → (if t then Some a else None) ≡ Some k → l ≡ k
      by_test true h = f k h
      by_test false h = absurd (cc)

  right_long : (m m' : Option ℕ) (l : ℕ) → ((k : ℕ) → m' ≡ Some k → l ≡ k) → (k : ℕ) → same_of m m' ≡ Some k → l ≡ k
  right_long None m' l f k e = absurd (cc)
  right_long (Some a) None l f k e = absurd (cc)
  right_long (Some a) (Some b) l f k e = by_test (a == b) refl e
    where
      by_test : (t : Bool) → (a == b) ≡ t → (if t then Some a else None) ≡ Some k → l ≡ k
      by_test true same h = let s : a ≡ b = grind (arith, nat_tests) in let r : a ≡ k = cc in f b refl ∙ sym s ∙ r
      by_test false same h = absurd (cc)

  pub left_spots : (a b : Spots) (ts : List ParseTree) → HasSpots a ts → HasSpots (spots_either a b) ts
  left_spots (spots n m at) (spots n' m' more) ts h =
      record { filled = λ e. h.filled (both_left n n' e); long = left_long m m' (length ts) h.long; fits = λ i e. h.fits i (both_left (at i) (more i) e) }

  pub right_spots : (a b : Spots) (ts : List ParseTree) → HasSpots b ts → HasSpots (spots_either a b) ts
  right_spots (spots n m at) (spots n' m' more) ts h =
      record { filled = λ e. h.filled (both_right n n' e); long = right_long m m' (length ts) h.long; fits = λ i e. h.fits i (both_right (at i) (more i) e) }

  pub one_good : (b : Bool) (t : ParseTree) → b ≡ good t → HasSpots (one_spot b) (t ∷ [])
  one_good b t same = record { filled = λ e. refl; long = λ k e. (cc); fits = at }
    where
      at : (i : ℕ) → only_at b i ≡ true → good_if (slice_get (t ∷ []) i) ≡ true
      at zero e = sym same ∙ e
      at (suc i) e = refl

  pub none_spots : (ts : List ParseTree) → HasSpots no_spots ts
  none_spots ts = record { filled = λ e. absurd (cc); long = λ k e. absurd (cc); fits = λ i e. absurd (cc) }

  abbrev pub spot_way : IsOfLabel good → Way Spots HasSpots
  spot_way label = record {
    of_token = λ k. one_spot (good (leaf k 0));
    of_rule = λ r. one_spot (good (node r Row.none));
    of_none = spots false (Some 0) (λ i. true);
    nothing = no_spots;
    in_turn = spots_in_turn;
    either = spots_either;
    often = λ d. no_spots;
    token_true = λ k at. one_good (good (leaf k 0)) (leaf k at) (label.of_token k at);
    rule_true = λ r row. one_good (good (node r Row.none)) (node r row) (label.of_rule r row);
    none_true = record { filled = λ e. absurd (cc); long = λ k e. (cc); fits = λ i e. refl };
    nothing_true = none_spots;
    turn_true = turn_spots;
    left_true = left_spots;
    right_true = right_spots;
    never_true = λ d. none_spots [];
    often_true = λ d ts us h k. none_spots (ts ++ us);
  }

-- what stands behind a tree of a sort
module _ (sort good : ParseTree → Bool) where
  abbrev pub first_good : List ParseTree → Bool
  first_good [] = true
  first_good (t ∷ ts) = good t

  abbrev pub last_free : List ParseTree → Bool
  last_free [] = true
  last_free (t ∷ []) = not (sort t)
  last_free (t ∷ u ∷ ts) = last_free (u ∷ ts)

  -- behind each tree of the sort stands a good one, or none
  abbrev pub follow_good : List ParseTree → Bool
  follow_good [] = true
  follow_good (t ∷ ts) = both (not (sort t) || first_good ts) (follow_good ts)

  pub record AreEdges (n f l p : Bool) (ts : List ParseTree) : Type 0 where
    pub filled : n ≡ true → is_filled ts ≡ true
    pub first : f ≡ true → first_good ts ≡ true
    pub last : l ≡ true → last_free ts ≡ true
    pub follows : p ≡ true → follow_good ts ≡ true

  abbrev pub HasEdges : Edges → List ParseTree → Type 0
  HasEdges (edges n f l p) ts = AreEdges n f l p ts

  abbrev edges_in_turn : Edges → Edges → Edges
  edges_in_turn (edges n f l p) (edges n' f' l' p') = edges (n || n') (both f (n || f')) (both l' (n' || l)) (both (both p p') (l || f'))

  abbrev edges_either : Edges → Edges → Edges
  edges_either (edges n f l p) (edges n' f' l' p') = edges (both n n') (both f f') (both l l') (both p p')

  abbrev edges_often : Edges → Edges
  edges_often (edges n f l p) = edges false f l (both p (l || f))

  first_append : (ts us : List ParseTree) → first_good ts ≡ true → (is_filled ts ≡ true) ⊎ (first_good us ≡ true) → first_good (ts ++ us) ≡ true
  first_append [] us h c = ⊎_elim (λ e. absurd (cc)) (λ e. e) c
  first_append (t ∷ ts) us h c = h

  last_append : (ts us : List ParseTree) → last_free us ≡ true → (is_filled us ≡ true) ⊎ (last_free ts ≡ true) → last_free (ts ++ us) ≡ true
  last_append [] us h c = h
  last_append (t ∷ []) [] h c = ⊎_elim (λ e. absurd (cc)) (λ e. e) c
  last_append (t ∷ []) (u ∷ us) h c = h
  last_append (t ∷ v ∷ ts) us h c = last_append (v ∷ ts) us h c

  follow_append : (ts us : List ParseTree) → follow_good ts ≡ true → follow_good us ≡ true
      → (last_free ts ≡ true) ⊎ (first_good us ≡ true) → follow_good (ts ++ us) ≡ true
  follow_append [] us h k c = k
  follow_append (t ∷ []) us h k c =
      both_of (not (sort t) || first_good us) (follow_good us)
      (⊎_elim (λ e. or_left (not (sort t)) (first_good us) e) (λ e. or_right (not (sort t)) (first_good us) e) c) k
  follow_append (t ∷ v ∷ ts) us h k c =
      both_of (not (sort t) || good v) (follow_good ((v ∷ ts) ++ us)) (both_left (not (sort t) || good v) (follow_good (v ∷ ts)) h)
      (follow_append (v ∷ ts) us (both_right (not (sort t) || good v) (follow_good (v ∷ ts)) h) k c)

  pub turn_edges : (a b : Edges) (ts us : List ParseTree) → HasEdges a ts → HasEdges b us → HasEdges (edges_in_turn a b) (ts ++ us)
  turn_edges (edges n f l p) (edges n' f' l' p') ts us h k = record {
    filled = λ e. ⊎_elim (λ x. filled_before ts us (h.filled x)) (λ x. filled_behind ts us (k.filled x)) (or_cases n n' e);
    first = λ e. first_append ts us (h.first (both_left f (n || f') e))
        (⊎_elim (λ x. inl (h.filled x)) (λ x. inr (k.first x)) (or_cases n f' (both_right f (n || f') e)));
    last = λ e. last_append ts us (k.last (both_left l' (n' || l) e))
        (⊎_elim (λ x. inl (k.filled x)) (λ x. inr (h.last x)) (or_cases n' l (both_right l' (n' || l) e)));
    follows = λ e. follow_append ts us (h.follows (both_left p p' (both_left (both p p') (l || f') e)))
        (k.follows (both_right p p' (both_left (both p p') (l || f') e)))
        (⊎_elim (λ x. inl (h.last x)) (λ x. inr (k.first x)) (or_cases l f' (both_right (both p p') (l || f') e)));
  }

  pub left_edges : (a b : Edges) (ts : List ParseTree) → HasEdges a ts → HasEdges (edges_either a b) ts
  left_edges (edges n f l p) (edges n' f' l' p') ts h =
      record {
        filled = λ e. h.filled (both_left n n' e);
        first = λ e. h.first (both_left f f' e);
        last = λ e. h.last (both_left l l' e);
        follows = λ e. h.follows (both_left p p' e);
      }

  pub right_edges : (a b : Edges) (ts : List ParseTree) → HasEdges b ts → HasEdges (edges_either a b) ts
  right_edges (edges n f l p) (edges n' f' l' p') ts h =
      record {
        filled = λ e. h.filled (both_right n n' e);
        first = λ e. h.first (both_right f f' e);
        last = λ e. h.last (both_right l l' e);
        follows = λ e. h.follows (both_right p p' e);
      }

  pub never_edges : (a : Edges) → HasEdges (edges_often a) []
  never_edges (edges n f l p) = record { filled = λ e. absurd (cc); first = λ e. refl; last = λ e. refl; follows = λ e. refl }

  pub often_edges : (a : Edges) (ts us : List ParseTree) → HasEdges a ts → HasEdges (edges_often a) us → HasEdges (edges_often a) (ts ++ us)
  often_edges (edges n f l p) ts us h k = record {
    filled = λ e. absurd (cc);
    first = λ e. first_append ts us (h.first e) (inr (k.first e));
    last = λ e. last_append ts us (k.last e) (inr (h.last e));
    follows = λ e. follow_append ts us (h.follows (both_left p (l || f) e)) (k.follows e)
        (⊎_elim (λ x. inl (h.last x)) (λ x. inr (k.first x)) (or_cases l f (both_right p (l || f) e)));
  }

  pub no_edges : (ts : List ParseTree) → HasEdges (edges false false false false) ts
  no_edges ts = record { filled = λ e. absurd (cc); first = λ e. absurd (cc); last = λ e. absurd (cc); follows = λ e. absurd (cc) }

  pub one_edge : (s t : ParseTree) → sort s ≡ sort t → good s ≡ good t → HasEdges (edges true (good s) (not (sort s)) true) (t ∷ [])
  one_edge s t e g =
      record {
        filled = λ x. refl;
        first = λ x. sym g ∙ x;
        last = λ x. ap not (sym e) ∙ x;
        follows = λ x. both_of (not (sort t) || true) true (or_right (not (sort t)) true refl) refl;
      }

  abbrev pub edge_way : IsOfLabel sort → IsOfLabel good → Way Edges HasEdges
  edge_way of_sort of_good = record {
    of_token = λ k. edges true (good (leaf k 0)) (not (sort (leaf k 0))) true;
    of_rule = λ r. edges true (good (node r Row.none)) (not (sort (node r Row.none))) true;
    of_none = edges false true true true;
    nothing = edges false false false false;
    in_turn = edges_in_turn;
    either = edges_either;
    often = edges_often;
    token_true = λ k at. one_edge (leaf k 0) (leaf k at) (of_sort.of_token k at) (of_good.of_token k at);
    rule_true = λ r row. one_edge (node r Row.none) (node r row) (of_sort.of_rule r row) (of_good.of_rule r row);
    none_true = record { filled = λ e. absurd (cc); first = λ e. refl; last = λ e. refl; follows = λ e. refl };
    nothing_true = no_edges;
    turn_true = turn_edges;
    left_true = left_edges;
    right_true = right_edges;
    never_true = never_edges;
    often_true = often_edges;
  }

abbrev pub nodes_in : List ParseTree → ℕ
nodes_in ts = length (filter (selects s.Rules) ts)

abbrev pub tokens_in : List ParseTree → ℕ
tokens_in ts = length (filter (selects s.Tokens) ts)

-- the nodes and so many more are as many as the tokens and so many more
pub data Balance : Type 0 where
  unknown : Balance
  balance : ℕ → ℕ → Balance

abbrev pub IsBalance : Balance → List ParseTree → Type 0
IsBalance unknown ts = Unit {0}
IsBalance (balance x y) ts = nodes_in ts + y ≡ tokens_in ts + x

abbrev when : Bool → Balance → Balance
when true b = b
when false b = unknown

abbrev balance_in_turn : Balance → Balance → Balance
balance_in_turn unknown b = unknown
balance_in_turn (balance x y) unknown = unknown
balance_in_turn (balance x y) (balance z w) = balance (x + z) (y + w)

abbrev balance_either : Balance → Balance → Balance
balance_either unknown b = unknown
balance_either (balance x y) unknown = unknown
balance_either (balance x y) (balance z w) = when (both (x == z) (y == w)) (balance x y)

abbrev balance_often : Balance → Balance
balance_often unknown = unknown
balance_often (balance x y) = when (x == y) (balance 0 0)

count_append : (f : ParseTree → Bool) (ts us : List ParseTree) → length (filter f (ts ++ us)) ≡ length (filter f ts) + length (filter f us)
count_append f ts us = ap (λ (l : List ParseTree). length l) (filter-append f ts us) ∙ length-append (filter f ts) (filter f us)

pub turn_balance : (a b : Balance) (ts us : List ParseTree) → IsBalance a ts → IsBalance b us → IsBalance (balance_in_turn a b) (ts ++ us)
turn_balance unknown b ts us h k = tt
turn_balance (balance x y) unknown ts us h k = tt
turn_balance (balance x y) (balance z w) ts us h k = let m = count_append (selects s.Rules) ts us in
    let n = count_append (selects s.Tokens) ts us in omega (arith, h, k, m, n)

pub left_balance : (a b : Balance) (ts : List ParseTree) → IsBalance a ts → IsBalance (balance_either a b) ts
left_balance unknown b ts h = tt
left_balance (balance x y) unknown ts h = tt
left_balance (balance x y) (balance z w) ts h = by_test (both (x == z) (y == w))
  where
    by_test : (t : Bool) → IsBalance (when t (balance x y)) ts
    by_test true = h
    by_test false = tt

pub right_balance : (a b : Balance) (ts : List ParseTree) → IsBalance b ts → IsBalance (balance_either a b) ts
right_balance unknown b ts h = tt
right_balance (balance x y) unknown ts h = tt
right_balance (balance x y) (balance z w) ts h = by_test (both (x == z) (y == w)) refl
  where
    same : (m n : ℕ) → (m == n) ≡ true → m ≡ n
    same m n e = grind (arith, nat_tests)

    by_test : (t : Bool) → both (x == z) (y == w) ≡ t → IsBalance (when t (balance x y)) ts
    by_test true e = let a = same x z (both_left (x == z) (y == w) e) in let b = same y w (both_right (x == z) (y == w) e) in omega (arith, h, a, b)
    by_test false e = tt

pub never_balance : (a : Balance) → IsBalance (balance_often a) []
never_balance unknown = tt
never_balance (balance x y) = by_test (x == y)
  where
    by_test : (t : Bool) → IsBalance (when t (balance 0 0)) []
    by_test true = refl
    by_test false = tt

pub often_balance : (a : Balance) (ts us : List ParseTree) → IsBalance a ts → IsBalance (balance_often a) us → IsBalance (balance_often a) (ts ++ us)
often_balance unknown ts us h k = tt
often_balance (balance x y) ts us h k = by_test (x == y) refl k
  where
    same : (m n : ℕ) → (m == n) ≡ true → m ≡ n
    same m n e = grind (arith, nat_tests)

    by_test : (t : Bool) → (x == y) ≡ t → IsBalance (when t (balance 0 0)) us → IsBalance (when t (balance 0 0)) (ts ++ us)
    by_test true e k = let a = same x y e in let m = count_append (selects s.Rules) ts us in
        let n = count_append (selects s.Tokens) ts us in omega (arith, h, k, a, m, n)
    by_test false e k = tt

abbrev pub balance_way : Way Balance IsBalance
balance_way = record {
  of_token = λ k. balance 0 1;
  of_rule = λ r. balance 1 0;
  of_none = balance 0 0;
  nothing = unknown;
  in_turn = balance_in_turn;
  either = balance_either;
  often = balance_often;
  token_true = λ k at. refl;
  rule_true = λ r row. refl;
  none_true = refl;
  nothing_true = λ ts. tt;
  turn_true = turn_balance;
  left_true = left_balance;
  right_true = right_balance;
  never_true = never_balance;
  often_true = often_balance;
}
