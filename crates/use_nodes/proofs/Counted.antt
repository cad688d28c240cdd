-- A fifth sort of knowledge of rows: how many trees of a sort there are at most, in all and behind the first token of a kind.
use Rattle.std.proofs.Common.{◌≡◌, ◌≤◌, ℕ, zero, suc, ◌+◌, max, if◌then◌else◌, not, Bool, true, false, List, [], ◌∷◌, ◌++◌, length, filter, Option, Some, None, refl, sym, subst, ap, ◌∙◌, arith, inl, inr, ◌⊎◌, ⊎_elim}
use Rattle.std.proofs.Math.Nat.{le-max_left, le-max_right}
use Rattle.std.proofs.lemmas.List.{length-append}
use Rattle.std.proofs.lemmas.List.Elements.{filter-append}
use Rattle.grammar_core.specs.Trees.{ParseTree, leaf, node, Row}
use Rattle.use_text.specs.declared.token.TokenKind.{TokenKind}
use Rattle.use_syntax.proofs.Ranked.{both, both_left, both_right}
use Rattle.use_nodes.specs.Nodes.{all_behind, is_token}
use Rattle.use_nodes.proofs.Known.{Way}
use Rattle.use_nodes.proofs.Sure.{both_of}
use Rattle.use_nodes.proofs.Ways.{IsOfLabel}

-- the row has no token of the kind; so many trees of the sort, and so many behind the first token of the kind, where that is known
pub data Counts : Type 0 where
  counts : Bool → Option ℕ → Option ℕ → Counts

abbrev pub IsAtMost : Option ℕ → ℕ → Type 0
IsAtMost None n = Unit {0}
IsAtMost (Some k) n = n ≤ k

abbrev sum_of : Option ℕ → Option ℕ → Option ℕ
sum_of None o = None
sum_of (Some k) None = None
sum_of (Some k) (Some l) = Some (k + l)

abbrev most_of : Option ℕ → Option ℕ → Option ℕ
most_of None o = None
most_of (Some k) None = None
most_of (Some k) (Some l) = Some (max k l)

-- of rows that are repeated
abbrev none_of : Option ℕ → Option ℕ
none_of None = None
none_of (Some zero) = Some 0
none_of (Some (suc k)) = None

sum_holds : (a b : Option ℕ) (m n : ℕ) → IsAtMost a m → IsAtMost b n → IsAtMost (sum_of a b) (m + n)
sum_holds None b m n h k = tt
sum_holds (Some x) None m n h k = tt
sum_holds (Some x) (Some y) m n h k = omega (arith, h, k)

most_left : (a b : Option ℕ) (m : ℕ) → IsAtMost a m → IsAtMost (most_of a b) m
most_left None b m h = tt
most_left (Some x) None m h = tt
most_left (Some x) (Some y) m h = let l = le-max_left x y in omega (arith, h, l)

most_right : (a b : Option ℕ) (m : ℕ) → IsAtMost b m → IsAtMost (most_of a b) m
most_right None b m h = tt
most_right (Some x) None m h = tt
most_right (Some x) (Some y) m h = let l = le-max_right x y in omega (arith, h, l)

none_zero : (a : Option ℕ) → IsAtMost (none_of a) 0
none_zero None = tt
none_zero (Some zero) = omega arith
none_zero (Some (suc k)) = tt

none_sum : (a : Option ℕ) (m n : ℕ) → IsAtMost a m → IsAtMost (none_of a) n → IsAtMost (none_of a) (m + n)
none_sum None m n h k = tt
none_sum (Some zero) m n h k = omega (arith, h, k)
none_sum (Some (suc x)) m n h k = tt

module _ (kind : TokenKind) (sort : ParseTree → Bool) where
  abbrev pub count : List ParseTree → ℕ
  count ts = length (filter sort ts)

  abbrev is_free : List ParseTree → Bool
  is_free [] = true
  is_free (t ∷ ts) = both (not (is_token kind t)) (is_free ts)

  abbrev behind : List ParseTree → List ParseTree
  behind ts = all_behind kind ts

  pub record AreCounts (f : Bool) (m b : Option ℕ) (ts : List ParseTree) : Type 0 where
    pub free : f ≡ true → is_free ts ≡ true
    pub all : IsAtMost m (count ts)
    pub later : IsAtMost b (count (behind ts))

  abbrev pub HasCounts : Counts → List ParseTree → Type 0
  HasCounts (counts f m b) ts = AreCounts f m b ts

  free_append : (ts us : List ParseTree) → is_free ts ≡ true → is_free us ≡ true → is_free (ts ++ us) ≡ true
  free_append [] us h k = k
  free_append (t ∷ ts) us h k =
      both_of (not (is_token kind t)) (is_free (ts ++ us)) (both_left (not (is_token kind t)) (is_free ts) h)
      (free_append ts us (both_right (not (is_token kind t)) (is_free ts) h) k)

  count_append : (ts us : List ParseTree) → count (ts ++ us) ≡ count ts + count us
  count_append ts us = ap (λ (l : List ParseTree). length l) (filter-append sort ts us) ∙ length-append (filter sort ts) (filter sort us)

  -- behind a row without the token
  free_behind : (ts us : List ParseTree) → is_free ts ≡ true → behind (ts ++ us) ≡ behind us
  free_behind [] us h = refl
  free_behind (t ∷ ts) us h =
      here (is_token kind t) (both_left (not (is_token kind t)) (is_free ts) h) (free_behind ts us (both_right (not (is_token kind t)) (is_free ts) h))
    where
      here : (b : Bool) → not b ≡ true → behind (ts ++ us) ≡ behind us → (if b then ts ++ us else behind (ts ++ us)) ≡ behind us
      here true e later = absurd (cc)
      here false e later = later

  -- behind any
  any_behind : (ts us : List ParseTree) → (behind (ts ++ us) ≡ behind ts ++ us) ⊎ (behind (ts ++ us) ≡ behind us)
  any_behind [] us = inr refl
  any_behind (t ∷ ts) us = here (is_token kind t) (any_behind ts us)
    where
      here : (b : Bool) → (behind (ts ++ us) ≡ behind ts ++ us) ⊎ (behind (ts ++ us) ≡ behind us)
          → ((if b then ts ++ us else behind (ts ++ us)) ≡ (if b then ts else behind ts) ++ us) ⊎ ((if b then ts ++ us else behind (ts ++ us)) ≡ behind us)
      here true later = inl refl
      here false later = later

  abbrev behind_in_turn : Bool → Option ℕ → Option ℕ → Option ℕ → Option ℕ
  behind_in_turn true b m c = c
  behind_in_turn false b m c = most_of (sum_of b m) c

  abbrev counts_in_turn : Counts → Counts → Counts
  counts_in_turn (counts f m b) (counts g n c) = counts (both f g) (sum_of m n) (behind_in_turn f b n c)

  abbrev counts_either : Counts → Counts → Counts
  counts_either (counts f m b) (counts g n c) = counts (both f g) (most_of m n) (most_of b c)

  abbrev behind_often : Bool → Option ℕ
  behind_often true = Some 0
  behind_often false = None

  abbrev counts_often : Counts → Counts
  counts_often (counts f m b) = counts f (none_of m) (behind_often f)

  turn_behind : (f : Bool) (b n c : Option ℕ) (ts us : List ParseTree) → (f ≡ true → is_free ts ≡ true) → IsAtMost b (count (behind ts))
      → IsAtMost n (count us) → IsAtMost c (count (behind us)) → IsAtMost (behind_in_turn f b n c) (count (behind (ts ++ us)))
  turn_behind true b n c ts us free h all k = subst (λ (l : List ParseTree). IsAtMost c (count l)) (sym (free_behind ts us (free refl))) k
  turn_behind false b n c ts us free h all k =
      ⊎_elim
      (λ e. subst (λ (l : List ParseTree). IsAtMost (most_of (sum_of b n) c) (count l)) (sym e)
      (most_left (sum_of b n) c (count (behind ts ++ us))
      (subst (λ (x : ℕ). IsAtMost (sum_of b n) x) (sym (count_append (behind ts) us)) (sum_holds b n (count (behind ts)) (count us) h all))))
      (λ e. subst (λ (l : List ParseTree). IsAtMost (most_of (sum_of b n) c) (count l)) (sym e) (most_right (sum_of b n) c (count (behind us)) k))
      (any_behind ts us)

  pub turn_counts : (a d : Counts) (ts us : List ParseTree) → HasCounts a ts → HasCounts d us → HasCounts (counts_in_turn a d) (ts ++ us)
  turn_counts (counts f m b) (counts g n c) ts us h k = record {
    free = λ e. free_append ts us (h.free (both_left f g e)) (k.free (both_right f g e));
    all = subst (λ (x : ℕ). IsAtMost (sum_of m n) x) (sym (count_append ts us)) (sum_holds m n (count ts) (count us) h.all k.all);
    later = turn_behind f b n c ts us h.free h.later k.all k.later;
  }

  pub left_counts : (a d : Counts) (ts : List ParseTree) → HasCounts a ts → HasCounts (counts_either a d) ts
  left_counts (counts f m b) (counts g n c) ts h = record {
    free = λ e. h.free (both_left f g e);
    all = most_left m n (count ts) h.all;
    later = most_left b c (count (behind ts)) h.later;
  }

  pub right_counts : (a d : Counts) (ts : List ParseTree) → HasCounts d ts → HasCounts (counts_either a d) ts
  right_counts (counts f m b) (counts g n c) ts h = record {
    free = λ e. h.free (both_right f g e);
    all = most_right m n (count ts) h.all;
    later = most_right b c (count (behind ts)) h.later;
  }

  pub never_counts : (a : Counts) → HasCounts (counts_often a) []
  never_counts (counts f m b) = record { free = λ e. refl; all = none_zero m; later = nothing_behind f }
    where
      nothing_behind : (f : Bool) → IsAtMost (behind_often f) 0
      nothing_behind true = omega arith
      nothing_behind false = tt

  often_behind : (f : Bool) (ts us : List ParseTree) → (f ≡ true → is_free ts ≡ true) → IsAtMost (behind_often f) (count (behind us))
      → IsAtMost (behind_often f) (count (behind (ts ++ us)))
  often_behind true ts us free k = subst (λ (l : List ParseTree). count l ≤ 0) (sym (free_behind ts us (free refl))) k
  often_behind false ts us free k = tt

  pub often_counts : (a : Counts) (ts us : List ParseTree) → HasCounts a ts → HasCounts (counts_often a) us → HasCounts (counts_often a) (ts ++ us)
  often_counts (counts f m b) ts us h k = record {
    free = λ e. free_append ts us (h.free e) (k.free e);
    all = subst (λ (x : ℕ). IsAtMost (none_of m) x) (sym (count_append ts us)) (none_sum m (count ts) (count us) h.all k.all);
    later = often_behind f ts us h.free k.later;
  }

  abbrev one_if : Bool → ℕ
  one_if true = 1
  one_if false = 0

  abbrev one_tree : ParseTree → Counts
  one_tree t = counts (not (is_token kind t)) (Some (one_if (sort t))) (Some 0)

  pub one_counts : (s t : ParseTree) → is_token kind s ≡ is_token kind t → sort s ≡ sort t → HasCounts (one_tree s) (t ∷ [])
  one_counts s t mark same = record {
    free = λ e. both_of (not (is_token kind t)) true (ap not (sym mark) ∙ e) refl;
    all = subst (λ (b : Bool). count (t ∷ []) ≤ one_if b) (sym same) (alone (sort t));
    later = nothing_behind (is_token kind t);
  }
    where
      alone : (b : Bool) → length {A = ParseTree} (if b then t ∷ [] else []) ≤ one_if b
      alone true = omega arith
      alone false = omega arith

      nothing_behind : (b : Bool) → count (if b then [] else []) ≤ 0
      nothing_behind true = omega arith
      nothing_behind false = omega arith

  abbrev pub count_way : IsOfLabel sort → Way Counts HasCounts
  count_way label = record {
    of_token = λ k. one_tree (leaf k 0);
    of_rule = λ r. one_tree (node r Row.none);
    of_none = counts true (Some 0) (Some 0);
    nothing = counts false None None;
    in_turn = counts_in_turn;
    either = counts_either;
    often = counts_often;
    token_true = λ k at. one_counts (leaf k 0) (leaf k at) refl (label.of_token k at);
    rule_true = λ r row. one_counts (node r Row.none) (node r row) refl (label.of_rule r row);
    none_true = record { free = λ e. refl; all = omega arith; later = omega arith };
    nothing_true = λ ts. record { free = λ e. absurd (cc); all = tt; later = tt };
    turn_true = turn_counts;
    left_true = left_counts;
    right_true = right_counts;
    never_true = never_counts;
    often_true = often_counts;
  }
