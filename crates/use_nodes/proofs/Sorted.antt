-- The productions of the language give each rule what is said of its nodes: a test of the whole table, computed.
use Rattle.std.proofs.Common.{◌≡◌, ◌==◌, ◌&&◌, ◌||◌, ℕ, zero, suc, not, if◌then◌else◌, Bool, true, false, List, [], ◌∷◌, filter, length, Option, Some, None, is_some, slice_get, refl, sym, ap, ◌∙◌, subst, arith, inl, inr, ◌⊎◌, ⊎_elim, eq-eqb}
use Rattle.std.proofs.lemmas.Bool.Decides.{nat_tests}
use Rattle.grammar_core.specs.declared.table.Table.{Table}
use Rattle.grammar_core.specs.Trees.{ParseTree, leaf, node, Row, row_of, trees_of}
use Rattle.grammar_core.specs.Derives.{Outcome, Gives}
use Rattle.use_text.specs.declared.token.TokenKind.{TokenKind}
use Rattle.use_text.specs.declared.token.TokenKind.TheVariants as k
use Rattle.use_syntax.specs.declared.rule.Rule.{Rule}
use Rattle.use_syntax.specs.Language.{token_prods, call_prods, type_prods, expression_prods, statement_prods, command_prods, model_prods, all_prods, bodies, language}
use Rattle.use_syntax.specs.Numbers.{number_of_rule}
use Rattle.use_syntax.proofs.Ranked.{both, both_left, both_right}
use Rattle.use_nodes.specs.declared.parts.Select.{Select}
use Rattle.use_nodes.specs.Nodes.{all_behind, is_rule, is_token, next_to, selects}
use Rattle.use_nodes.specs.Typed.{Fact, there, maybe, each, some_of, either_of, one_more, at_most_one, at_most_one_behind, is_at_most_one, Place, nth, after, first_of, is_there, is_if_there, are_all, is_one_of, is_so, are_so, facts, HasItsSorts}
use Rattle.use_nodes.proofs.Required.{Need, is_met, all_rules, rule_there}
use Rattle.use_nodes.proofs.Required as required
use Rattle.use_nodes.proofs.Sure.{Sure, sure, sure_at, sure_sound, HoldsOf, has_one}
use Rattle.use_nodes.proofs.Accepted.{is_enough, enough_met, selects_token, selects_rule, some_sought, sort_of, sort_of_token, sort_of_rule}
use Rattle.use_nodes.proofs.Known.{known_at, is_known}
use Rattle.use_nodes.proofs.Ways.{IsOfLabel, all_good, AllAreGood, all_way, good_if, Spots, spots, HasSpots, spot_way, first_good, follow_good, Edges, edges, HasEdges, edge_way, Balance, unknown, balance, IsBalance, balance_way, nodes_in, tokens_in, or_left, or_right}
use Rattle.use_nodes.proofs.Counted.{Counts, counts, HasCounts, IsAtMost, count_way}
use Rattle.use_nodes.proofs.Wholeness.{trees_back, rule_of_number}

-- how many productions stand inside each other at most
abbrev deep : ℕ
deep = 9

pub one_of_token : (sorts : List Select) (k at : ℕ) → is_one_of sorts (leaf k 0) ≡ is_one_of sorts (leaf k at)
one_of_token [] k at = refl
one_of_token (x ∷ xs) k at =
    ap (λ (b : Bool). b || is_one_of xs (leaf k 0)) (selects_token x k at) ∙ ap (λ (b : Bool). selects x (leaf k at) || b) (one_of_token xs k at)

pub one_of_rule : (sorts : List Select) (r : ℕ) (row : Row) → is_one_of sorts (node r Row.none) ≡ is_one_of sorts (node r row)
one_of_rule [] r row = refl
one_of_rule (x ∷ xs) r row =
    ap (λ (b : Bool). b || is_one_of xs (node r Row.none)) (selects_rule x r row) ∙ ap (λ (b : Bool). selects x (node r row) || b) (one_of_rule xs r row)

abbrev pub one_of_label : (sorts : List Select) → IsOfLabel (λ t. is_one_of sorts t)
one_of_label sorts = record { of_token = one_of_token sorts; of_rule = one_of_rule sorts }

abbrev token_label : (kind : TokenKind) → IsOfLabel (λ t. is_token kind t)
token_label kind = record { of_token = λ k at. refl; of_rule = λ r row. refl }

-- where it is sought, it is one of these
abbrev sought_good : Select → List Select → ParseTree → Bool
sought_good select sorts t = not (selects select t) || is_one_of sorts t

abbrev sought_label : (select : Select) (sorts : List Select) → IsOfLabel (sought_good select sorts)
sought_label select sorts = record {
  of_token = λ k at. ap (λ (b : Bool). not b || is_one_of sorts (leaf k 0)) (selects_token select k at)
      ∙ ap (λ (b : Bool). not (selects select (leaf k at)) || b) (one_of_token sorts k at);
  of_rule = λ r row. ap (λ (b : Bool). not b || is_one_of sorts (node r Row.none)) (selects_rule select r row)
      ∙ ap (λ (b : Bool). not (selects select (node r row)) || b) (one_of_rule sorts r row);
}

select_label : (select : Select) → IsOfLabel (selects select)
select_label select = record { of_token = selects_token select; of_rule = selects_rule select }

abbrev either_sort : Select → Select → ParseTree → Bool
either_sort a b t = selects a t || selects b t

either_label : (a b : Select) → IsOfLabel (either_sort a b)
either_label a b = record {
  of_token = λ k at. ap (λ (x : Bool). x || selects b (leaf k 0)) (selects_token a k at) ∙ ap (λ (x : Bool). selects a (leaf k at) || x) (selects_token b k at);
  of_rule = λ r row. ap (λ (x : Bool). x || selects b (node r Row.none)) (selects_rule a r row)
      ∙ ap (λ (x : Bool). selects a (node r row) || x) (selects_rule b r row);
}

abbrev good_at : ℕ → Spots → Bool
good_at i (spots n m at) = at i

abbrev follows : Edges → Bool
follows (edges n f l q) = q

abbrev one_at_most : Option ℕ → Bool
one_at_most None = false
one_at_most (Some zero) = true
one_at_most (Some (suc zero)) = true
one_at_most (Some (suc (suc k))) = false

-- at most one in all, and behind the token
abbrev one_in_all : Counts → Bool
one_in_all (counts f m b) = one_at_most m

abbrev one_later : Counts → Bool
one_later (counts f m b) = one_at_most b

abbrev is_one_more : Balance → Bool
is_one_more unknown = false
is_one_more (balance x y) = x == suc y

-- the sort of tree that a fact needs
abbrev need_at : Place → Need
need_at (nth i) = required.nth i
need_at (after kind) = required.after kind
need_at (first_of select) = required.some_of select

abbrev has_of : Sure → Bool
has_of (sure l h f) = h

-- what is known of the production of a rule
module _ (g : Table) where
  abbrev if_there_known : Place → List Select → ℕ → Bool
  if_there_known (nth i) sorts p =
      good_at i (known_at Spots (HasSpots (λ t. is_one_of sorts t)) (spot_way (λ t. is_one_of sorts t) (one_of_label sorts)) g deep p)
  if_there_known (after kind) sorts p =
      follows (known_at Edges (HasEdges (λ t. is_token kind t) (λ t. is_one_of sorts t))
      (edge_way (λ t. is_token kind t) (λ t. is_one_of sorts t) (token_label kind) (one_of_label sorts)) g deep p)
  if_there_known (first_of select) sorts p =
      known_at Bool (AllAreGood (sought_good select sorts)) (all_way (sought_good select sorts) (sought_label select sorts)) g deep p

  abbrev has_known : (ParseTree → Bool) → ℕ → Bool
  has_known sort p = has_of (sure_at sort g deep p)

  abbrev is_known_so : Fact → ℕ → Bool
  is_known_so (there place sorts) p = both (is_enough (need_at place) (sure_at (sort_of (need_at place)) g deep p)) (if_there_known place sorts p)
  is_known_so (maybe place sorts) p = if_there_known place sorts p
  is_known_so (each select sorts) p =
      known_at Bool (AllAreGood (sought_good select sorts)) (all_way (sought_good select sorts) (sought_label select sorts)) g deep p
  is_known_so (some_of select) p = has_known (selects select) p
  is_known_so (either_of a b) p = has_known (either_sort a b) p
  is_known_so one_more p = is_one_more (known_at Balance IsBalance balance_way g deep p)
  is_known_so (at_most_one sorts) p =
      one_in_all (known_at Counts (HasCounts k.End (λ t. is_one_of sorts t)) (count_way k.End (λ t. is_one_of sorts t) (one_of_label sorts)) g deep p)
  is_known_so (at_most_one_behind kind select) p =
      one_later (known_at Counts (HasCounts kind (selects select)) (count_way kind (selects select) (select_label select)) g deep p)

  abbrev are_known_so : List Fact → ℕ → Bool
  are_known_so [] p = true
  are_known_so (fact ∷ more) p = both (is_known_so fact p) (are_known_so more p)

  abbrev rule_known : Rule → Option ℕ → Bool
  rule_known rule None = false
  rule_known rule (Some p) = are_known_so (facts rule) p

  abbrev all_known : List Rule → Bool
  all_known [] = true
  all_known (rule ∷ rules) = both (rule_known rule (slice_get g.rules (number_of_rule rule))) (all_known rules)

all_are_known : all_known language all_rules ≡ true
unfolding token_prods call_prods type_prods expression_prods statement_prods command_prods model_prods all_prods bodies language
all_are_known = refl

-- the same said of the row below a node
abbrev part_in : Place → List ParseTree → Option ParseTree
part_in (nth i) ts = slice_get ts i
part_in (after kind) ts = next_to kind ts
part_in (first_of select) ts = slice_get (filter (selects select) ts) 0

abbrev so_in : Fact → List ParseTree → Bool
so_in (there place sorts) ts = is_there sorts (part_in place ts)
so_in (maybe place sorts) ts = is_if_there sorts (part_in place ts)
so_in (each select sorts) ts = are_all sorts (filter (selects select) ts)
so_in (some_of select) ts = is_some (slice_get (filter (selects select) ts) 0)
so_in (either_of a b) ts = is_some (slice_get (filter (selects a) ts) 0) || is_some (slice_get (filter (selects b) ts) 0)
so_in one_more ts = nodes_in ts == suc (tokens_in ts)
so_in (at_most_one sorts) ts = is_at_most_one (filter (is_one_of sorts) ts)
so_in (at_most_one_behind kind select) ts = is_at_most_one (filter (selects select) (all_behind kind ts))

so_of_node : (fact : Fact) (n : ℕ) (row : Row) → so_in fact (trees_of row) ≡ true → is_so fact (node n row) ≡ true
so_of_node (there (nth i) sorts) n row h = h
so_of_node (there (after kind) sorts) n row h = h
so_of_node (there (first_of select) sorts) n row h = h
so_of_node (maybe (nth i) sorts) n row h = h
so_of_node (maybe (after kind) sorts) n row h = h
so_of_node (maybe (first_of select) sorts) n row h = h
so_of_node (each select sorts) n row h = h
so_of_node (some_of select) n row h = h
so_of_node (either_of a b) n row h = h
so_of_node one_more n row h = h
so_of_node (at_most_one sorts) n row h = h
so_of_node (at_most_one_behind kind select) n row h = h

and_of : (a b : Bool) → a ≡ true → b ≡ true → (a && b) ≡ true
and_of true b h k = k
and_of false b h k = absurd (cc)

module _ (sorts : List Select) where
  if_same : (o : Option ParseTree) → good_if (λ t. is_one_of sorts t) o ≡ true → is_if_there sorts o ≡ true
  if_same None h = refl
  if_same (Some t) h = h

  there_if : (o : Option ParseTree) → is_some o ≡ true → is_if_there sorts o ≡ true → is_there sorts o ≡ true
  there_if None h k = absurd (cc)
  there_if (Some t) h k = k

  first_if : (sort : ParseTree → Bool) (ts : List ParseTree) → first_good sort (λ t. is_one_of sorts t) ts ≡ true → is_if_there sorts (slice_get ts 0) ≡ true
  first_if sort [] h = refl
  first_if sort (t ∷ ts) h = h

  next_good : (kind : TokenKind) (ts : List ParseTree) → follow_good (λ t. is_token kind t) (λ t. is_one_of sorts t) ts ≡ true
      → is_if_there sorts (next_to kind ts) ≡ true
  next_good kind [] h = refl
  next_good kind (t ∷ ts) h =
      here (is_token kind t) (both_left (not (is_token kind t) || good ts) (follow_good (λ u. is_token kind u) (λ u. is_one_of sorts u) ts) h)
      (next_good kind ts (both_right (not (is_token kind t) || good ts) (follow_good (λ u. is_token kind u) (λ u. is_one_of sorts u) ts) h))
    where
      good : List ParseTree → Bool
      good us = first_good (λ u. is_token kind u) (λ u. is_one_of sorts u) us

      here : (b : Bool) → (not b || first_good (λ u. is_token kind u) (λ u. is_one_of sorts u) ts) ≡ true
          → is_if_there sorts (next_to kind ts) ≡ true → is_if_there sorts (if b then slice_get ts 0 else next_to kind ts) ≡ true
      here true e later = first_if (λ u. is_token kind u) ts e
      here false e later = later

  all_sought : (select : Select) (ts : List ParseTree) → all_good (sought_good select sorts) ts ≡ true → are_all sorts (filter (selects select) ts) ≡ true
  all_sought select [] h = refl
  all_sought select (t ∷ ts) h =
      here (selects select t) (both_left (sought_good select sorts t) (all_good (sought_good select sorts) ts) h)
      (all_sought select ts (both_right (sought_good select sorts t) (all_good (sought_good select sorts) ts) h))
    where
      here : (b : Bool) → (not b || is_one_of sorts t) ≡ true → are_all sorts (filter (selects select) ts) ≡ true
          → are_all sorts (if b then t ∷ filter (selects select) ts else filter (selects select) ts) ≡ true
      here true e later = and_of (is_one_of sorts t) (are_all sorts (filter (selects select) ts)) e later
      here false e later = later

  first_of_all : (ts : List ParseTree) → are_all sorts ts ≡ true → is_if_there sorts (slice_get ts 0) ≡ true
  first_of_all [] h = refl
  first_of_all (t ∷ ts) h = here (is_one_of sorts t) h
    where
      here : (b : Bool) → (b && are_all sorts ts) ≡ true → b ≡ true
      here true e = refl
      here false e = absurd (cc)

one_of_two : (a b : Select) (ts : List ParseTree) → has_one (either_sort a b) ts ≡ true
    → (is_some (slice_get (filter (selects a) ts) 0) || is_some (slice_get (filter (selects b) ts) 0)) ≡ true
one_of_two a b ts h =
    ⊎_elim (λ x. or_left (is_some (slice_get (filter (selects a) ts) 0)) (is_some (slice_get (filter (selects b) ts) 0)) (some_sought (selects a) ts x))
    (λ x. or_right (is_some (slice_get (filter (selects a) ts) 0)) (is_some (slice_get (filter (selects b) ts) 0)) (some_sought (selects b) ts x))
    (apart ts h)
  where
    apart : (us : List ParseTree) → has_one (either_sort a b) us ≡ true → (has_one (selects a) us ≡ true) ⊎ (has_one (selects b) us ≡ true)
    apart [] e = absurd (cc)
    apart (u ∷ us) e = here (selects a u) (selects b u) e (apart us)
      where
        here : (x y : Bool) → ((x || y) || has_one (either_sort a b) us) ≡ true
            → (has_one (either_sort a b) us ≡ true → (has_one (selects a) us ≡ true) ⊎ (has_one (selects b) us ≡ true))
            → ((x || has_one (selects a) us) ≡ true) ⊎ ((y || has_one (selects b) us) ≡ true)
        here true y e later = inl refl
        here false true e later = inr refl
        here false false e later = later e

balanced : (b : Balance) (ts : List ParseTree) → IsBalance b ts → is_one_more b ≡ true → (nodes_in ts == suc (tokens_in ts)) ≡ true
balanced unknown ts h e = absurd (cc)
balanced (balance x y) ts h e = let s : x ≡ suc y = same x (suc y) e in
    let n : nodes_in ts ≡ suc (tokens_in ts) = omega (arith, h, s) in eq-eqb (nodes_in ts) (suc (tokens_in ts)) n
  where
    same : (m n : ℕ) → (m == n) ≡ true → m ≡ n
    same m n e = grind (arith, nat_tests)

one_counted : (o : Option ℕ) (ts : List ParseTree) → IsAtMost o (length ts) → one_at_most o ≡ true → is_at_most_one ts ≡ true
one_counted None ts h e = absurd (cc)
one_counted (Some zero) [] h e = refl
one_counted (Some zero) (t ∷ ts) h e = absurd (omega (arith, h))
one_counted (Some (suc zero)) [] h e = refl
one_counted (Some (suc zero)) (t ∷ []) h e = refl
one_counted (Some (suc zero)) (t ∷ u ∷ ts) h e = absurd (omega (arith, h))
one_counted (Some (suc (suc k))) ts h e = absurd (cc)

counted_in_all : (kind : TokenKind) (sort : ParseTree → Bool) (d : Counts) (ts : List ParseTree) → HasCounts kind sort d ts → one_in_all d ≡ true
    → is_at_most_one (filter sort ts) ≡ true
counted_in_all kind sort (counts f m b) ts h e = one_counted m (filter sort ts) h.all e

counted_later : (kind : TokenKind) (sort : ParseTree → Bool) (d : Counts) (ts : List ParseTree) → HasCounts kind sort d ts → one_later d ≡ true
    → is_at_most_one (filter sort (all_behind kind ts)) ≡ true
counted_later kind sort (counts f m b) ts h e = one_counted b (filter sort (all_behind kind ts)) h.later e

spot_good : (sorts : List Select) (i : ℕ) (d : Spots) (ts : List ParseTree) → HasSpots (λ t. is_one_of sorts t) d ts
    → good_at i d ≡ true → good_if (λ t. is_one_of sorts t) (slice_get ts i) ≡ true
spot_good sorts i (spots n m at) ts h e = h.fits i e

edge_good : (sorts : List Select) (kind : TokenKind) (d : Edges) (ts : List ParseTree)
    → HasEdges (λ t. is_token kind t) (λ t. is_one_of sorts t) d ts → follows d ≡ true → follow_good (λ t. is_token kind t) (λ t. is_one_of sorts t) ts ≡ true
edge_good sorts kind (edges n f l p) ts h e = h.follows e

one_there : (sort : ParseTree → Bool) (d : Sure) (ts : List ParseTree) → HoldsOf sort d ts → has_of d ≡ true → has_one sort ts ≡ true
one_there sort (sure l h f) ts holds e = holds.one e

met_there : (place : Place) (ts : List ParseTree) → is_met (need_at place) ts ≡ true → is_some (part_in place ts) ≡ true
met_there (nth i) ts h = h
met_there (after kind) ts h = h
met_there (first_of select) ts h = h

module _ (g : Table) (ks : List ℕ) (p level at to : ℕ) (trees : List ParseTree) (of : Gives g ks p level at (Outcome.ends to trees)) where
  has_sound : (sort : ParseTree → Bool) → IsOfLabel sort → has_known g sort p ≡ true → has_one sort trees ≡ true
  has_sound sort label e =
      one_there sort (sure_at sort g deep p) trees (sure_sound sort g label.of_token label.of_rule ks deep p level at (Outcome.ends to trees) of) e

  if_there_sound : (place : Place) (sorts : List Select) → if_there_known g place sorts p ≡ true → is_if_there sorts (part_in place trees) ≡ true
  if_there_sound (nth i) sorts e =
      let good : ParseTree → Bool = λ t. is_one_of sorts t in
      let known = is_known Spots (HasSpots good) (spot_way good (one_of_label sorts)) g ks deep p level at to trees of in
      if_same sorts (slice_get trees i) (spot_good sorts i (known_at Spots (HasSpots good) (spot_way good (one_of_label sorts)) g deep p) trees known e)
  if_there_sound (after kind) sorts e =
      let sort : ParseTree → Bool = λ t. is_token kind t in
      let good : ParseTree → Bool = λ t. is_one_of sorts t in
      let known = is_known Edges (HasEdges sort good) (edge_way sort good (token_label kind) (one_of_label sorts)) g ks deep p level at to trees of in
      next_good sorts kind trees
      (edge_good sorts kind (known_at Edges (HasEdges sort good) (edge_way sort good (token_label kind) (one_of_label sorts)) g deep p) trees known e)
  if_there_sound (first_of select) sorts e =
      let good : ParseTree → Bool = sought_good select sorts in
      let known = is_known Bool (AllAreGood good) (all_way good (sought_label select sorts)) g ks deep p level at to trees of in
      first_of_all sorts (filter (selects select) trees) (all_sought sorts select trees (known e))

  fact_sound : (fact : Fact) → is_known_so g fact p ≡ true → so_in fact trees ≡ true
  fact_sound (there place sorts) e =
      let enough = both_left (is_enough (need_at place) (sure_at (sort_of (need_at place)) g deep p)) (if_there_known g place sorts p) e in
      let holds = sure_sound (sort_of (need_at place)) g (sort_of_token (need_at place))
      (sort_of_rule (need_at place)) ks deep p level at (Outcome.ends to trees) of in
      let met = enough_met (need_at place) (sure_at (sort_of (need_at place)) g deep p) trees holds enough in
      there_if sorts (part_in place trees) (met_there place trees met)
      (if_there_sound place sorts (both_right (is_enough (need_at place) (sure_at (sort_of (need_at place)) g deep p)) (if_there_known g place sorts p) e))
  fact_sound (maybe place sorts) e = if_there_sound place sorts e
  fact_sound (each select sorts) e =
      let good : ParseTree → Bool = sought_good select sorts in
      let known = is_known Bool (AllAreGood good) (all_way good (sought_label select sorts)) g ks deep p level at to trees of in
      all_sought sorts select trees (known e)
  fact_sound (some_of select) e = some_sought (selects select) trees (has_sound (selects select) (select_label select) e)
  fact_sound (either_of a b) e = one_of_two a b trees (has_sound (either_sort a b) (either_label a b) e)
  fact_sound one_more e =
      balanced (known_at Balance IsBalance balance_way g deep p) trees (is_known Balance IsBalance balance_way g ks deep p level at to trees of) e
  fact_sound (at_most_one sorts) e =
      let sort : ParseTree → Bool = λ t. is_one_of sorts t in
      let way = count_way k.End sort (one_of_label sorts) in
      counted_in_all k.End sort (known_at Counts (HasCounts k.End sort) way g deep p) trees
      (is_known Counts (HasCounts k.End sort) way g ks deep p level at to trees of) e
  fact_sound (at_most_one_behind kind select) e =
      let way = count_way kind (selects select) (select_label select) in
      counted_later kind (selects select) (known_at Counts (HasCounts kind (selects select)) way g deep p) trees
      (is_known Counts (HasCounts kind (selects select)) way g ks deep p level at to trees of) e

  facts_sound : (more : List Fact) (n : ℕ) → are_known_so g more p ≡ true → are_so more (node n (row_of trees)) ≡ true
  facts_sound [] n e = refl
  facts_sound (fact ∷ more) n e =
      let said = fact_sound fact (both_left (is_known_so g fact p) (are_known_so g more p) e) in
      let below = subst (λ (ts : List ParseTree). so_in fact ts ≡ true) (sym (trees_back trees)) said in
      and_of (is_so fact (node n (row_of trees))) (are_so more (node n (row_of trees)))
      (so_of_node fact n (row_of trees) below) (facts_sound more n (both_right (is_known_so g fact p) (are_known_so g more p) e))

known_of : (g : Table) (rules : List Rule) → all_known g rules ≡ true → (i : ℕ) (rule : Rule)
    → slice_get rules i ≡ Some rule → rule_known g rule (slice_get g.rules (number_of_rule rule)) ≡ true
known_of g [] e i rule at = absurd (cc)
known_of g (x ∷ xs) e zero rule at = let same : x ≡ rule = cc in
    subst (λ (y : Rule). rule_known g y (slice_get g.rules (number_of_rule y)) ≡ true) same
    (both_left (rule_known g x (slice_get g.rules (number_of_rule x))) (all_known g xs) e)
known_of g (x ∷ xs) e (suc i) rule at = known_of g xs (both_right (rule_known g x (slice_get g.rules (number_of_rule x))) (all_known g xs) e) i rule at

facts_of_rule : (ks : List ℕ) (n p level at to : ℕ) (trees : List ParseTree) → slice_get language.rules n ≡ Some p
    → Gives language ks p level at (Outcome.ends to trees) → (rule : Rule) → is_rule rule (node n (row_of trees)) ≡ true
    → are_so (facts rule) (node n (row_of trees)) ≡ true
facts_of_rule ks n p level at to trees e of rule is =
    let same : n ≡ number_of_rule rule = grind (arith, nat_tests) in
    let there : slice_get language.rules (number_of_rule rule) ≡ Some p = subst (λ (m : ℕ). slice_get language.rules m ≡ Some p) same e in
    let known = subst (λ (o : Option ℕ). rule_known language rule o ≡ true) there
    (known_of language all_rules all_are_known (number_of_rule rule) rule (rule_there rule)) in
    facts_sound language ks p level at to trees of (facts rule) n known

-- what a rule's production gives, below a node of the rule, is as the facts say
pub node_has_sorts : (ks : List ℕ) (n p level at to : ℕ) (trees : List ParseTree)
    → slice_get language.rules n ≡ Some p → Gives language ks p level at (Outcome.ends to trees) → HasItsSorts (node n (row_of trees))
node_has_sorts ks n p level at to trees e of =
    let its = rule_of_number n p e in
    record { rule = its.0; is = its.1; facts = facts_of_rule ks n p level at to trees e of }
