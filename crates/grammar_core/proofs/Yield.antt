-- The leaves of what is derived are the tokens, in order, and each place is within the list.
use Rattle.std.proofs.Common.{◌≡◌, ℕ, ◌+◌, ◌≤◌, ◌<◌, true, List, [], ◌∷◌, ◌++◌, length, drop, Option, Some, None, Result, Ok, Err, IfErr, slice_get, zero, suc, refl, sym, ap, ◌∙◌, arith, append_assoc, append-nil}
use Rattle.std.proofs.lemmas.Bool.Decides.{nat_tests}
use Rattle.std.proofs.lemmas.Option.{slice_get_within}
use Rattle.std.proofs.Math.ListN.{drop_of_length-le}
use Rattle.grammar_core.specs.declared.table.Table.{Table}
use Rattle.grammar_core.specs.declared.table.Prod.{Prod}
use Rattle.grammar_core.specs.declared.table.Prod.TheVariants.{Call}
use Rattle.grammar_core.specs.declared.node.Node.{Node}
use Rattle.grammar_core.specs.declared.fault.ParseFault.{ParseFault}
use Rattle.grammar_core.specs.declared.fault.ParseFault.TheVariants as fault
use Rattle.grammar_core.specs.Parses.{IsFaultOf, IsWithin}
use Rattle.grammar_core.specs.Trees.{ParseTree, leaf, node, row_of, row_leaves, leaves, numbered}
use Rattle.grammar_core.specs.Derives.{Outcome, is_kind, before, below_rule, Stops, Gives, GivesProd, GivesAll, GivesTimes, Derives, Stuck}

abbrev all_leaves : List ParseTree → List (ℕ × ℕ)
all_leaves [] = []
all_leaves (t ∷ ts) = leaves t ++ all_leaves ts

all_leaves-append : (ts us : List ParseTree) → all_leaves (ts ++ us) ≡ all_leaves ts ++ all_leaves us
all_leaves-append [] us = refl
all_leaves-append (t ∷ ts) us = ap (λ (l : List (ℕ × ℕ)). leaves t ++ l) (all_leaves-append ts us)
    ∙ sym (append_assoc (leaves t) (all_leaves ts) (all_leaves us))

row_leaves-row_of : (ts : List ParseTree) → row_leaves (row_of ts) ≡ all_leaves ts
row_leaves-row_of [] = refl
row_leaves-row_of (leaf k at ∷ ts) = ap (λ (l : List (ℕ × ℕ)). (k, at) ∷ l) (row_leaves-row_of ts)
row_leaves-row_of (node r row ∷ ts) = ap (λ (l : List (ℕ × ℕ)). row_leaves row ++ l) (row_leaves-row_of ts)

-- the numbered list from a place on
abbrev rest : List ℕ → ℕ → List (ℕ × ℕ)
rest ks at = drop at (numbered 0 ks)

kind_is : (o : Option ℕ) (k : ℕ) → is_kind o k ≡ true → o ≡ Some k
kind_is None k e = (cc)
kind_is (Some j) k e = let same : j ≡ k = grind (arith, nat_tests) in ap (λ (x : ℕ). Some x) same

rest_at : (i : ℕ) (ks : List ℕ) (at k : ℕ) → slice_get ks at ≡ Some k → drop at (numbered i ks) ≡ (k, i + at) ∷ drop (suc at) (numbered i ks)
rest_at i [] at k e = (cc)
rest_at i (x ∷ xs) zero k e = let same : x ≡ k = cc in let z : i ≡ i + 0 = omega arith in ap (λ (y : ℕ). (y, i) ∷ numbered (suc i) xs) same
    ∙ ap (λ (j : ℕ). (k, j) ∷ numbered (suc i) xs) z
rest_at i (x ∷ xs) (suc at) k e = let z : suc i + at ≡ i + suc at = omega arith in rest_at (suc i) xs at k e ∙ ap (λ (j : ℕ). (k, j)
    ∷ drop (suc at) (numbered (suc i) xs)) z

length-numbered : (i : ℕ) (ks : List ℕ) → length (numbered i ks) ≡ length ks
length-numbered i [] = refl
length-numbered i (k ∷ ks) = ap suc (length-numbered (suc i) ks)

-- the leaves lie between two places
abbrev Spans : List ℕ → ℕ → Outcome → Type 0
Spans ks at (Outcome.ends to trees) = rest ks at ≡ all_leaves trees ++ rest ks to
Spans ks at (Outcome.stuck x) = Unit {0}
Spans ks at (Outcome.deep x) = Unit {0}

spans_then : (ks : List ℕ) (at to : ℕ) (trees : List ParseTree) (a : Outcome) → Spans ks at (Outcome.ends to trees) → Spans ks to a
    → Spans ks at (before trees a)
spans_then ks at to trees (Outcome.ends x more) h k = h ∙ ap (λ (l : List (ℕ × ℕ)). all_leaves trees ++ l) k
    ∙ sym (append_assoc (all_leaves trees) (all_leaves more) (rest ks x)) ∙ ap (λ (l : List (ℕ × ℕ)). l ++ rest ks x) (sym (all_leaves-append trees more))
spans_then ks at to trees (Outcome.stuck x) h k = tt
spans_then ks at to trees (Outcome.deep x) h k = tt

spans_stop : (ks : List ℕ) (at : ℕ) (a : Outcome) → Stops a → Spans ks at a
spans_stop ks at (Outcome.ends to trees) s = absurd s
spans_stop ks at (Outcome.stuck x) s = tt
spans_stop ks at (Outcome.deep x) s = tt

spans_below : (ks : List ℕ) (at r : ℕ) (a : Outcome) → Spans ks at a → Spans ks at (below_rule r a)
spans_below ks at r (Outcome.ends to trees) h = h ∙ ap (λ (l : List (ℕ × ℕ)). l ++ rest ks to) (sym (append-nil (row_leaves (row_of trees))
    ∙ row_leaves-row_of trees))
spans_below ks at r (Outcome.stuck x) h = tt
spans_below ks at r (Outcome.deep x) h = tt

zero_at : (at : ℕ) → 0 + at ≡ at
zero_at at = omega arith

module _ (g : Table) (ks : List ℕ) where
  mutual
    spans : (p level at : ℕ) (a : Outcome) → Gives g ks p level at a → Spans ks at a
    spans _ _ _ _ (Gives.production p level at x a e of) = spans_prod x level at a of

    spans_prod : (x : Prod) (level at : ℕ) (a : Outcome) → GivesProd g ks x level at a → Spans ks at a
    spans_prod _ _ _ _ (GivesProd.token k level at e) = let z : suc at ≡ at + 1 = omega arith in rest_at 0 ks at k (kind_is (slice_get ks at) k e)
        ∙ ap (λ (j : ℕ). (k, j) ∷ rest ks (suc at)) (zero_at at) ∙ ap (λ (j : ℕ). (k, at) ∷ rest ks j) z
    spans_prod _ _ _ _ (GivesProd.no_token k level at e) = tt
    spans_prod _ _ _ _ (GivesProd.rule r rule level inner at a e f of) = spans_below ks at r a (spans rule.to inner at a of)
    spans_prod _ _ _ _ (GivesProd.too_deep r rule level at e f) = tt
    spans_prod _ _ _ _ (GivesProd.parts ps level at a all) = spans_all ps level at a all
    spans_prod _ _ _ _ (GivesProd.branch bs other q level at a e of) = spans q level at a of
    spans_prod _ _ _ _ (GivesProd.no_branch bs other level at e) = tt
    spans_prod _ _ _ _ (GivesProd.times firsts q level at a all) = spans_times firsts q level at a all

    spans_all : (ps : List ℕ) (level at : ℕ) (a : Outcome) → GivesAll g ks ps level at a → Spans ks at a
    spans_all _ _ _ _ (GivesAll.all_done level at) = refl
    spans_all _ _ _ _ (GivesAll.then p ps level at to trees a of all) = spans_then ks at to trees a (spans p level at (Outcome.ends to trees) of)
        (spans_all ps level to a all)
    spans_all _ _ _ _ (GivesAll.stop p ps level at a of s) = spans_stop ks at a s

    spans_times : (firsts : List ℕ) (q level at : ℕ) (a : Outcome) → GivesTimes g ks firsts q level at a → Spans ks at a
    spans_times _ _ _ _ _ (GivesTimes.no_more firsts q level at e) = refl
    spans_times _ _ _ _ _ (GivesTimes.once_more firsts q level at to trees a e of all) = spans_then ks at to trees a (spans q level at
        (Outcome.ends to trees) of) (spans_times firsts q level to a all)
    spans_times _ _ _ _ _ (GivesTimes.stop_in firsts q level at a e of s) = spans_stop ks at a s

  -- the leaves of the tree of a whole list are its tokens
  pub tree_leaves : (r : ℕ) (tree : ParseTree) → Derives g ks r tree → leaves tree ≡ numbered 0 ks
  tree_leaves r tree of =
      let s : numbered 0 ks ≡ (leaves tree ++ []) ++ rest ks (length ks) = spans_prod (Call r) 0 0 (Outcome.ends (length ks) (tree ∷ [])) of in
      let none : rest ks (length ks) ≡ [] = drop_of_length-le (numbered 0 ks) (omega (arith, length-numbered 0 ks)) in
      sym (s ∙ ap (λ (l : List (ℕ × ℕ)). (leaves tree ++ []) ++ l) none ∙ append-nil (leaves tree ++ []) ∙ append-nil (leaves tree))

-- each place is within the list
abbrev pub IsInside : ℕ → Outcome → Type 0
IsInside n (Outcome.ends to trees) = to ≤ n
IsInside n (Outcome.stuck x) = x ≤ n
IsInside n (Outcome.deep x) = x ≤ n

inside_before : (n : ℕ) (trees : List ParseTree) (a : Outcome) → IsInside n a → IsInside n (before trees a)
inside_before n trees (Outcome.ends to more) h = h
inside_before n trees (Outcome.stuck x) h = h
inside_before n trees (Outcome.deep x) h = h

inside_below : (n r : ℕ) (a : Outcome) → IsInside n a → IsInside n (below_rule r a)
inside_below n r (Outcome.ends to trees) h = h
inside_below n r (Outcome.stuck x) h = h
inside_below n r (Outcome.deep x) h = h

module _ (g : Table) (ks : List ℕ) where
  mutual
    inside : (p level at : ℕ) (a : Outcome) → Gives g ks p level at a → at ≤ length ks → IsInside (length ks) a
    inside _ _ _ _ (Gives.production p level at x a e of) h = inside_prod x level at a of h

    inside_prod : (x : Prod) (level at : ℕ) (a : Outcome) → GivesProd g ks x level at a → at ≤ length ks → IsInside (length ks) a
    inside_prod _ _ _ _ (GivesProd.token k level at e) h = let l : at < length ks = slice_get_within ks at k (kind_is (slice_get ks at) k e) in omega (arith, l)
    inside_prod _ _ _ _ (GivesProd.no_token k level at e) h = h
    inside_prod _ _ _ _ (GivesProd.rule r rule level inner at a e f of) h = inside_below (length ks) r a (inside rule.to inner at a of h)
    inside_prod _ _ _ _ (GivesProd.too_deep r rule level at e f) h = h
    inside_prod _ _ _ _ (GivesProd.parts ps level at a all) h = inside_all ps level at a all h
    inside_prod _ _ _ _ (GivesProd.branch bs other q level at a e of) h = inside q level at a of h
    inside_prod _ _ _ _ (GivesProd.no_branch bs other level at e) h = h
    inside_prod _ _ _ _ (GivesProd.times firsts q level at a all) h = inside_times firsts q level at a all h

    inside_all : (ps : List ℕ) (level at : ℕ) (a : Outcome) → GivesAll g ks ps level at a → at ≤ length ks → IsInside (length ks) a
    inside_all _ _ _ _ (GivesAll.all_done level at) h = h
    inside_all _ _ _ _ (GivesAll.then p ps level at to trees a of all) h = inside_before (length ks) trees a (inside_all ps level to a all (inside p level at
        (Outcome.ends to trees) of h))
    inside_all _ _ _ _ (GivesAll.stop p ps level at a of s) h = inside p level at a of h

    inside_times : (firsts : List ℕ) (q level at : ℕ) (a : Outcome) → GivesTimes g ks firsts q level at a → at ≤ length ks → IsInside (length ks) a
    inside_times _ _ _ _ _ (GivesTimes.no_more firsts q level at e) h = h
    inside_times _ _ _ _ _ (GivesTimes.once_more firsts q level at to trees a e of all) h = inside_before (length ks) trees a
        (inside_times firsts q level to a all (inside q level at (Outcome.ends to trees) of h))
    inside_times _ _ _ _ _ (GivesTimes.stop_in firsts q level at a e of s) h = inside q level at a of h

  stuck_within : (r at : ℕ) → Stuck g ks r at → at ≤ length ks
  stuck_within r _ (Stuck.inside at of) = inside_prod (Call r) 0 0 (Outcome.stuck at) of (omega arith)
  stuck_within r _ (Stuck.behind at trees of front) = inside_prod (Call r) 0 0 (Outcome.ends at trees) of (omega arith)

  pub fault_within : (r n : ℕ) (e : ParseFault) → n ≡ length ks → IsFaultOf g ks r e → IsWithin n e
  fault_within r n fault.Memory same f = tt
  fault_within r n (fault.Stuck at) same f = let h : at ≤ length ks = stuck_within r at f in omega (arith, h, same)
  fault_within r n (fault.Deep at) same f = let h : at ≤ length ks = inside_prod (Call r) 0 0 (Outcome.deep at) f (omega arith) in omega (arith, h, same)

  pub err_within : (r n : ℕ) (res : Result (List Node) ParseFault) → n ≡ length ks → IfErr res (IsFaultOf g ks r) → IfErr res (IsWithin n)
  err_within r n (Ok nodes) same f = tt
  err_within r n (Err e) same f = fault_within r n e same f
