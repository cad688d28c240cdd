-- A production is plain where no part of it, however deep, is the token `End`. Over kinds with one `End`, which is the last, a plain
-- production's outcome stands no further than at it; and what derives plain productions and then `End` ends behind it.
use Rattle.std.proofs.Common.{◌≡◌, ◌≤◌, ◌<◌, ℕ, zero, suc, ◌+◌, Bool, true, false, List, [], ◌∷◌, length, Option, Some, None, slice_get, refl, sym, ap, ◌∙◌, subst, arith, ⊎_elim}
use Rattle.std.proofs.lemmas.Bool.{cases_lt}
use Rattle.std.proofs.lemmas.Bool.Decides.{nat_tests}
use Rattle.std.proofs.lemmas.Option.{slice_get_within}
use Rattle.grammar_core.specs.declared.table.Table.{Table}
use Rattle.grammar_core.specs.declared.table.Rule.{Rule}
use Rattle.grammar_core.specs.declared.table.Prod.{Prod}
use Rattle.grammar_core.specs.declared.table.Prod.TheVariants.{Tok, Call, Seq, Case, Star}
use Rattle.grammar_core.specs.Tables.{choices, rule_at}
use Rattle.grammar_core.specs.Trees.{ParseTree}
use Rattle.grammar_core.specs.Derives.{Outcome, is_kind, before, below_rule, Stops, Stuck, Deep, Gives, GivesProd, GivesAll, GivesTimes}
use Rattle.grammar_core.proofs.Fits.{branch_in, rule_at-to}
use Rattle.grammar_core.proofs.Yield.{IsInside}
use Rattle.use_syntax.proofs.Ranked.{both, both_left, both_right, every, every_in}
use Rattle.use_syntax.proofs.Ended.{is_other, is_nil, EndsAt}

-- a test of a rule's production, if there is one
abbrev on_rule : (ℕ → Bool) → Option ℕ → Bool
on_rule test None = true
on_rule test (Some p) = test p

kind_is : (o : Option ℕ) (k : ℕ) → is_kind o k ≡ true → o ≡ Some k
kind_is None k e = (cc)
kind_is (Some j) k e = let same : j ≡ k = grind (arith, nat_tests) in ap (λ (x : ℕ). Some x) same

inside_before : (n : ℕ) (trees : List ParseTree) (a : Outcome) → IsInside n a → IsInside n (before trees a)
inside_before n trees (Outcome.ends to more) h = h
inside_before n trees (Outcome.stuck x) h = h
inside_before n trees (Outcome.deep x) h = h

inside_below : (n r : ℕ) (a : Outcome) → IsInside n a → IsInside n (below_rule r a)
inside_below n r (Outcome.ends to trees) h = h
inside_below n r (Outcome.stuck x) h = h
inside_below n r (Outcome.deep x) h = h

-- it ends behind the last token, or stands no further than at it
abbrev pub IsEnding : ℕ → Outcome → Type 0
IsEnding last (Outcome.ends to trees) = to ≡ last + 1
IsEnding last (Outcome.stuck x) = x ≤ last
IsEnding last (Outcome.deep x) = x ≤ last

ending_before : (last : ℕ) (trees : List ParseTree) (a : Outcome) → IsEnding last a → IsEnding last (before trees a)
ending_before last trees (Outcome.ends to more) h = h
ending_before last trees (Outcome.stuck x) h = h
ending_before last trees (Outcome.deep x) h = h

ending_below : (last r : ℕ) (a : Outcome) → IsEnding last a → IsEnding last (below_rule r a)
ending_below last r (Outcome.ends to trees) h = h
ending_below last r (Outcome.stuck x) h = h
ending_below last r (Outcome.deep x) h = h

ending_stop : (last : ℕ) (a : Outcome) → Stops a → IsInside last a → IsEnding last a
ending_stop last (Outcome.ends to trees) s h = absurd s
ending_stop last (Outcome.stuck x) s h = h
ending_stop last (Outcome.deep x) s h = h

module _ (g : Table) (plain : ℕ → Bool) where
  -- the parts of the production are plain, and it is not `End`
  abbrev pub has_plain : Prod → Bool
  has_plain (Tok k) = is_other k
  has_plain (Call r) = on_rule plain (slice_get g.rules r)
  has_plain (Seq ps) = every plain ps
  has_plain (Case bs other) = every plain (choices bs other)
  has_plain (Star firsts q) = plain q

  -- the plain productions from i on have plain parts
  abbrev pub are_plain : ℕ → List Prod → Bool
  are_plain i [] = true
  are_plain i (x ∷ xs) = both (elim (plain i) [ true ↦ has_plain x | false ↦ true ]) (are_plain (suc i) xs)

  -- these are plain, and then the first production
  abbrev pub are_closed : List ℕ → Bool
  are_closed [] = false
  are_closed (zero ∷ ps) = is_nil ps
  are_closed (suc p ∷ ps) = both (plain (suc p)) (are_closed ps)

  -- the production of a rule is a row of such
  abbrev pub closes : Option Prod → Bool
  closes None = false
  closes (Some (Tok k)) = false
  closes (Some (Call r)) = false
  closes (Some (Seq ps)) = are_closed ps
  closes (Some (Case bs other)) = false
  closes (Some (Star firsts q)) = false

  abbrev pub rule_closes : Option ℕ → Bool
  rule_closes None = false
  rule_closes (Some p) = closes (slice_get g.prods p)

  here : (i : ℕ) (x : Prod) → (elim (plain i) [ true ↦ has_plain x | false ↦ true ]) ≡ true → plain i ≡ true → has_plain x ≡ true
  here i x e is = by_test (plain i) e is
    where
      by_test : (t : Bool) → (elim t [ true ↦ has_plain x | false ↦ true ]) ≡ true → t ≡ true → has_plain x ≡ true
      by_test true e is = e
      by_test false e is = (cc)

  plain_from : (i : ℕ) (xs : List Prod) → are_plain i xs ≡ true → (k : ℕ) (x : Prod) → slice_get xs k ≡ Some x → plain (k + i) ≡ true → has_plain x ≡ true
  plain_from i [] e k x at is = (cc)
  plain_from i (y ∷ ys) e zero x at is = let s : y ≡ x = cc in let z : 0 + i ≡ i = omega arith
      in subst (λ (p : Prod). has_plain p ≡ true) s (here i y (both_left _ _ e) (subst (λ (n : ℕ). plain n ≡ true) z is))
  plain_from i (y ∷ ys) e (suc k) x at is = let z : suc k + i ≡ k + suc i = omega arith in plain_from (suc i) ys (both_right _ _ e) k x at (subst (λ
      (n : ℕ). plain n ≡ true) z is)

  module _ (all : are_plain 0 g.prods ≡ true) (ks : List ℕ) (last : ℕ) (end : EndsAt ks last) where
    plain_at : (p : ℕ) (x : Prod) → slice_get g.prods p ≡ Some x → plain p ≡ true → has_plain x ≡ true
    plain_at p x at is = let z : p ≡ p + 0 = omega arith in plain_from 0 g.prods all p x at (subst (λ (n : ℕ). plain n ≡ true) z is)

    rule_plain : (r : ℕ) (rule : Rule) → rule_at g r ≡ Some rule → has_plain (Call r) ≡ true → plain rule.to ≡ true
    rule_plain r rule e is = subst (λ (o : Option ℕ). on_rule plain o ≡ true) (rule_at-to g r rule e) is

    -- a token other than `End` stands before it
    token_inside : (k at : ℕ) → slice_get ks at ≡ Some k → is_other k ≡ true → at + 1 ≤ last
    token_inside zero at e is = (cc)
    token_inside (suc k) at e is =
        let within : at < length ks = slice_get_within ks at (suc k) e in
        let long = end.long in
        ⊎_elim (λ (lt : at < last). omega (arith, lt)) (λ (le : last ≤ at). let same : at ≡ last = omega (arith, within, long, le) in
        let there : slice_get ks at ≡ Some 0 = subst (λ (n : ℕ). slice_get ks n ≡ Some 0) (sym same) end.there in absurd (cc)) (cases_lt at last)

    mutual
      inside : (p level at : ℕ) (a : Outcome) → Gives g ks p level at a → plain p ≡ true → at ≤ last → IsInside last a
      inside _ _ _ _ (Gives.production p level at x a e of) is h = inside_prod x level at a of (plain_at p x e is) h

      inside_prod : (x : Prod) (level at : ℕ) (a : Outcome) → GivesProd g ks x level at a → has_plain x ≡ true → at ≤ last → IsInside last a
      inside_prod _ _ _ _ (GivesProd.token k level at e) is h = token_inside k at (kind_is (slice_get ks at) k e) is
      inside_prod _ _ _ _ (GivesProd.no_token k level at e) is h = h
      inside_prod _ _ _ _ (GivesProd.rule r rule level inner at a e f of) is h = inside_below last r a (inside rule.to inner at a of (rule_plain r rule e is) h)
      inside_prod _ _ _ _ (GivesProd.too_deep r rule level at e f) is h = h
      inside_prod _ _ _ _ (GivesProd.parts ps level at a all) is h = inside_all ps level at a all is h
      inside_prod _ _ _ _ (GivesProd.branch bs other q level at a e of) is h = inside q level at a of (every_in plain (choices bs other) is q
          (branch_in ks at q bs other e)) h
      inside_prod _ _ _ _ (GivesProd.no_branch bs other level at e) is h = h
      inside_prod _ _ _ _ (GivesProd.times firsts q level at a all) is h = inside_times firsts q level at a all is h

      inside_all : (ps : List ℕ) (level at : ℕ) (a : Outcome) → GivesAll g ks ps level at a → every plain ps ≡ true → at ≤ last → IsInside last a
      inside_all _ _ _ _ (GivesAll.all_done level at) is h = h
      inside_all _ _ _ _ (GivesAll.then p ps level at to trees a of all) is h = inside_before last trees a (inside_all ps level to a all (both_right (plain p)
          (every plain ps) is) (inside p level at (Outcome.ends to trees) of (both_left (plain p) (every plain ps) is) h))
      inside_all _ _ _ _ (GivesAll.stop p ps level at a of s) is h = inside p level at a of (both_left (plain p) (every plain ps) is) h

      inside_times : (firsts : List ℕ) (q level at : ℕ) (a : Outcome) → GivesTimes g ks firsts q level at a → plain q ≡ true → at ≤ last → IsInside last a
      inside_times _ _ _ _ _ (GivesTimes.no_more firsts q level at e) is h = h
      inside_times _ _ _ _ _ (GivesTimes.once_more firsts q level at to trees a e of all) is h = inside_before last trees a
          (inside_times firsts q level to a all is (inside q level at (Outcome.ends to trees) of is h))
      inside_times _ _ _ _ _ (GivesTimes.stop_in firsts q level at a e of s) is h = inside q level at a of is h

    module _ (first : slice_get g.prods 0 ≡ Some (Tok 0)) where
      end_prod : (k level at : ℕ) (a : Outcome) → GivesProd g ks (Tok k) level at a → k ≡ 0 → at ≤ last → IsEnding last a
      end_prod _ _ _ _ (GivesProd.token k level at e) z h = let same : at ≡ last = end.only at (subst (λ (n : ℕ). slice_get ks at ≡ Some n) z (kind_is
          (slice_get ks at) k e)) in ap (λ (n : ℕ). n + 1) same
      end_prod _ _ _ _ (GivesProd.no_token k level at e) z h = h

      end_gives : (p level at : ℕ) (a : Outcome) → Gives g ks p level at a → p ≡ 0 → at ≤ last → IsEnding last a
      end_gives _ _ _ _ (Gives.production p level at x a e of) z h =
          let there : slice_get g.prods p ≡ Some (Tok 0) = subst (λ (n : ℕ). slice_get g.prods n ≡ Some (Tok 0)) (sym z) first in
          let same : x ≡ Tok 0 = cc in
          end_prod 0 level at a (subst (λ (y : Prod). GivesProd g ks y level at a) same of) refl h

      nothing_behind : (ps : List ℕ) (level to : ℕ) (a : Outcome) → GivesAll g ks ps level to a → is_nil ps ≡ true → to ≡ last + 1 → IsEnding last a
      nothing_behind _ _ _ _ (GivesAll.all_done level at) is h = h
      nothing_behind _ _ _ _ (GivesAll.then p ps level at to trees a of all) is h = (cc)
      nothing_behind _ _ _ _ (GivesAll.stop p ps level at a of s) is h = (cc)

      then_closing : (p : ℕ) (ps : List ℕ) (level at to : ℕ) (trees : List ParseTree) (a : Outcome) → Gives g ks p level at (Outcome.ends to trees)
          → GivesAll g ks ps level to a → are_closed (p ∷ ps) ≡ true → at ≤ last → (are_closed ps ≡ true → to ≤ last → IsEnding last a)
          → IsEnding last (before trees a)
      then_closing zero ps level at to trees a of all is h later = ending_before last trees a (nothing_behind ps level to a all is (end_gives 0 level at
          (Outcome.ends to trees) of refl h))
      then_closing (suc p) ps level at to trees a of all is h later = ending_before last trees a (later (both_right (plain (suc p)) (are_closed ps) is) (inside
          (suc p) level at (Outcome.ends to trees) of (both_left (plain (suc p)) (are_closed ps) is) h))

      stop_closing : (p : ℕ) (ps : List ℕ) (level at : ℕ) (a : Outcome) → Gives g ks p level at a → Stops a → are_closed (p ∷ ps) ≡ true → at ≤ last
          → IsEnding last a
      stop_closing zero ps level at a of s is h = end_gives 0 level at a of refl h
      stop_closing (suc p) ps level at a of s is h = ending_stop last a s (inside (suc p) level at a of (both_left (plain (suc p)) (are_closed ps) is) h)

      closing : (ps : List ℕ) (level at : ℕ) (a : Outcome) → GivesAll g ks ps level at a → are_closed ps ≡ true → at ≤ last → IsEnding last a
      closing _ _ _ _ (GivesAll.all_done level at) is h = (cc)
      closing _ _ _ _ (GivesAll.then p ps level at to trees a of all) is h = then_closing p ps level at to trees a of all is h (closing ps level to a all)
      closing _ _ _ _ (GivesAll.stop p ps level at a of s) is h = stop_closing p ps level at a of s is h

      body_prod : (x : Prod) (level at : ℕ) (a : Outcome) → GivesProd g ks x level at a → closes (Some x) ≡ true → at ≤ last → IsEnding last a
      body_prod _ _ _ _ (GivesProd.token k level at e) is h = (cc)
      body_prod _ _ _ _ (GivesProd.no_token k level at e) is h = (cc)
      body_prod _ _ _ _ (GivesProd.rule r rule level inner at a e f of) is h = (cc)
      body_prod _ _ _ _ (GivesProd.too_deep r rule level at e f) is h = (cc)
      body_prod _ _ _ _ (GivesProd.parts ps level at a all) is h = closing ps level at a all is h
      body_prod _ _ _ _ (GivesProd.branch bs other q level at a e of) is h = (cc)
      body_prod _ _ _ _ (GivesProd.no_branch bs other level at e) is h = (cc)
      body_prod _ _ _ _ (GivesProd.times firsts q level at a all) is h = (cc)

      body_gives : (p level at : ℕ) (a : Outcome) → Gives g ks p level at a → closes (slice_get g.prods p) ≡ true → at ≤ last → IsEnding last a
      body_gives _ _ _ _ (Gives.production p level at x a e of) is h = body_prod x level at a of (subst (λ (o : Option Prod). closes o ≡ true) e is) h

      start_gives : (r level at : ℕ) (a : Outcome) → GivesProd g ks (Call r) level at a → rule_closes (slice_get g.rules r) ≡ true → at ≤ last → IsEnding last a
      start_gives _ _ _ _ (GivesProd.rule r rule level inner at a e f of) is h = ending_below last r a (body_gives rule.to inner at a of (subst (λ
          (o : Option ℕ). rule_closes o ≡ true) (rule_at-to g r rule e) is) h)
      start_gives _ _ _ _ (GivesProd.too_deep r rule level at e f) is h = h

      module _ (r : ℕ) (is : rule_closes (slice_get g.rules r) ≡ true) where
        start : (a : Outcome) → GivesProd g ks (Call r) 0 0 a → IsEnding last a
        start a of = start_gives r 0 0 a of is (omega arith)

        pub stuck_inside : (at : ℕ) → Stuck g ks r at → at < length ks
        stuck_inside _ (Stuck.inside at of) = let h : at ≤ last = start (Outcome.stuck at) of in let long = end.long in omega (arith, h, long)
        stuck_inside _ (Stuck.behind at trees of front) = absurd (front (start (Outcome.ends at trees) of ∙ sym end.long))

        pub deep_inside : (at : ℕ) → Deep g ks r at → at < length ks
        deep_inside at of = let h : at ≤ last = start (Outcome.deep at) of in let long = end.long in omega (arith, h, long)
