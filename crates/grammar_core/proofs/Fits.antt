-- What a fit table gives for each production: its parts are inside the table and have smaller ranks, and the body of a Star reads a token.
use Rattle.std.proofs.Common.{◌≡◌, ℕ, ◌<◌, Bool, true, false, List, [], ◌∷◌, length, Option, Some, None, slice_get, zero, suc, refl, sym, ap, ◌∙◌, arith, subst, inl, inr, ⊎_elim, nat_lt, cond, ltb-true, IsTrue}
use Rattle.std.proofs.lemmas.Bool.{cases_lt, false≢true}
use Rattle.std.proofs.lemmas.Option.{slice_get_cases}
use Rattle.grammar_core.specs.declared.table.Table.{Table}
use Rattle.grammar_core.specs.declared.table.Branch.{Branch}
use Rattle.grammar_core.specs.declared.table.Rule.{Rule}
use Rattle.grammar_core.specs.declared.table.Prod.{Prod}
use Rattle.grammar_core.specs.declared.table.Prod.TheVariants.{Tok, Call, Seq, Case, Star}
use Rattle.grammar_core.specs.Tables.{rule_from, rule_at, unnested, choices, next_prods}
use Rattle.grammar_core.specs.Paths.{IsIn}
use Rattle.grammar_core.specs.Empty.{MayBeEmpty}
use Rattle.grammar_core.specs.Unfit.{Unfit, IsFit, IsOutside, all_inside}
use Rattle.grammar_core.specs.Derives.{begins, branch_of}
use Rattle.grammar_core.proofs.Ranks.{rank, rank_step}

pub record IsBelow (g : Table) (p q : ℕ) : Type 0 where
  pub inside : q < length g.prods
  pub falls : rank g q < rank g p

abbrev pub AllBelow : Table → ℕ → List ℕ → Type 0
AllBelow g p [] = Unit {0}
AllBelow g p (q ∷ qs) = IsBelow g p q × AllBelow g p qs

abbrev pub OtherBelow : Table → ℕ → Option ℕ → Type 0
OtherBelow g p None = Unit {0}
OtherBelow g p (Some q) = IsBelow g p q

abbrev pub NextFits : Table → ℕ → ℕ → Bool → Type 0
NextFits g p q true = q < length g.prods
NextFits g p q false = IsBelow g p q

abbrev pub RuleFits : Table → ℕ → Option Rule → Type 0
RuleFits g p None = ⊥
RuleFits g p (Some rule) = NextFits g p rule.to rule.nests

abbrev pub Fits : Table → ℕ → Option Prod → Type 0
Fits g p None = ⊥
Fits g p (Some (Tok k)) = Unit {0}
Fits g p (Some (Call r)) = RuleFits g p (rule_at g r)
Fits g p (Some (Seq ps)) = AllBelow g p ps
Fits g p (Some (Case bs other)) = AllBelow g p (choices bs other)
Fits g p (Some (Star firsts q)) = IsBelow g p q × (MayBeEmpty g q → ⊥)

pub all_inside_at : (n : ℕ) (rules : List ℕ) → IsTrue (all_inside n rules) → (r q : ℕ) → slice_get rules r ≡ Some q → q < n
all_inside_at n [] h r q e = (cc)
all_inside_at n (x ∷ xs) h r q e = by_test (all_inside_at n xs) (nat_lt x n) refl h r e
  where
    by_test : (IsTrue (all_inside n xs) → (r q : ℕ) → slice_get xs r ≡ Some q → q < n) → (v : Bool) → nat_lt x n ≡ v → IsTrue (cond v (all_inside n xs) false)
        → (r : ℕ) → slice_get (x ∷ xs) r ≡ Some q → q < n
    by_test rest true t h zero e = let same : x ≡ q = cc in subst (λ (y : ℕ). y < n) same (ltb-true x n t)
    by_test rest true t h (suc r) e = rest h r q e
    by_test rest false t h r e = absurd (false≢true h)

pub other_below : (g : Table) (p q : ℕ) (bs : List Branch) (o : Option ℕ) → AllBelow g p (choices bs o) → IsIn q (choices bs o) → IsBelow g p q
other_below g p q bs o b i = from (choices bs o) b i
  where
    from : (l : List ℕ) → AllBelow g p l → IsIn q l → IsBelow g p q
    from [] b i = absurd i
    from (x ∷ xs) b i = ⊎_elim (λ e. subst (λ (y : ℕ). IsBelow g p y) (sym e) b.0) (λ j. from xs b.1 j) i

-- the branch that is taken is among the choices
pub branch_in : (ks : List ℕ) (at q : ℕ) (bs : List Branch) (o : Option ℕ) → branch_of ks at bs o ≡ Some q → IsIn q (choices bs o)
branch_in ks at q [] None e = (cc)
branch_in ks at q [] (Some x) e = let same : x ≡ q = cc in inl (sym same)
branch_in ks at q (b ∷ bs) o e = by_begins (branch_in ks at q bs o) (begins ks at b.firsts) e
  where
    by_begins : (branch_of ks at bs o ≡ Some q → IsIn q (choices bs o)) → (v : Bool) → cond v (Some b.to) (branch_of ks at bs o) ≡ Some q → IsIn q (b.to
        ∷ choices bs o)
    by_begins rest true e = let same : b.to ≡ q = cc in inl (sym same)
    by_begins rest false e = inr (rest e)

pub branch_below : (g : Table) (ks : List ℕ) (p at : ℕ) (bs : List Branch) (o : Option ℕ) → AllBelow g p (choices bs o) → OtherBelow g p (branch_of ks at bs o)
branch_below g ks p at bs o b = by_choice (branch_of ks at bs o) refl
  where
    by_choice : (c : Option ℕ) → branch_of ks at bs o ≡ c → OtherBelow g p c
    by_choice None e = tt
    by_choice (Some q) e = other_below g p q bs o b (branch_in ks at q bs o e)

pub rule_at-to : (g : Table) (r : ℕ) (rule : Rule) → rule_at g r ≡ Some rule → slice_get g.rules r ≡ Some rule.to
rule_at-to g r rule e = from (slice_get g.rules r) (slice_get g.nests r) e
  where
    from : (a : Option ℕ) (b : Option Bool) → rule_from a b ≡ Some rule → a ≡ Some rule.to
    from None b e = (cc)
    from (Some to) None e = (cc)
    from (Some to) (Some n) e = let same : record { to = to; nests = n } ≡ rule = cc in ap (λ (x : Rule). Some x.to) same

module _ (g : Table) (fit : IsFit g) where
  -- a rule by a number below the number of rules
  pub rule_there : (r : ℕ) → r < length g.rules → (rule : Rule) × (rule_at g r ≡ Some rule) × (rule.to < length g.prods)
  rule_there r h =
      ⊎_elim
      (λ to. ⊎_elim
      (λ n. (
        record { to = to.0; nests = n.0 },
        ap (λ (o : Option ℕ). rule_from o (slice_get g.nests r)) to.2
            ∙ ap (λ (o : Option Bool). rule_from (Some to.0) o) n.2,
        all_inside_at (length g.prods) g.rules fit.table.inside r to.0 to.2,
      ))
      (λ past. absurd (omega (arith, past.0, h, fit.table.paired))) (slice_get_cases g.nests r).1)
      (λ past. absurd (omega (arith, past.0, h))) (slice_get_cases g.rules r).1

  inside_part : (p : ℕ) (x : Prod) → slice_get g.prods p ≡ Some x → (q : ℕ) → IsIn q (next_prods false g x) → q < length g.prods
  inside_part p x is q i = ⊎_elim (λ h. h) (λ h. absurd (fit.fit p (Unfit.outside x is (IsOutside.part x q i h)))) (cases_lt q (length g.prods))

  below_part : (p : ℕ) (x : Prod) → slice_get g.prods p ≡ Some x → (q : ℕ) → IsIn q (next_prods false g x) → IsIn q (next_prods true g x) → IsBelow g p q
  below_part p x is q i j = let inside = inside_part p x is q i in record { inside = inside; falls = rank_step g fit.fit p q x is j inside }

  all_below : (p : ℕ) (l : List ℕ) → ((q : ℕ) → IsIn q l → IsBelow g p q) → AllBelow g p l
  all_below p [] h = tt
  all_below p (q ∷ qs) h = (h q (inl refl), all_below p qs (λ r i. h r (inr i)))

  rule_below : (p r : ℕ) → slice_get g.prods p ≡ Some (Call r) → (rule : Rule) → rule_at g r ≡ Some rule → rule.to < length g.prods → (n : Bool)
      → rule.nests ≡ n → NextFits g p rule.to n
  rule_below p r is rule e inside true t = inside
  rule_below p r is rule e inside false t =
      let one : unnested (rule_at g r) ≡ rule.to ∷ [] = ap (λ (o : Option Rule). unnested o) e ∙ ap (λ (n : Bool). cond n [] (rule.to ∷ [])) t in
      record { inside = inside; falls = rank_step g fit.fit p rule.to (Call r) is (subst (λ (l : List ℕ). IsIn rule.to l) (sym one) (inl refl)) inside }

  rule_number : (p r : ℕ) → slice_get g.prods p ≡ Some (Call r) → r < length g.rules
  rule_number p r is = ⊎_elim (λ h. h) (λ h. absurd (fit.fit p (Unfit.outside (Call r) is (IsOutside.rule r h)))) (cases_lt r (length g.rules))

  pub rule_fits : (p r : ℕ) → slice_get g.prods p ≡ Some (Call r) → RuleFits g p (rule_at g r)
  rule_fits p r is =
      let h = rule_there r (rule_number p r is) in
      subst (λ (o : Option Rule). RuleFits g p o) (sym h.1) (rule_below p r is h.0 h.1 h.2 h.0.nests refl)

  pub rule_inside : (p r : ℕ) → slice_get g.prods p ≡ Some (Call r) → (r < length g.rules) × (r < length g.nests)
  rule_inside p r is = let h = rule_number p r is in (h, omega (arith, h, fit.table.paired))

  pub fits : (p : ℕ) (x : Prod) → slice_get g.prods p ≡ Some x → Fits g p (Some x)
  fits p (Tok k) is = tt
  fits p (Call r) is = rule_fits p r is
  fits p (Seq ps) is = all_below p ps (λ q i. below_part p (Seq ps) is q i i)
  fits p (Case bs other) is = all_below p (choices bs other) (λ q i. below_part p (Case bs other) is q i i)
  fits p (Star firsts q) is = (below_part p (Star firsts q) is q (inl refl) (inl refl), λ e. fit.fit p (Unfit.empty_body firsts q is e))

  pub fits_at : (p : ℕ) → p < length g.prods → Fits g p (slice_get g.prods p)
  fits_at p h = ⊎_elim (λ some. subst (λ (o : Option Prod). Fits g p o) (sym some.2) (fits p some.0 some.2)) (λ past. absurd (omega (arith, past.0, h)))
      (slice_get_cases g.prods p).1
