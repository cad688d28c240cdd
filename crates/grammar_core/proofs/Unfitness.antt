-- The tests of a production together say whether it is unfit.
use Rattle.std.proofs.Common.{◌≡◌, ℕ, ◌<◌, ◌≤◌, ◌↔◌, Bool, true, false, cond, IsTrue, List, [], ◌∷◌, length, Option, Some, None, Result, Ok, Err, IfOk, slice_get, nat_le, refl, sym, ap, ◌∙◌, arith, subst, inl, inr, ⊎_elim}
use Rattle.std.proofs.lemmas.Bool.{false≢true}
use Rattle.std.proofs.lemmas.Bool.Decides.{nat_tests}
use Rattle.std.proofs.lemmas.Option.{slice_get_within}
use Rattle.std.specs.declared.alloc.AllocError.{AllocError}
use Rattle.grammar_core.specs.declared.table.Table.{Table}
use Rattle.grammar_core.specs.declared.table.Rule.{Rule}
use Rattle.grammar_core.specs.declared.table.Prod.{Prod}
use Rattle.grammar_core.specs.declared.table.Prod.TheVariants.{Tok, Call, Seq, Case, Star}
use Rattle.grammar_core.specs.Tables.{rule_from, rule_at, choices, next_prods, graph_of}
use Rattle.grammar_core.specs.Paths.{IsIn, Path, is_marked}
use Rattle.grammar_core.specs.Unfit.{Unfit, IsOutside, IsTable}
use Rattle.grammar_core.specs.Checks.{any_past, outside_by, empty_body_by}
use Rattle.grammar_core.specs.Marks.{MarksEmpty, ComesBack, RuleComesBack, CallComesBack}
use Rattle.grammar_core.proofs.Ranks.{graph_length}
use Rattle.grammar_core.proofs.Fits.{all_inside_at, rule_at-to}

le_true : (a b : ℕ) → nat_le a b ≡ true → a ≤ b
le_true a b e = grind (arith, nat_tests)

le_false : (a b : ℕ) → nat_le a b ≡ false → a ≤ b → ⊥
le_false a b e l = grind (arith, nat_tests)

past_sound : (n : ℕ) (ps : List ℕ) → any_past n ps ≡ true → (q : ℕ) × IsIn q ps × (n ≤ q)
past_sound n [] e = (cc)
past_sound n (q ∷ qs) e = by_first (nat_le n q) refl e (past_sound n qs)
  where
    by_first : (v : Bool) → nat_le n q ≡ v → cond v true (any_past n qs) ≡ true → (any_past n qs ≡ true → (r : ℕ) × IsIn r qs × (n ≤ r)) → (r : ℕ) × IsIn r (q
        ∷ qs) × (n ≤ r)
    by_first true t e rest = (q, inl refl, le_true n q t)
    by_first false t e rest = let r = rest e in (r.0, inr r.1, r.2)

past_not : (n : ℕ) (ps : List ℕ) → any_past n ps ≡ false → (q : ℕ) → IsIn q ps → n ≤ q → ⊥
past_not n [] e q i l = absurd i
past_not n (x ∷ xs) e q i l = by_first (nat_le n x) refl e (past_not n xs)
  where
    by_first : (v : Bool) → nat_le n x ≡ v → cond v true (any_past n xs) ≡ false → (any_past n xs ≡ false → (r : ℕ) → IsIn r xs → n ≤ r → ⊥) → ⊥
    by_first true t e rest = (cc)
    by_first false t e rest = ⊎_elim (λ same. le_false n x t (subst (λ (y : ℕ). n ≤ y) same l)) (λ j. rest e q j l) i

outside_sound : (g : Table) (x : Prod) → outside_by g x ≡ true → IsOutside g x
outside_sound g (Tok k) e = (cc)
outside_sound g (Call r) e = IsOutside.rule r (le_true (length g.rules) r e)
outside_sound g (Seq ps) e = let t = past_sound (length g.prods) ps e in IsOutside.part (Seq ps) t.0 t.1 t.2
outside_sound g (Case bs other) e = let t = past_sound (length g.prods) (choices bs other) e in IsOutside.part (Case bs other) t.0 t.1 t.2
outside_sound g (Star firsts q) e = let t = past_sound (length g.prods) (q ∷ []) e in IsOutside.part (Star firsts q) t.0 t.1 t.2

part_not : (g : Table) (x : Prod) → outside_by g x ≡ false → (q : ℕ) → IsIn q (next_prods false g x) → length g.prods ≤ q → ⊥
part_not g (Tok k) e q i l = absurd i
part_not g (Call r) e q i l = absurd i
part_not g (Seq ps) e q i l = past_not (length g.prods) ps e q i l
part_not g (Case bs other) e q i l = past_not (length g.prods) (choices bs other) e q i l
part_not g (Star firsts p) e q i l = past_not (length g.prods) (p ∷ []) e q i l

pub outside_not : (g : Table) (x : Prod) → outside_by g x ≡ false → IsOutside g x → ⊥
outside_not g _ e (IsOutside.rule r l) = le_false (length g.rules) r e l
outside_not g _ e (IsOutside.part x q i l) = part_not g x e q i l

module _ (g : Table) (p : ℕ) (x : Prod) (is : slice_get g.prods p ≡ Some x) where
  pub outside_unfit : outside_by g x ≡ true → Unfit g p
  outside_unfit e = Unfit.outside x is (outside_sound g x e)

  pub empty_unfit : (seen : List Bool) → MarksEmpty g seen → empty_body_by seen x ≡ true → Unfit g p
  empty_unfit seen marks e = from x is e
    where
      from : (y : Prod) → slice_get g.prods p ≡ Some y → empty_body_by seen y ≡ true → Unfit g p
      from (Tok k) i e = (cc)
      from (Call r) i e = (cc)
      from (Seq ps) i e = (cc)
      from (Case bs other) i e = (cc)
      from (Star firsts q) i e = Unfit.empty_body firsts q i (marks.sound q e)

  call_unfit : CallComesBack g x → Unfit g p
  call_unfit h = from x is h
    where
      by_nests : (r q : ℕ) (n : Bool) → slice_get g.prods p ≡ Some (Call r) → slice_get g.rules r ≡ Some q → slice_get g.nests r ≡ Some n → ComesBack g q n
          → Unfit g p
      by_nests r q true i e f h = absurd h
      by_nests r q false i e f h = Unfit.own_call r q i e f h

      by_rule : (r : ℕ) → slice_get g.prods p ≡ Some (Call r) → (a : Option ℕ) (b : Option Bool) → slice_get g.rules r ≡ a → slice_get g.nests r ≡ b
          → RuleComesBack g (rule_from a b) → Unfit g p
      by_rule r i None b e f h = absurd h
      by_rule r i (Some q) None e f h = absurd h
      by_rule r i (Some q) (Some n) e f h = by_nests r q n i e f h

      from : (y : Prod) → slice_get g.prods p ≡ Some y → CallComesBack g y → Unfit g p
      from (Tok k) i h = absurd h
      from (Call r) i h = by_rule r i (slice_get g.rules r) (slice_get g.nests r) refl refl h
      from (Seq ps) i h = absurd h
      from (Case bs other) i h = absurd h
      from (Star firsts q) i h = absurd h

  same_prod : (y : Prod) → slice_get g.prods p ≡ Some y → y ≡ x
  same_prod y e = let s : Some y ≡ Some x = sym e ∙ is in cc

  module _ (seen : List Bool) (marks : MarksEmpty g seen) (inside : outside_by g x ≡ false) (reads : empty_body_by seen x ≡ false) (flat : Path
      (graph_of false g) p p → ⊥) where
    unfit_call : Unfit g p → CallComesBack g x
    unfit_call (Unfit.outside y e o) = absurd (outside_not g x inside (subst (λ (z : Prod). IsOutside g z) (same_prod y e) o))
    unfit_call (Unfit.empty_body firsts q e m) =
        let s : empty_body_by seen x ≡ is_marked seen q = ap (λ (z : Prod). empty_body_by seen z) (sym (same_prod (Star firsts q) e)) in
        absurd (false≢true (sym reads ∙ s ∙ marks.complete q m))
    unfit_call (Unfit.own_part way) = absurd (flat way)
    unfit_call (Unfit.own_call r q e f n way) =
        let s : rule_at g r ≡ Some (record { to = q; nests = false }) = ap (λ (o : Option ℕ). rule_from o (slice_get g.nests r)) f
        ∙ ap (λ (o : Option Bool). rule_from (Some q) o) n in
        subst (λ (z : Prod). CallComesBack g z) (same_prod (Call r) e) (subst (λ (o : Option Rule). RuleComesBack g o) (sym s) way)

    -- the last test decides
    pub last_test : (res : Result Bool AllocError) → IfOk res (λ b. IsTrue b ↔ CallComesBack g x) → IfOk res (λ b. IsTrue b ↔ Unfit g p)
    last_test (Ok b) h = (λ t. call_unfit (h.0 t), λ u. h.1 (unfit_call u))
    last_test (Err e) h = tt

-- a rule's production is in the table
pub rule_to : (g : Table) (r : ℕ) (rule : Rule) → IsTable g → rule_at g r ≡ Some rule → rule.to < length g.prods
rule_to g r rule t e = all_inside_at (length g.prods) g.rules t.inside r rule.to (rule_at-to g r rule e)

-- an unfit production is in the table
pub unfit_inside : (g : Table) (p : ℕ) → Unfit g p → p < length g.prods
unfit_inside g p (Unfit.outside y e o) = slice_get_within g.prods p y e
unfit_inside g p (Unfit.empty_body firsts q e m) = slice_get_within g.prods p (Star firsts q) e
unfit_inside g p (Unfit.own_part way) = path_inside p way
  where
    path_inside : (q : ℕ) → Path (graph_of false g) p q → q < length g.prods
    path_inside _ (Path.first q e i) = omega (arith, i, graph_length g false)
    path_inside _ (Path.then q r way e i) = omega (arith, i, graph_length g false)
unfit_inside g p (Unfit.own_call r q e f n way) = slice_get_within g.prods p (Call r) e
