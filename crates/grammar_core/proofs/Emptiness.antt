-- What the sweeps over the productions mark: exactly those that may derive no token.
use Rattle.std.proofs.Common.{◌≡◌, ℕ, ◌+◌, ◌<◌, List, [], ◌∷◌, length, Option, Some, None, Bool, true, false, cond, slice_get, zero, suc, refl, sym, ap, ◌∙◌, arith, subst, inl, inr, ⊎_elim, add-zero, replicate}
use Rattle.std.proofs.lemmas.Option.{slice_get_within}
use Rattle.grammar_core.specs.declared.table.Table.{Table}
use Rattle.grammar_core.specs.declared.table.Prod.{Prod}
use Rattle.grammar_core.specs.declared.table.Prod.TheVariants.{Tok, Call, Seq, Case, Star}
use Rattle.grammar_core.specs.Tables.{choices}
use Rattle.grammar_core.specs.Paths.{IsIn, is_marked}
use Rattle.grammar_core.specs.Empty.{MayBeEmpty, IsEmptyProd, AllMayBeEmpty, is_marked_option, all_marked, any_marked, empty_by}
use Rattle.grammar_core.specs.Marks.{set_mark, empty_sweep, MarksEmpty}
use Rattle.grammar_core.proofs.Marking.{set_length, set_keeps, set_marks, set_only, none_marked}

step_keeps : (v : Bool) (seen : List Bool) (i r : ℕ) → is_marked seen r ≡ true → is_marked (cond v (set_mark seen i) seen) r ≡ true
step_keeps true seen i r e = set_keeps seen i r e
step_keeps false seen i r e = e

step_length : (v : Bool) (seen : List Bool) (i : ℕ) → length (cond v (set_mark seen i) seen) ≡ length seen
step_length true seen i = set_length seen i
step_length false seen i = refl

module _ (rules : List ℕ) where
  sweep_keeps : (xs : List Prod) (i : ℕ) (seen : List Bool) (r : ℕ) → is_marked seen r ≡ true → is_marked (empty_sweep rules seen i xs) r ≡ true
  sweep_keeps [] i seen r e = e
  sweep_keeps (x ∷ xs) i seen r e = sweep_keeps xs (i + 1) (cond (empty_by rules seen x) (set_mark seen i) seen) r (step_keeps
      (empty_by rules seen x) seen i r e)

  pub sweep_length : (xs : List Prod) (i : ℕ) (seen : List Bool) → length (empty_sweep rules seen i xs) ≡ length seen
  sweep_length [] i seen = refl
  sweep_length (x ∷ xs) i seen = sweep_length xs (i + 1) (cond (empty_by rules seen x) (set_mark seen i) seen) ∙ step_length (empty_by rules seen x) seen i

-- marked in the first only if in the second
abbrev Within : List Bool → List Bool → Type 0
Within a b = (q : ℕ) → is_marked a q ≡ true → is_marked b q ≡ true

if_true : (v w : Bool) (r : Bool) → cond v r false ≡ true → (v ≡ true) × (r ≡ true)
if_true true w r e = (refl, e)
if_true false w r e = (cc)

module _ (a b : List Bool) (w : Within a b) where
  all_within : (ps : List ℕ) → all_marked a ps ≡ true → all_marked b ps ≡ true
  all_within [] e = refl
  all_within (q ∷ qs) e = let t = if_true (is_marked a q) true (all_marked a qs) e in rw (w q t.0) (all_within qs t.1)

  any_within : (ps : List ℕ) → any_marked a ps ≡ true → any_marked b ps ≡ true
  any_within [] e = e
  any_within (q ∷ qs) e = by_first (is_marked a q) refl e (any_within qs)
    where
      keep : (v r : Bool) → r ≡ true → cond v true r ≡ true
      keep true r e = refl
      keep false r e = e

      by_first : (v : Bool) → is_marked a q ≡ v → cond v true (any_marked a qs) ≡ true → (any_marked a qs ≡ true → any_marked b qs ≡ true)
          → cond (is_marked b q) true (any_marked b qs) ≡ true
      by_first true i e rest = rw (w q i) refl
      by_first false i e rest = keep (is_marked b q) (any_marked b qs) (rest e)

  option_within : (o : Option ℕ) → is_marked_option a o ≡ true → is_marked_option b o ≡ true
  option_within None e = e
  option_within (Some q) e = w q e

  empty_within : (rules : List ℕ) (x : Prod) → empty_by rules a x ≡ true → empty_by rules b x ≡ true
  empty_within rules (Tok k) e = e
  empty_within rules (Call r) e = option_within (slice_get rules r) e
  empty_within rules (Seq ps) e = all_within ps e
  empty_within rules (Case bs other) e = any_within (choices bs other) e
  empty_within rules (Star firsts q) e = refl

module _ (g : Table) where
  abbrev pub Sound : List Bool → Type 0
  Sound seen = (p : ℕ) → is_marked seen p ≡ true → MayBeEmpty g p

  all_sound : (seen : List Bool) → Sound seen → (ps : List ℕ) → all_marked seen ps ≡ true → AllMayBeEmpty g ps
  all_sound seen s [] e = AllMayBeEmpty.none
  all_sound seen s (q ∷ qs) e = let t = if_true (is_marked seen q) true (all_marked seen qs) e in AllMayBeEmpty.and q qs (s q t.0) (all_sound seen s qs t.1)

  any_sound : (seen : List Bool) → Sound seen → (ps : List ℕ) → any_marked seen ps ≡ true → (q : ℕ) × IsIn q ps × MayBeEmpty g q
  any_sound seen s [] e = (cc)
  any_sound seen s (q ∷ qs) e = by_first (is_marked seen q) refl e (any_sound seen s qs)
    where
      by_first : (v : Bool) → is_marked seen q ≡ v → cond v true (any_marked seen qs) ≡ true → (any_marked seen qs ≡ true
          → (r : ℕ) × IsIn r qs × MayBeEmpty g r) → (r : ℕ) × IsIn r (q ∷ qs) × MayBeEmpty g r
      by_first true i e rest = (q, inl refl, s q i)
      by_first false i e rest = let t = rest e in (t.0, inr t.1, t.2)

  empty_sound : (seen : List Bool) → Sound seen → (x : Prod) → empty_by g.rules seen x ≡ true → IsEmptyProd g x
  empty_sound seen s (Tok k) e = (cc)
  empty_sound seen s (Call r) e = by_rule (slice_get g.rules r) refl e
    where
      by_rule : (o : Option ℕ) → slice_get g.rules r ≡ o → is_marked_option seen o ≡ true → IsEmptyProd g (Call r)
      by_rule None i e = (cc)
      by_rule (Some q) i e = IsEmptyProd.call r q i (s q e)
  empty_sound seen s (Seq ps) e = IsEmptyProd.all ps (all_sound seen s ps e)
  empty_sound seen s (Case bs other) e = let t = any_sound seen s (choices bs other) e in IsEmptyProd.branch bs other t.0 t.1 t.2
  empty_sound seen s (Star firsts q) e = IsEmptyProd.no_times firsts q

  step_sound : (seen : List Bool) (i : ℕ) (x : Prod) → slice_get g.prods i ≡ Some x → Sound seen → (v : Bool) → empty_by g.rules seen x ≡ v
      → Sound (cond v (set_mark seen i) seen)
  step_sound seen i x e s false t p m = s p m
  step_sound seen i x e s true t p m = ⊎_elim (λ old. s p old) (λ new. subst (λ (q : ℕ). MayBeEmpty g q) (sym new.0) (MayBeEmpty.production i x e
      (empty_sound seen s x t))) (set_only seen i p m)

  sweep_sound : (xs : List Prod) (i : ℕ) (seen : List Bool) → ((k : ℕ) → k < length xs → slice_get xs k ≡ slice_get g.prods (i + k)) → Sound seen
      → Sound (empty_sweep g.rules seen i xs)
  sweep_sound [] i seen same s = s
  sweep_sound (x ∷ xs) i seen same s =
      let e = sym (same zero (omega arith)) in
      let e' = subst (λ (j : ℕ). slice_get g.prods j ≡ Some x) (add-zero i) e in
      sweep_sound xs (i + 1) (cond (empty_by g.rules seen x) (set_mark seen i) seen)
      (λ k h. let n : i + suc k ≡ (i + 1) + k = omega arith in subst (λ (j : ℕ). slice_get xs k ≡ slice_get g.prods j) n (same (suc k) (omega (arith, h))))
      (step_sound seen i x e' s (empty_by g.rules seen x) refl)

  pub sweep_is_sound : (seen : List Bool) → Sound seen → Sound (empty_sweep g.rules seen 0 g.prods)
  sweep_is_sound seen s = sweep_sound g.prods 0 seen (λ k h. let z : 0 + k ≡ k = omega arith in ap (λ (j : ℕ). slice_get g.prods j) (sym z)) s

  pub none_sound : Sound (replicate (length g.prods) false)
  none_sound p m = absurd (none_marked (length g.prods) p m)

  -- what may derive nothing by the marks is marked by the sweep
  sweep_marks : (xs : List Prod) (i : ℕ) (seen : List Bool) (k : ℕ) (x : Prod) → slice_get xs k ≡ Some x → empty_by g.rules seen x ≡ true → i + k < length seen
      → is_marked (empty_sweep g.rules seen i xs) (i + k) ≡ true
  sweep_marks [] i seen k x e m inside = (cc)
  sweep_marks (y ∷ xs) i seen zero x e m inside =
      let same : y ≡ x = cc in
      let at_i : empty_by g.rules seen y ≡ true = subst (λ (z : Prod). empty_by g.rules seen z ≡ true) (sym same) m in
      let z : i + 0 ≡ i = omega arith in
      sweep_keeps g.rules xs (i + 1) (cond (empty_by g.rules seen y) (set_mark seen i) seen) (i + 0)
      (rw at_i (subst (λ (j : ℕ). is_marked (set_mark seen i) j ≡ true) (sym z) (set_marks seen i (omega (arith, inside)))))
  sweep_marks (y ∷ xs) i seen (suc k) x e m inside =
      let n : (i + 1) + k ≡ i + suc k = omega arith in
      let next : List Bool = cond (empty_by g.rules seen y) (set_mark seen i) seen in
      subst (λ (j : ℕ). is_marked (empty_sweep g.rules next (i + 1) xs) j ≡ true) n
      (sweep_marks xs (i + 1) next k x e (empty_within seen next (λ q. step_keeps (empty_by g.rules seen y) seen i q) g.rules x m) (omega
      (arith, inside, step_length (empty_by g.rules seen y) seen i)))

  -- a sweep that marks no more has marked each production whose parts say so
  marked_at : (seen : List Bool) → length seen ≡ length g.prods → empty_sweep g.rules seen 0 g.prods ≡ seen → (p : ℕ) (x : Prod) → slice_get g.prods p ≡ Some x
      → empty_by g.rules seen x ≡ true → is_marked seen p ≡ true
  marked_at seen long same p x e m =
      let z : 0 + p ≡ p = omega arith in
      let inside = slice_get_within g.prods p x e in
      subst (λ (l : List Bool). is_marked l p ≡ true) same (subst (λ (j : ℕ). is_marked (empty_sweep g.rules seen 0 g.prods) j ≡ true) z
      (sweep_marks g.prods 0 seen p x e m (omega (arith, inside, long))))

  module _ (seen : List Bool) (closed : (p : ℕ) (x : Prod) → slice_get g.prods p ≡ Some x → empty_by g.rules seen x ≡ true → is_marked seen p ≡ true) where
    any_of : (q : ℕ) (ps : List ℕ) → IsIn q ps → is_marked seen q ≡ true → any_marked seen ps ≡ true
    any_of q [] i m = absurd i
    any_of q (r ∷ rs) i m = ⊎_elim (λ e. rw (subst (λ (x : ℕ). is_marked seen x ≡ true) e m) refl) (λ j. keep (is_marked seen r) (any_marked seen rs)
        (any_of q rs j m)) i
      where
        keep : (v s : Bool) → s ≡ true → cond v true s ≡ true
        keep true s e = refl
        keep false s e = e

    mutual
      pub complete : (p : ℕ) → MayBeEmpty g p → is_marked seen p ≡ true
      complete _ (MayBeEmpty.production p x e of) = closed p x e (complete_prod x of)

      complete_prod : (x : Prod) → IsEmptyProd g x → empty_by g.rules seen x ≡ true
      complete_prod _ (IsEmptyProd.call r q e m) = rw e (complete q m)
      complete_prod _ (IsEmptyProd.all ps m) = complete_all ps m
      complete_prod _ (IsEmptyProd.branch bs other q i m) = any_of q (choices bs other) i (complete q m)
      complete_prod _ (IsEmptyProd.no_times firsts q) = refl

      complete_all : (ps : List ℕ) → AllMayBeEmpty g ps → all_marked seen ps ≡ true
      complete_all _ AllMayBeEmpty.none = refl
      complete_all _ (AllMayBeEmpty.and q qs m all) = rw (complete q m) (complete_all qs all)

  pub marks_done : (seen : List Bool) → length seen ≡ length g.prods → Sound seen → empty_sweep g.rules seen 0 g.prods ≡ seen → MarksEmpty g seen
  marks_done seen long s same = record { sound = s; complete = complete seen (marked_at seen long same) }
