-- A table is fit where the parts of each production have smaller ranks than it, and the body of each Star surely derives a token.
use Rattle.std.proofs.Common.{◌≡◌, ℕ, ◌+◌, ◌<◌, Bool, true, false, nat_lt, List, [], ◌∷◌, length, Option, Some, None, slice_get, zero, suc, refl, sym, ap, ◌∙◌, arith, subst, ⊎_elim}
use Rattle.std.proofs.lemmas.Bool.{ltb-true}
use Rattle.std.proofs.lemmas.Option.{slice_get-map}
use Rattle.std.specs.Option.{option_map}
use Rattle.grammar_core.specs.declared.table.Table.{Table}
use Rattle.grammar_core.specs.declared.table.Prod.{Prod}
use Rattle.grammar_core.specs.declared.table.Prod.TheVariants.{Tok, Call, Seq, Case, Star}
use Rattle.grammar_core.specs.Paths.{IsIn, Path, next, places_of}
use Rattle.grammar_core.specs.Tables.{choices, next_prods, graph_of}
use Rattle.grammar_core.specs.Empty.{MayBeEmpty, IsEmptyProd, AllMayBeEmpty}
use Rattle.grammar_core.specs.Unfit.{IsOutside, Unfit}

-- both, the second only where the first holds
abbrev pub both : Bool → Bool → Bool
both true b = b
both false b = false

pub both_left : (a b : Bool) → both a b ≡ true → a ≡ true
both_left true b e = refl
both_left false b e = e

pub both_right : (a b : Bool) → both a b ≡ true → b ≡ true
both_right true b e = e
both_right false b e = absurd (cc)

-- a test of each number
abbrev pub every : (ℕ → Bool) → List ℕ → Bool
every test [] = true
every test (q ∷ qs) = both (test q) (every test qs)

pub every_in : (test : ℕ → Bool) (qs : List ℕ) → every test qs ≡ true → (q : ℕ) → IsIn q qs → test q ≡ true
every_in test [] e q i = absurd i
every_in test (x ∷ xs) e q i = ⊎_elim (λ same. subst (λ (n : ℕ). test n ≡ true) (sym same) (both_left (test x) (every test xs) e)) (λ later. every_in test xs
    (both_right (test x) (every test xs) e) q later) i

-- a test of some number, from the left
abbrev pub some : (ℕ → Bool) → List ℕ → Bool
some test [] = false
some test (q ∷ qs) = elim (test q) [ true ↦ true | false ↦ some test qs ]

module _ (g : Table) where
  -- what a production surely derives has a token, where `one` says it of others
  abbrev pub sure_rule : (ℕ → Bool) → Option ℕ → Bool
  sure_rule one None = false
  sure_rule one (Some q) = one q

  abbrev pub sure_prod : (ℕ → Bool) → Option Prod → Bool
  sure_prod one None = false
  sure_prod one (Some (Tok k)) = true
  sure_prod one (Some (Call r)) = sure_rule one (slice_get g.rules r)
  sure_prod one (Some (Seq ps)) = some one ps
  sure_prod one (Some (Case bs other)) = every one (choices bs other)
  sure_prod one (Some (Star firsts q)) = false

  -- with at most so many productions open
  abbrev pub is_sure : ℕ → ℕ → Bool
  is_sure zero p = false
  is_sure (suc n) p = sure_prod (λ q. is_sure n q) (slice_get g.prods p)

  module _ (one : ℕ → Bool) (sound : (q : ℕ) → one q ≡ true → MayBeEmpty g q → ⊥) where
    some_sound : (ps : List ℕ) → some one ps ≡ true → AllMayBeEmpty g ps → ⊥
    some_sound _ e (AllMayBeEmpty.none) = (cc)
    some_sound _ e (AllMayBeEmpty.and q qs m more) = here (one q) refl e (λ h. some_sound qs h more)
      where
        here : (b : Bool) → one q ≡ b → (elim b [ true ↦ true | false ↦ some one qs ]) ≡ true → (some one qs ≡ true → ⊥) → ⊥
        here true is h later = sound q is m
        here false is h later = later h

    prod_sound : (x : Prod) → sure_prod one (Some x) ≡ true → IsEmptyProd g x → ⊥
    prod_sound _ e (IsEmptyProd.call r q at m) = sound q (subst (λ (o : Option ℕ). sure_rule one o ≡ true) at e) m
    prod_sound _ e (IsEmptyProd.all ps all) = some_sound ps e all
    prod_sound _ e (IsEmptyProd.branch bs other q i m) = sound q (every_in one (choices bs other) e q i) m
    prod_sound _ e (IsEmptyProd.no_times firsts q) = (cc)

    here_sound : (p : ℕ) → sure_prod one (slice_get g.prods p) ≡ true → MayBeEmpty g p → ⊥
    here_sound _ e (MayBeEmpty.production p x at m) = prod_sound x (subst (λ (o : Option Prod). sure_prod one o ≡ true) at e) m

  sure_sound : (n p : ℕ) → is_sure n p ≡ true → MayBeEmpty g p → ⊥
  sure_sound zero p e m = (cc)
  sure_sound (suc n) p e m = here_sound (λ q. is_sure n q) (λ q. sure_sound n q) p e m

  -- the body of a Star surely derives a token, and a rule that is called is there
  abbrev pub is_safe : Prod → Bool
  is_safe (Tok k) = true
  is_safe (Call r) = nat_lt r (length g.rules)
  is_safe (Seq ps) = true
  is_safe (Case bs other) = true
  is_safe (Star firsts q) = is_sure 6 q

  module _ (rank : ℕ → ℕ) where
    -- the production at i: its parts have smaller ranks and are there
    abbrev pub is_ranked : ℕ → Prod → Bool
    is_ranked i x = both (every (λ q. both (nat_lt (rank q) (rank i)) (nat_lt q (length g.prods))) (next_prods true g x)) (is_safe x)

    -- the productions from i on
    abbrev pub are_ranked : ℕ → List Prod → Bool
    are_ranked i [] = true
    are_ranked i (x ∷ xs) = both (is_ranked i x) (are_ranked (suc i) xs)

  module _ (rank : ℕ → ℕ) (all : are_ranked rank 0 g.prods ≡ true) where
    ranked_from : (i : ℕ) (xs : List Prod) → are_ranked rank i xs ≡ true → (k : ℕ) (x : Prod) → slice_get xs k ≡ Some x → is_ranked rank (k + i) x ≡ true
    ranked_from i [] e k x at = (cc)
    ranked_from i (y ∷ ys) e zero x at = let s : y ≡ x = cc in subst (λ (n : ℕ). is_ranked rank n x ≡ true) (omega arith) (subst (λ
        (z : Prod). is_ranked rank i z ≡ true) s (both_left (is_ranked rank i y) (are_ranked rank (suc i) ys) e))
    ranked_from i (y ∷ ys) e (suc k) x at = subst (λ (n : ℕ). is_ranked rank n x ≡ true) (omega arith) (ranked_from (suc i) ys (both_right (is_ranked rank i y)
        (are_ranked rank (suc i) ys) e) k x at)

    ranked_at : (p : ℕ) (x : Prod) → slice_get g.prods p ≡ Some x → is_ranked rank p x ≡ true
    ranked_at p x at = subst (λ (n : ℕ). is_ranked rank n x ≡ true) (omega arith) (ranked_from 0 g.prods all p x at)

    -- a part of the production at p has a smaller rank, and is there
    part_in : (p : ℕ) (x : Prod) → slice_get g.prods p ≡ Some x → (q : ℕ) → IsIn q (next_prods true g x)
        → both (nat_lt (rank q) (rank p)) (nat_lt q (length g.prods)) ≡ true
    part_in p x at q i = every_in (λ n. both (nat_lt (rank n) (rank p)) (nat_lt n (length g.prods))) (next_prods true g x) (both_left (every (λ n. both (nat_lt
        (rank n) (rank p)) (nat_lt n (length g.prods))) (next_prods true g x)) (is_safe x) (ranked_at p x at)) q i

    part_less : (p : ℕ) (x : Prod) → slice_get g.prods p ≡ Some x → (q : ℕ) → IsIn q (next_prods true g x) → rank q < rank p
    part_less p x at q i = ltb-true (rank q) (rank p) (both_left (nat_lt (rank q) (rank p)) (nat_lt q (length g.prods)) (part_in p x at q i))

    part_there : (p : ℕ) (x : Prod) → slice_get g.prods p ≡ Some x → (q : ℕ) → IsIn q (next_prods true g x) → q < length g.prods
    part_there p x at q i = ltb-true q (length g.prods) (both_right (nat_lt (rank q) (rank p)) (nat_lt q (length g.prods)) (part_in p x at q i))

    safe_at : (p : ℕ) (x : Prod) → slice_get g.prods p ≡ Some x → is_safe x ≡ true
    safe_at p x at = both_right (every (λ n. both (nat_lt (rank n) (rank p)) (nat_lt n (length g.prods))) (next_prods true g x)) (is_safe x) (ranked_at p x at)

    -- with calls or without, a part is one with calls
    with_calls : (calls : Bool) (x : Prod) (q : ℕ) → IsIn q (next_prods calls g x) → IsIn q (next_prods true g x)
    with_calls true x q i = i
    with_calls false (Tok k) q i = absurd i
    with_calls false (Call r) q i = absurd i
    with_calls false (Seq ps) q i = i
    with_calls false (Case bs other) q i = i
    with_calls false (Star firsts p) q i = i

    -- a step of the graph leaves from a production
    next_row : (calls : Bool) (p : ℕ) (o : Option Prod) → slice_get g.prods p ≡ o → next (graph_of calls g) p ≡ places_of (option_map
        (λ x. next_prods calls g x) o)
    next_row calls p o e = ap (λ (l : Option (List ℕ)). places_of l) (slice_get-map (λ x. next_prods calls g x) g.prods p
        ∙ ap (λ (v : Option Prod). option_map (λ x. next_prods calls g x) v) e)

    step_less : (calls : Bool) (p q : ℕ) → IsIn q (next (graph_of calls g) p) → rank q < rank p
    step_less calls p q i = here (slice_get g.prods p) refl
      where
        here : (o : Option Prod) → slice_get g.prods p ≡ o → rank q < rank p
        here None e = absurd (subst (λ (l : List ℕ). IsIn q l) (next_row calls p None e) i)
        here (Some x) e = part_less p x e q (with_calls calls x q (subst (λ (l : List ℕ). IsIn q l) (next_row calls p (Some x) e) i))

    path_less : (calls : Bool) (p q : ℕ) → Path (graph_of calls g) p q → rank q < rank p
    path_less calls p _ (Path.first q i w) = step_less calls p q i
    path_less calls p _ (Path.then q r way i w) = let a = path_less calls p q way in let b = step_less calls q r i in omega (arith, a, b)

    outside_not : (p : ℕ) (x : Prod) → slice_get g.prods p ≡ Some x → IsOutside g x → ⊥
    outside_not p _ at (IsOutside.rule r far) = let e = ltb-true r (length g.rules) (safe_at p (Call r) at) in omega (arith, e, far)
    outside_not p _ at (IsOutside.part x q i far) = let e = part_there p x at q (with_calls false x q i) in omega (arith, e, far)

    pub ranked_not : (p : ℕ) → Unfit g p → ⊥
    ranked_not p (Unfit.outside x at out) = outside_not p x at out
    ranked_not p (Unfit.empty_body firsts q at m) = sure_sound 6 q (safe_at p (Star firsts q) at) m
    ranked_not p (Unfit.own_part way) = let e = path_less false p p way in omega (arith, e)
    ranked_not p (Unfit.own_call r q at to nest way) = let e = path_less true q q way in omega (arith, e)
