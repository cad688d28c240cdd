-- What is sure of every row that a production derives: how many trees it has at least, whether one of them is of a sort, and
-- whether one of that sort is not the last.
use Rattle.std.proofs.Common.{◌≡◌, ◌≤◌, ◌<◌, ℕ, zero, suc, ◌+◌, ◌||◌, Bool, true, false, nat_lt, List, [], ◌∷◌, ◌++◌, length, Option, Some, None, slice_get, refl, sym, ◌∙◌, subst, arith, ⊎_elim}
use Rattle.std.proofs.lemmas.Bool.{ltb-true}
use Rattle.std.proofs.lemmas.List.{length-append}
use Rattle.grammar_core.specs.declared.table.Table.{Table}
use Rattle.grammar_core.specs.declared.table.Prod.{Prod}
use Rattle.grammar_core.specs.declared.table.Prod.TheVariants.{Tok, Call, Seq, Case, Star}
use Rattle.grammar_core.specs.Paths.{IsIn}
use Rattle.grammar_core.specs.Tables.{choices}
use Rattle.grammar_core.specs.Trees.{ParseTree, leaf, node, Row, row_of}
use Rattle.grammar_core.specs.Derives.{Outcome, before, below_rule, Stops, Gives, GivesProd, GivesAll}
use Rattle.grammar_core.proofs.Fits.{branch_in}
use Rattle.use_syntax.proofs.Ranked.{both, both_left, both_right}

-- at least so many trees; whether one is of the sort; whether one of the sort is not the last
pub data Sure : Type 0 where
  sure : ℕ → Bool → Bool → Sure

abbrev pub lesser : ℕ → ℕ → ℕ
lesser zero m = zero
lesser (suc l) zero = zero
lesser (suc l) (suc m) = suc (lesser l m)

-- of a row and then another
abbrev pub in_turn : Sure → Sure → Sure
in_turn (sure l h f) (sure m i e) = sure (l + m) (h || i) ((both h (nat_lt 0 m)) || (f || e))

-- of either
abbrev pub either : Sure → Sure → Sure
either (sure l h f) (sure m i e) = sure (lesser l m) (both h i) (both f e)

-- of any row
abbrev pub nothing_sure : Sure
nothing_sure = sure 0 false false

abbrev pub all_in_turn : (ℕ → Sure) → List ℕ → Sure
all_in_turn one [] = nothing_sure
all_in_turn one (p ∷ ps) = in_turn (one p) (all_in_turn one ps)

-- of whichever branch: where there is none, no row is given, and anything is sure
abbrev pub any_of : (ℕ → Sure) → List ℕ → Sure
any_of one [] = sure 9 true true
any_of one (q ∷ qs) = either (one q) (any_of one qs)

lesser_left : (l m : ℕ) → lesser l m ≤ l
lesser_left zero m = omega arith
lesser_left (suc l) zero = omega arith
lesser_left (suc l) (suc m) = let h = lesser_left l m in omega (arith, h)

lesser_right : (l m : ℕ) → lesser l m ≤ m
lesser_right zero m = omega arith
lesser_right (suc l) zero = omega arith
lesser_right (suc l) (suc m) = let h = lesser_right l m in omega (arith, h)

or_left : (a b : Bool) → a ≡ true → (a || b) ≡ true
or_left true b e = refl
or_left false b e = absurd (cc)

or_right : (a b : Bool) → b ≡ true → (a || b) ≡ true
or_right true b e = refl
or_right false b e = e

pub or_map : (a b : Bool) {X : Type 0} → (a ≡ true → X) → (b ≡ true → X) → (a || b) ≡ true → X
or_map true b f g e = f refl
or_map false b f g e = g e

pub both_of : (a b : Bool) → a ≡ true → b ≡ true → both a b ≡ true
both_of true b e f = f
both_of false b e f = absurd (cc)

abbrev pub is_filled : List ParseTree → Bool
is_filled [] = false
is_filled (t ∷ ts) = true

filled_right : (ts us : List ParseTree) → is_filled us ≡ true → is_filled (ts ++ us) ≡ true
filled_right [] us e = e
filled_right (t ∷ ts) us e = refl

filled_left : (ts us : List ParseTree) → is_filled ts ≡ true → is_filled (ts ++ us) ≡ true
filled_left [] us e = absurd (cc)
filled_left (t ∷ ts) us e = refl

filled_by : (l : ℕ) (ts : List ParseTree) → l ≤ length ts → nat_lt 0 l ≡ true → is_filled ts ≡ true
filled_by l [] h e = let low : 0 < l = ltb-true 0 l e in absurd (omega (arith, h, low))
filled_by l (t ∷ ts) h e = refl

-- the trees of a sort
module _ (sort : ParseTree → Bool) where
  -- one is of the sort
  abbrev pub has_one : List ParseTree → Bool
  has_one [] = false
  has_one (t ∷ ts) = sort t || has_one ts

  -- one of the sort is not the last
  abbrev pub has_followed : List ParseTree → Bool
  has_followed [] = false
  has_followed (t ∷ ts) = (both (sort t) (is_filled ts)) || has_followed ts

  one_left : (ts us : List ParseTree) → has_one ts ≡ true → has_one (ts ++ us) ≡ true
  one_left [] us e = absurd (cc)
  one_left (t ∷ ts) us e =
      or_map (sort t) (has_one ts) (λ h. or_left (sort t) (has_one (ts ++ us)) h) (λ h. or_right (sort t) (has_one (ts ++ us)) (one_left ts us h)) e

  one_right : (ts us : List ParseTree) → has_one us ≡ true → has_one (ts ++ us) ≡ true
  one_right [] us e = e
  one_right (t ∷ ts) us e = or_right (sort t) (has_one (ts ++ us)) (one_right ts us e)

  followed_left : (ts us : List ParseTree) → has_followed ts ≡ true → has_followed (ts ++ us) ≡ true
  followed_left [] us e = absurd (cc)
  followed_left (t ∷ ts) us e =
      or_map (both (sort t) (is_filled ts)) (has_followed ts)
      (λ h. or_left (both (sort t) (is_filled (ts ++ us))) (has_followed (ts ++ us))
      (both_of (sort t) (is_filled (ts ++ us)) (both_left (sort t) (is_filled ts) h) (filled_left ts us (both_right (sort t) (is_filled ts) h))))
      (λ h. or_right (both (sort t) (is_filled (ts ++ us))) (has_followed (ts ++ us)) (followed_left ts us h)) e

  followed_right : (ts us : List ParseTree) → has_followed us ≡ true → has_followed (ts ++ us) ≡ true
  followed_right [] us e = e
  followed_right (t ∷ ts) us e = or_right (both (sort t) (is_filled (ts ++ us))) (has_followed (ts ++ us)) (followed_right ts us e)

  followed_across : (ts us : List ParseTree) → has_one ts ≡ true → is_filled us ≡ true → has_followed (ts ++ us) ≡ true
  followed_across [] us e n = absurd (cc)
  followed_across (t ∷ ts) us e n =
      or_map (sort t) (has_one ts)
      (λ h. or_left (both (sort t) (is_filled (ts ++ us))) (has_followed (ts ++ us)) (both_of (sort t) (is_filled (ts ++ us)) h (filled_right ts us n)))
      (λ h. or_right (both (sort t) (is_filled (ts ++ us))) (has_followed (ts ++ us)) (followed_across ts us h n)) e

  -- it holds of a row
  pub record Holds (l : ℕ) (h f : Bool) (ts : List ParseTree) : Type 0 where
    pub long : l ≤ length ts
    pub one : h ≡ true → has_one ts ≡ true
    pub followed : f ≡ true → has_followed ts ≡ true

  abbrev pub HoldsOf : Sure → List ParseTree → Type 0
  HoldsOf (sure l h f) ts = Holds l h f ts

  abbrev pub HoldsOfAll : Sure → Outcome → Type 0
  HoldsOfAll s (Outcome.ends to trees) = HoldsOf s trees
  HoldsOfAll s (Outcome.stuck at) = Unit {0}
  HoldsOfAll s (Outcome.deep at) = Unit {0}

  nothing_holds : (a : Outcome) → HoldsOfAll nothing_sure a
  nothing_holds (Outcome.ends to trees) = record { long = omega arith; one = λ e. absurd (cc); followed = λ e. absurd (cc) }
  nothing_holds (Outcome.stuck at) = tt
  nothing_holds (Outcome.deep at) = tt

  turn_holds : (s r : Sure) (ts us : List ParseTree) → HoldsOf s ts → HoldsOf r us → HoldsOf (in_turn s r) (ts ++ us)
  turn_holds (sure l h f) (sure m i e) ts us a b = record {
    long = let x = a.long in let y = b.long in omega (arith, x, y, length-append ts us);
    one = or_map h i (λ z. one_left ts us (a.one z)) (λ z. one_right ts us (b.one z));
    followed = or_map (both h (nat_lt 0 m)) (f || e)
        (λ z. followed_across ts us (a.one (both_left h (nat_lt 0 m) z)) (filled_by m us b.long (both_right h (nat_lt 0 m) z)))
        (or_map f e (λ z. followed_left ts us (a.followed z)) (λ z. followed_right ts us (b.followed z)));
  }

  left_holds : (s r : Sure) (ts : List ParseTree) → HoldsOf s ts → HoldsOf (either s r) ts
  left_holds (sure l h f) (sure m i e) ts a = record {
    long = let x = a.long in let y = lesser_left l m in omega (arith, x, y);
    one = λ z. a.one (both_left h i z);
    followed = λ z. a.followed (both_left f e z);
  }

  right_holds : (s r : Sure) (ts : List ParseTree) → HoldsOf r ts → HoldsOf (either s r) ts
  right_holds (sure l h f) (sure m i e) ts a = record {
    long = let x = a.long in let y = lesser_right l m in omega (arith, x, y);
    one = λ z. a.one (both_right h i z);
    followed = λ z. a.followed (both_right f e z);
  }

  then_holds : (s r : Sure) (trees : List ParseTree) (a : Outcome) → HoldsOf s trees → HoldsOfAll r a → HoldsOfAll (in_turn s r) (before trees a)
  then_holds s r trees (Outcome.ends to more) h k = turn_holds s r trees more h k
  then_holds s r trees (Outcome.stuck at) h k = tt
  then_holds s r trees (Outcome.deep at) h k = tt

  stop_holds : (s : Sure) (a : Outcome) → Stops a → HoldsOfAll s a
  stop_holds s (Outcome.ends to trees) h = absurd h
  stop_holds s (Outcome.stuck at) h = tt
  stop_holds s (Outcome.deep at) h = tt

  -- of one branch, so of any
  branch_holds : (one : ℕ → Sure) (qs : List ℕ) (q : ℕ) → IsIn q qs → (ts : List ParseTree) → HoldsOf (one q) ts → HoldsOf (any_of one qs) ts
  branch_holds one [] q i ts h = absurd i
  branch_holds one (x ∷ xs) q i ts h =
      ⊎_elim (λ same. left_holds (one x) (any_of one xs) ts (subst (λ (n : ℕ). HoldsOf (one n) ts) same h))
      (λ later. right_holds (one x) (any_of one xs) ts (branch_holds one xs q later ts h)) i

  chosen_holds : (one : ℕ → Sure) (qs : List ℕ) (q : ℕ) → IsIn q qs → (a : Outcome) → HoldsOfAll (one q) a → HoldsOfAll (any_of one qs) a
  chosen_holds one qs q i (Outcome.ends to trees) h = branch_holds one qs q i trees h
  chosen_holds one qs q i (Outcome.stuck at) h = tt
  chosen_holds one qs q i (Outcome.deep at) h = tt

  -- of a tree of the sort or not
  abbrev pub sure_of : ParseTree → Sure
  sure_of t = sure 1 (sort t) false

  alone_holds : (s t : ParseTree) → sort s ≡ sort t → HoldsOf (sure_of s) (t ∷ [])
  alone_holds s t same = record { long = omega arith; one = λ e. or_left (sort t) false (sym same ∙ e); followed = λ e. absurd (cc) }

  module _ (g : Table) where
    -- where `one` says it of others
    abbrev pub sure_prod : (ℕ → Sure) → Option Prod → Sure
    sure_prod one None = nothing_sure
    sure_prod one (Some (Tok k)) = sure_of (leaf k 0)
    sure_prod one (Some (Call r)) = sure_of (node r Row.none)
    sure_prod one (Some (Seq ps)) = all_in_turn one ps
    sure_prod one (Some (Case bs other)) = any_of one (choices bs other)
    sure_prod one (Some (Star firsts q)) = nothing_sure

    -- of a production, with at most so many others inside each other
    abbrev pub sure_at : ℕ → ℕ → Sure
    sure_at zero p = nothing_sure
    sure_at (suc n) p = sure_prod (λ q. sure_at n q) (slice_get g.prods p)

    module _ (of_token : (k at : ℕ) → sort (leaf k 0) ≡ sort (leaf k at)) (of_rule : (r : ℕ) (row : Row)
        → sort (node r Row.none) ≡ sort (node r row)) (ks : List ℕ) where
      below_holds : (r : ℕ) (a : Outcome) → HoldsOfAll (sure_of (node r Row.none)) (below_rule r a)
      below_holds r (Outcome.ends to trees) = alone_holds (node r Row.none) (node r (row_of trees)) (of_rule r (row_of trees))
      below_holds r (Outcome.stuck at) = tt
      below_holds r (Outcome.deep at) = tt

      module _ (one : ℕ → Sure) (sound : (q level at : ℕ) (a : Outcome) → Gives g ks q level at a → HoldsOfAll (one q) a) where
        all_sound : (ps : List ℕ) (level at : ℕ) (a : Outcome) → GivesAll g ks ps level at a → HoldsOfAll (all_in_turn one ps) a
        all_sound _ _ _ _ (GivesAll.all_done level at) = nothing_holds (Outcome.ends at [])
        all_sound _ _ _ _ (GivesAll.then p ps level at to trees a of all) =
            then_holds (one p) (all_in_turn one ps) trees a (sound p level at (Outcome.ends to trees) of) (all_sound ps level to a all)
        all_sound _ _ _ _ (GivesAll.stop p ps level at a of s) = stop_holds (all_in_turn one (p ∷ ps)) a s

        prod_sound : (x : Prod) (level at : ℕ) (a : Outcome) → GivesProd g ks x level at a → HoldsOfAll (sure_prod one (Some x)) a
        prod_sound _ _ _ _ (GivesProd.token k level at e) = alone_holds (leaf k 0) (leaf k at) (of_token k at)
        prod_sound _ _ _ _ (GivesProd.no_token k level at e) = tt
        prod_sound _ _ _ _ (GivesProd.rule r rule level inner at a e f of) = below_holds r a
        prod_sound _ _ _ _ (GivesProd.too_deep r rule level at e f) = tt
        prod_sound _ _ _ _ (GivesProd.parts ps level at a all) = all_sound ps level at a all
        prod_sound _ _ _ _ (GivesProd.branch bs other q level at a e of) =
            chosen_holds one (choices bs other) q (branch_in ks at q bs other e) a (sound q level at a of)
        prod_sound _ _ _ _ (GivesProd.no_branch bs other level at e) = tt
        prod_sound _ _ _ _ (GivesProd.times firsts q level at a all) = nothing_holds a

        here_sound : (p level at : ℕ) (a : Outcome) → Gives g ks p level at a → HoldsOfAll (sure_prod one (slice_get g.prods p)) a
        here_sound _ _ _ _ (Gives.production p level at x a e of) =
            subst (λ (o : Option Prod). HoldsOfAll (sure_prod one o) a) (sym e) (prod_sound x level at a of)

      pub sure_sound : (n p level at : ℕ) (a : Outcome) → Gives g ks p level at a → HoldsOfAll (sure_at n p) a
      sure_sound zero p level at a of = nothing_holds a
      sure_sound (suc n) p level at a of = here_sound (λ q. sure_at n q) (λ q. sure_sound n q) p level at a of
