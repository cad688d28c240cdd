-- What the relation gives is what is computed, whatever the trees and the steps before, unless the bound is spent.
use Rattle.std.proofs.Common.{◌≡◌, ℕ, ◌+◌, ◌-◌, Bool, true, false, cond, nat_lt, List, [], ◌∷◌, ◌++◌, length, Some, None, zero, suc, refl, sym, ap, subst, ⊎_elim, inl, inr, ◌⊎◌, append_assoc, append-nil, take, drop}
use Rattle.grammar_core.specs.declared.table.Table.{Table}
use Rattle.grammar_core.specs.declared.table.Prod.{Prod}
use Rattle.grammar_core.specs.Trees.{ParseTree, node, row_of}
use Rattle.grammar_core.specs.Arena.{closed}
use Rattle.grammar_core.specs.Derives.{Outcome, Stops, before, below_rule, max_level, Gives, GivesProd, GivesAll, GivesTimes}
use Rattle.grammar_core.specs.Answers.{Answer, Reading, then_at, in_turn, again, close, of_production, answer, outcome_of}

-- the bound was spent, or this outcome
abbrev pub Agrees : Answer → Outcome → Type 0
Agrees a b = (outcome_of a ≡ None) ⊎ (outcome_of a ≡ Some b)

then_none : (a : Answer) (next : Reading) → outcome_of a ≡ None → outcome_of (then_at a next) ≡ None
then_none (Answer.ends to done n) next h = (cc)
then_none (Answer.stuck at n) next h = (cc)
then_none (Answer.deep at n) next h = (cc)
then_none (Answer.spent n) next h = refl

pub then_some : (a : Answer) (next : Reading) (to : ℕ) (done : List ParseTree) (P : Answer → Type 0) → outcome_of a ≡ Some (Outcome.ends to done) → ((n : ℕ)
    → P (next to done n)) → P (then_at a next)
then_some (Answer.ends to' done' n) next to done P h k =
    let e : to ≡ to' = cc in
    let f : done ≡ done' = cc in
    subst (λ (x : ℕ). P (next x done' n)) e (subst (λ (l : List ParseTree). P (next to l n)) f (k n))
then_some (Answer.stuck at n) next to done P h k = (cc)
then_some (Answer.deep at n) next to done P h k = (cc)
then_some (Answer.spent n) next to done P h k = (cc)

then_ends : (a : Answer) (next : Reading) (to : ℕ) (done : List ParseTree) (z : Outcome) → Agrees a (Outcome.ends to done) → ((n : ℕ)
    → Agrees (next to done n) z) → Agrees (then_at a next) z
then_ends a next to done z h k = ⊎_elim (λ e. inl (then_none a next e)) (λ e. then_some a next to done (λ b. Agrees b z) e k) h

pub stop_some : (a : Answer) (next : Reading) (b : Outcome) → Stops b → outcome_of a ≡ Some b → outcome_of (then_at a next) ≡ Some b
stop_some (Answer.ends to done n) next b s h = let e : Outcome.ends to done ≡ b = cc in absurd (subst (λ (x : Outcome). Stops x) (sym e) s)
stop_some (Answer.stuck at n) next b s h = h
stop_some (Answer.deep at n) next b s h = h
stop_some (Answer.spent n) next b s h = h

then_stops : (a : Answer) (next : Reading) (b : Outcome) → Stops b → Agrees a b → Agrees (then_at a next) b
then_stops a next b s h = ⊎_elim (λ e. inl (then_none a next e)) (λ e. inr (stop_some a next b s e)) h

pub before_before : (xs ys : List ParseTree) (a : Outcome) → before (xs ++ ys) a ≡ before xs (before ys a)
before_before xs ys (Outcome.ends to more) = ap (λ (l : List ParseTree). Outcome.ends to l) (append_assoc xs ys more)
before_before xs ys (Outcome.stuck at) = refl
before_before xs ys (Outcome.deep at) = refl

pub before_stop : (xs : List ParseTree) (a : Outcome) → Stops a → before xs a ≡ a
before_stop xs (Outcome.ends to more) s = absurd s
before_stop xs (Outcome.stuck at) s = refl
before_stop xs (Outcome.deep at) s = refl

pub take_first : (xs ys : List ParseTree) → take (length xs) (xs ++ ys) ≡ xs
take_first [] ys = refl
take_first (x ∷ xs) ys = ap (λ (l : List ParseTree). x ∷ l) (take_first xs ys)

pub drop_first : (xs ys : List ParseTree) → drop (length xs) (xs ++ ys) ≡ ys
drop_first [] ys = refl
drop_first (x ∷ xs) ys = drop_first xs ys

closed_behind : (r : ℕ) (done trees : List ParseTree) → closed r (length done) (done ++ trees) ≡ done ++ (node r (row_of trees) ∷ [])
closed_behind r done trees = rw (take_first done trees, drop_first done trees) refl

pub closed_some : (r : ℕ) (done : List ParseTree) (b : Answer) (a : Outcome) → outcome_of b ≡ Some (before done a)
    → outcome_of (close r done b) ≡ Some (before done (below_rule r a))
closed_some r done (Answer.ends to l n) (Outcome.ends x trees) h =
    let e : to ≡ x = cc in
    let f : l ≡ done ++ trees = cc in
    rw (e, f, closed_behind r done trees) refl
closed_some r done (Answer.ends to l n) (Outcome.stuck x) h = (cc)
closed_some r done (Answer.ends to l n) (Outcome.deep x) h = (cc)
closed_some r done (Answer.stuck at n) (Outcome.ends x trees) h = (cc)
closed_some r done (Answer.stuck at n) (Outcome.stuck x) h = h
closed_some r done (Answer.stuck at n) (Outcome.deep x) h = (cc)
closed_some r done (Answer.deep at n) (Outcome.ends x trees) h = (cc)
closed_some r done (Answer.deep at n) (Outcome.stuck x) h = (cc)
closed_some r done (Answer.deep at n) (Outcome.deep x) h = h
closed_some r done (Answer.spent n) a h = (cc)

closed_none : (r : ℕ) (done : List ParseTree) (b : Answer) → outcome_of b ≡ None → outcome_of (close r done b) ≡ None
closed_none r done (Answer.ends to l n) h = (cc)
closed_none r done (Answer.stuck at n) h = (cc)
closed_none r done (Answer.deep at n) h = (cc)
closed_none r done (Answer.spent n) h = refl

closed_agrees : (r : ℕ) (done : List ParseTree) (b : Answer) (a : Outcome) → Agrees b (before done a) → Agrees (close r done b) (before done (below_rule r a))
closed_agrees r done b a h = ⊎_elim (λ e. inl (closed_none r done b e)) (λ e. inr (closed_some r done b a e)) h

-- the two forms of a rule's level
pub at_level : (n v : Bool) (level inner : ℕ) → cond n (cond v (Some (level + 1)) None) (Some level) ≡ Some inner → (f : ℕ → Answer) (other : Answer)
    → cond n (cond v (f (level + 1)) other) (f level) ≡ f inner
at_level true true level inner e f other = let i : level + 1 ≡ inner = cc in ap f i
at_level true false level inner e f other = (cc)
at_level false v level inner e f other = let i : level ≡ inner = cc in ap f i

pub at_no_level : (n v : Bool) (level : ℕ) → cond n (cond v (Some (level + 1)) None) (Some level) ≡ None → (f : ℕ → Answer) (other : Answer)
    → cond n (cond v (f (level + 1)) other) (f level) ≡ other
at_no_level true true level e f other = (cc)
at_no_level true false level e f other = refl
at_no_level false v level e f other = (cc)

module _ (g : Table) (ks : List ℕ) where
  mutual
    pub complete : (p level at : ℕ) (a : Outcome) → Gives g ks p level at a → (h : ℕ) (done : List ParseTree) (n : ℕ)
        → Agrees (answer g ks h p level at done n) (before done a)
    complete _ _ _ _ (Gives.production p level at x a e of) zero done n = inl refl
    complete _ _ _ _ (Gives.production p level at x a e of) (suc h) done n = rw e (complete_of x level at a of h done (suc n))

    pub complete_of : (x : Prod) (level at : ℕ) (a : Outcome) → GivesProd g ks x level at a → (h : ℕ) (done : List ParseTree) (n : ℕ)
        → Agrees (of_production g ks (λ q l from so_far m. answer g ks h q l from so_far m) level (Some x) at done n) (before done a)
    complete_of _ _ _ _ (GivesProd.token k level at e) h done n = rw e (inr refl)
    complete_of _ _ _ _ (GivesProd.no_token k level at e) h done n = rw e (inr refl)
    complete_of _ _ _ _ (GivesProd.parts ps level at a all) h done n = complete_all ps level at a all h done n
    complete_of _ _ _ _ (GivesProd.branch bs other q level at a e of) h done n = rw e (complete q level at a of h done n)
    complete_of _ _ _ _ (GivesProd.no_branch bs other level at e) h done n = rw e (inr refl)
    complete_of _ _ _ _ (GivesProd.times firsts q level at a all) h done n = complete_times firsts q level at a all h (suc (length ks - at)) done n
    complete_of _ _ _ _ (GivesProd.rule r rule level inner at a e f of) h done n =
        rw e (subst (λ (z : Answer). Agrees z (before done (below_rule r a))) (sym (at_level rule.nests (nat_lt level max_level) level inner f
        (λ l. close r done (answer g ks h rule.to l at done n)) (Answer.deep at n))) (closed_agrees r done (answer g ks h rule.to inner at done n) a
        (complete rule.to inner at a of h done n)))
    complete_of _ _ _ _ (GivesProd.too_deep r rule level at e f) h done n =
        rw e (inr (ap (λ (z : Answer). outcome_of z) (at_no_level rule.nests (nat_lt level max_level) level f (λ l. close r done
        (answer g ks h rule.to l at done n)) (Answer.deep at n))))

    complete_all : (ps : List ℕ) (level at : ℕ) (a : Outcome) → GivesAll g ks ps level at a → (h : ℕ) (done : List ParseTree) (n : ℕ)
        → Agrees (in_turn (λ q. answer g ks h q level) ps at done n) (before done a)
    complete_all _ _ _ _ (GivesAll.all_done level at) h done n = inr (ap (λ (l : List ParseTree). Some (Outcome.ends at l)) (sym (append-nil done)))
    complete_all _ _ _ _ (GivesAll.then p ps level at to trees b of all) h done n =
        then_ends (answer g ks h p level at done n) (λ to more m. in_turn (λ q. answer g ks h q level) ps to more m) to (done
        ++ trees) (before done (before trees b)) (complete p level at (Outcome.ends to trees) of h done n) (λ m. subst (λ (z : Outcome). Agrees (in_turn
        (λ q. answer g ks h q level) ps to (done ++ trees) m) z) (before_before done trees b) (complete_all ps level to b all h (done ++ trees) m))
    complete_all _ _ _ _ (GivesAll.stop p ps level at a of s) h done n =
        subst (λ (z : Outcome). Agrees (then_at (answer g ks h p level at done n) (λ to more m. in_turn (λ q. answer g ks h q level) ps to more m)) z) (sym
        (before_stop done a s))
        (then_stops (answer g ks h p level at done n) (λ to more m. in_turn (λ q. answer g ks h q level) ps to more m) a s (subst (λ (z : Outcome). Agrees
        (answer g ks h p level at done n) z) (before_stop done a s) (complete p level at a of h done n)))

    complete_times : (firsts : List ℕ) (q level at : ℕ) (a : Outcome) → GivesTimes g ks firsts q level at a → (h k : ℕ) (done : List ParseTree) (n : ℕ)
        → Agrees (again ks firsts (λ from so_far m. answer g ks h q level from so_far m) k at done n) (before done a)
    complete_times _ _ _ _ _ (GivesTimes.no_more firsts q level at e) h zero done n = inl refl
    complete_times _ _ _ _ _ (GivesTimes.once_more firsts q level at to trees b e of all) h zero done n = inl refl
    complete_times _ _ _ _ _ (GivesTimes.stop_in firsts q level at a e of s) h zero done n = inl refl
    complete_times _ _ _ _ _ (GivesTimes.no_more firsts q level at e) h (suc k) done n = rw e (inr (ap (λ (l : List ParseTree). Some (Outcome.ends at l)) (sym
        (append-nil done))))
    complete_times _ _ _ _ _ (GivesTimes.once_more firsts q level at to trees b e of all) h (suc k) done n =
        rw e (then_ends (answer g ks h q level at done n) (λ to more m. again ks firsts (λ from so_far i. answer g ks h q level from so_far i) k to more
        (suc m)) to (done ++ trees) (before done (before trees b)) (complete q level at (Outcome.ends to trees) of h done n) (λ m. subst (λ
        (z : Outcome). Agrees (again ks firsts (λ from so_far i. answer g ks h q level from so_far i) k to (done
        ++ trees) (suc m)) z) (before_before done trees b) (complete_times firsts q level to b all h k (done ++ trees) (suc m))))
    complete_times _ _ _ _ _ (GivesTimes.stop_in firsts q level at a e of s) h (suc k) done n =
        rw e (subst (λ (z : Outcome). Agrees (then_at (answer g ks h q level at done n) (λ to more m. again ks firsts
        (λ from so_far i. answer g ks h q level from so_far i) k to more (suc m))) z) (sym (before_stop done a s))
        (then_stops (answer g ks h q level at done n) (λ to more m. again ks firsts (λ from so_far i. answer g ks h q level from so_far i) k to more
        (suc m)) a s (subst (λ (z : Outcome). Agrees (answer g ks h q level at done n) z) (before_stop done a s) (complete q level at a of h done n))))
