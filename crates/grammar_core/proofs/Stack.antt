-- The stack of tasks: what a step leaves to be done.
use Rattle.std.proofs.Common.{◌≡◌, ℕ, ◌+◌, ◌-◌, ◌<◌, Bool, true, false, cond, List, [], ◌∷◌, ◌++◌, length, reverse, Option, Some, None, slice_get, nat_lt, Err, suc, refl, sym, ap, ◌∙◌, arith, subst, append_assoc, append-nil}
use Rattle.std.proofs.lemmas.List.{reverse-append}
use Rattle.std.proofs.lemmas.Option.{slice_get_within}
use Rattle.grammar_core.specs.declared.table.Table.{Table}
use Rattle.grammar_core.specs.declared.table.Prod.{Prod}
use Rattle.grammar_core.specs.declared.table.Prod.TheVariants.{Tok, Call, Seq, Case, Star}
use Rattle.grammar_core.specs.declared.table.Branch.{Branch}
use Rattle.grammar_core.specs.declared.table.Rule.{Rule}
use Rattle.grammar_core.specs.declared.machine.Task.{Task}
use Rattle.grammar_core.specs.declared.machine.Task.TheVariants.{Read, Close, Repeat}
use Rattle.grammar_core.specs.declared.fault.ParseFault.{ParseFault}
use Rattle.grammar_core.specs.declared.fault.ParseFault.TheVariants.{Memory, Stuck, Deep}
use Rattle.grammar_core.specs.Tables.{rule_at}
use Rattle.grammar_core.specs.Trees.{ParseTree}
use Rattle.grammar_core.specs.Empty.{MayBeEmpty}
use Rattle.grammar_core.specs.Unfit.{IsFit}
use Rattle.grammar_core.specs.Derives.{Outcome, begins, branch_of, max_level, level_in}
use Rattle.grammar_core.specs.Answers.{Answer, Reading, then_at, in_turn, again, close, of_production, whole, outcome_of}
use Rattle.grammar_core.specs.declared.repeated.Parts.{Parts}
use Rattle.grammar_core.specs.Repetitions.{is_star, parts_in, repeated_parts, two_parts}
use Rattle.grammar_core.specs.Arena.{closed}
use Rattle.grammar_core.specs.Tasks.{task, tasks_from, tasks, reads, IsStar, tasks_by_parts, rule_tasks, IsTask, AreTasks, Counted, steps_of, Meets}
use Rattle.grammar_core.proofs.Fits.{IsBelow, AllBelow, OtherBelow, branch_below, fits, rule_there}
use Rattle.grammar_core.proofs.Same.{then_same, unroll}
use Rattle.grammar_core.proofs.Complete.{at_level, at_no_level, stop_some}
use Rattle.grammar_core.proofs.Star.{star_more}
use Rattle.grammar_core.proofs.Shift.{outcome_of-counted, steps_of-counted}

pub last_read : (level p : ℕ) (ps : List ℕ) (ts : List Task) → ts ++ reverse (reads level (p ∷ ps)) ≡ (ts ++ reverse (reads level ps)) ++ (Read p level ∷ [])
last_read level p ps ts = rw (reverse-append (Read p level ∷ []) (reads level ps)) (sym (append_assoc ts (reverse (reads level ps)) (Read p level ∷ [])))

module _ (g : Table) (ks : List ℕ) where
  from_snoc : (ts : List Task) (t : Task) (next : Reading) (at : ℕ) (done : List ParseTree) (n : ℕ) → tasks_from g ks (ts ++ (t
      ∷ [])) next at done n ≡ then_at (task g ks t at done n) (λ to more m. tasks_from g ks ts next to more m)
  from_snoc [] t next at done n = refl
  from_snoc (u ∷ us) t next at done n = from_snoc us t (λ to more m. then_at (task g ks u to more m) next) at done n

  -- the last task is the next one
  pub tasks-snoc : (ts : List Task) (t : Task) (at : ℕ) (done : List ParseTree) (n : ℕ) → tasks g ks (ts ++ (t
      ∷ [])) at done n ≡ then_at (task g ks t at done n) (λ to more m. tasks g ks ts to more m)
  unfolding tasks
  tasks-snoc ts t at done n = from_snoc ts t (λ to more m. Answer.ends to more m) at done n

  pub tasks-all : (level : ℕ) (ps : List ℕ) (ts : List Task) (at : ℕ) (done : List ParseTree) (n : ℕ) → tasks g ks (ts
      ++ reverse (reads level ps)) at done n ≡ then_at (in_turn (λ q. whole g ks q level) ps at done n) (λ to more m. tasks g ks ts to more m)
  tasks-all level [] ts at done n = ap (λ (l : List Task). tasks g ks l at done n) (append-nil ts)
  tasks-all level (p ∷ ps) ts at done n =
      ap (λ (l : List Task). tasks g ks l at done n) (last_read level p ps ts)
      ∙ tasks-snoc (ts ++ reverse (reads level ps)) (Read p level) at done n
      ∙ by_answer (whole g ks p level at done n) (tasks-all level ps ts)
    where
      by_answer : (a : Answer) → ((to : ℕ) (more : List ParseTree) (m : ℕ) → tasks g ks (ts
          ++ reverse (reads level ps)) to more m ≡ then_at (in_turn (λ q. whole g ks q level) ps to more m) (λ x l i. tasks g ks ts x l i))
          → then_at a (λ to more m. tasks g ks (ts ++ reverse (reads level ps)) to more m) ≡ then_at (then_at a (λ to more m. in_turn
          (λ q. whole g ks q level) ps to more m)) (λ x l i. tasks g ks ts x l i)
      by_answer (Answer.ends to more m) same = same to more m
      by_answer (Answer.stuck x m) same = refl
      by_answer (Answer.deep x m) same = refl
      by_answer (Answer.spent m) same = refl

  pub tasks-none : (at : ℕ) (done : List ParseTree) (n : ℕ) → tasks g ks [] at done n ≡ Answer.ends at done n
  unfolding tasks
  tasks-none at done n = refl

  pub then_none : (a : Answer) → then_at a (λ to more m. tasks g ks [] to more m) ≡ a
  then_none (Answer.ends to more m) = tasks-none to more m
  then_none (Answer.stuck x m) = refl
  then_none (Answer.deep x m) = refl
  then_none (Answer.spent m) = refl

  pub AreTasks-snoc : (ts : List Task) (t : Task) → AreTasks g ts → IsTask g t → AreTasks g (ts ++ (t ∷ []))
  AreTasks-snoc [] t all one = (one, tt)
  AreTasks-snoc (u ∷ us) t all one = (all.0, AreTasks-snoc us t all.1 one)

  pub AreTasks-last : (ts : List Task) (t : Task) → AreTasks g (ts ++ (t ∷ [])) → AreTasks g ts × IsTask g t
  AreTasks-last [] t all = (tt, all.0)
  AreTasks-last (u ∷ us) t all = let r = AreTasks-last us t all.1 in ((all.0, r.0), r.1)

  AreTasks-all : (p level : ℕ) (ps : List ℕ) (ts : List Task) → AllBelow g p ps → AreTasks g ts → AreTasks g (ts ++ reverse (reads level ps))
  AreTasks-all p level [] ts b all = rw (append-nil ts) all
  AreTasks-all p level (q ∷ qs) ts b all = rw (last_read level q qs ts) (AreTasks-snoc (ts
      ++ reverse (reads level qs)) (Read q level) (AreTasks-all p level qs ts b.1 all) b.0.inside)

  -- a rule: its trees are put below it when its production has ended
  pub tasks-rule : (ts : List Task) (r q level at : ℕ) (done : List ParseTree) (n : ℕ) → tasks g ks ((ts ++ (Close r (length done) ∷ [])) ++ (Read q level
      ∷ [])) at done n ≡ then_at (close r done (whole g ks q level at done n)) (λ to more m. tasks g ks ts to more m)
  tasks-rule ts r q level at done n = tasks-snoc (ts ++ (Close r (length done) ∷ [])) (Read q level) at done n ∙ by_answer (whole g ks q level at done n)
    where
      by_answer : (a : Answer) → then_at a (λ to more m. tasks g ks (ts ++ (Close r (length done)
          ∷ [])) to more m) ≡ then_at (close r done a) (λ to more m. tasks g ks ts to more m)
      by_answer (Answer.ends to more m) = tasks-snoc ts (Close r (length done)) to more m
      by_answer (Answer.stuck x m) = refl
      by_answer (Answer.deep x m) = refl
      by_answer (Answer.spent m) = refl

  -- a repetition and the end of its rule, in one task
  pub tasks-repeat : (ts : List Task) (p level r start at : ℕ) (done : List ParseTree) (n : ℕ) → tasks g ks (ts ++ (Repeat p level r start
      ∷ [])) at done n ≡ tasks g ks ((ts ++ (Close r start ∷ [])) ++ (Read p level ∷ [])) at done n
  tasks-repeat ts p level r start at done n =
      tasks-snoc ts (Repeat p level r start) at done n
      ∙ by_answer (whole g ks p level at done n)
      ∙ sym (tasks-snoc (ts ++ (Close r start ∷ [])) (Read p level) at done n)
    where
      by_answer : (a : Answer) → then_at (then_at a (λ to more m. Answer.ends to (closed r start more) (suc m))) (λ x l i. tasks g ks ts x l i) ≡ then_at a
          (λ to more m. tasks g ks (ts ++ (Close r start ∷ [])) to more m)
      by_answer (Answer.ends to more m) = sym (tasks-snoc ts (Close r start) to more m)
      by_answer (Answer.stuck x m) = refl
      by_answer (Answer.deep x m) = refl
      by_answer (Answer.spent m) = refl

  -- the same, below another task
  pub tasks-repeat_below : (ts : List Task) (t : Task) (p level r start at : ℕ) (done : List ParseTree) (n : ℕ) → tasks g ks ((ts ++ (Repeat p level r start
      ∷ [])) ++ (t ∷ [])) at done n ≡ tasks g ks (((ts ++ (Close r start ∷ [])) ++ (Read p level ∷ [])) ++ (t ∷ [])) at done n
  tasks-repeat_below ts t p level r start at done n =
      tasks-snoc (ts ++ (Repeat p level r start ∷ [])) t at done n
      ∙ then_same (task g ks t at done n) (λ to more m. tasks g ks (ts ++ (Repeat p level r start ∷ [])) to more m) (λ to more m. tasks g ks ((ts ++ (Close r start
      ∷ [])) ++ (Read p level ∷ [])) to more m) (tasks-repeat ts p level r start)
      ∙ sym (tasks-snoc ((ts ++ (Close r start ∷ [])) ++ (Read p level ∷ [])) t at done n)

  module _ (fit : IsFit g) where
    pub tasks-star : (ts : List Task) (p q level : ℕ) (firsts : List ℕ) (at : ℕ) (done : List ParseTree) (n : ℕ) → slice_get g.prods p ≡ Some (Star firsts q)
        → p < length g.prods → (MayBeEmpty g q → ⊥) → begins ks at firsts ≡ true
        → tasks g ks ((ts ++ (Read p level ∷ [])) ++ (Read q level ∷ [])) at done n ≡ then_at (again ks firsts (whole g ks q level) (suc
        (length ks - at)) at done n) (λ to more m. tasks g ks ts to more m)
    tasks-star ts p q level firsts at done n is inside never b = tasks-snoc (ts ++ (Read p level ∷ [])) (Read q level) at done n
        ∙ by_answer (whole g ks q level at done n) refl
      where
        by_answer : (a : Answer) → whole g ks q level at done n ≡ a → then_at a (λ to more m. tasks g ks (ts ++ (Read p level
            ∷ [])) to more m) ≡ then_at (again ks firsts (whole g ks q level) (suc (length ks - at)) at done n) (λ to more m. tasks g ks ts to more m)
        by_answer (Answer.ends to more m) e =
            tasks-snoc ts (Read p level) to more m
            ∙ ap (λ (a : Answer). then_at a (λ x l i. tasks g ks ts x l i)) (unroll g fit ks p level to more m inside
            ∙ ap (λ (x : Option Prod). of_production g ks (whole g ks) level x to more (suc m)) is
            ∙ star_more g ks firsts q level never at to done more n m b e)
        by_answer (Answer.stuck x m) e = rw (b, e) refl
        by_answer (Answer.deep x m) e = rw (b, e) refl
        by_answer (Answer.spent m) e = rw (b, e) refl

other_inside : (g : Table) (p q : ℕ) (o : Option ℕ) → o ≡ Some q → OtherBelow g p o → q < length g.prods
other_inside g p q o e b = let c : IsBelow g p q = subst (λ (x : Option ℕ). OtherBelow g p x) e b in c.inside

-- a rule's two tasks
pub did_call : (g : Table) (ks : List ℕ) (old new : List Task) (level at : ℕ) (done : List ParseTree) (n r : ℕ) (rule : Rule) (inner : ℕ)
    → rule_at g r ≡ Some rule → level_in rule level ≡ Some inner → new ≡ (old ++ (Close r (length done) ∷ [])) ++ (Read rule.to inner ∷ [])
    → tasks g ks new at done n ≡ then_at (of_production g ks (whole g ks) level (Some (Call r)) at done n) (λ to more m. tasks g ks old to more m)
did_call g ks old new level at done n r rule inner is l e =
    let same = at_level rule.nests (nat_lt level max_level) level inner l (λ y. close r done (whole g ks rule.to y at done n)) (Answer.deep at n) in
    rw (e, is) (tasks-rule g ks old r rule.to inner at done n ∙ ap (λ (a : Answer). then_at a (λ to more m. tasks g ks old to more m)) (sym same))

-- the parts of a production are told only where it has them
pub record HasParts (g : Table) (p : ℕ) (parts : Parts) : Type 0 where
  pub is : slice_get g.prods p ≡ Some (Seq (parts.first ∷ (parts.repeated ∷ [])))
  pub star : IsStar g parts.repeated

two_found : (g : Table) (p : ℕ) (ps : List ℕ) (parts : Parts) → slice_get g.prods p ≡ Some (Seq ps) → two_parts g ps ≡ Some parts → HasParts g p parts
two_found g p [] parts is e = (cc)
two_found g p (x ∷ []) parts is e = (cc)
two_found g p (x ∷ (y ∷ [])) parts is e = by_star (is_star (slice_get g.prods y)) refl e
  where
    by_star : (v : Bool) → is_star (slice_get g.prods y) ≡ v → cond v (Some (record { first = x; repeated = y })) None ≡ Some parts → HasParts g p parts
    by_star true s e = let same : record { first = x; repeated = y } ≡ parts = cc in subst (λ (z : Parts). HasParts g p z) same (record { is = is; star = s })
    by_star false s e = (cc)
two_found g p (x ∷ (y ∷ (z ∷ more))) parts is e = (cc)

parts_found : (g : Table) (p : ℕ) (x : Option Prod) (parts : Parts) → slice_get g.prods p ≡ x → parts_in g x ≡ Some parts → HasParts g p parts
parts_found g p None parts is e = (cc)
parts_found g p (Some (Tok k)) parts is e = (cc)
parts_found g p (Some (Call r)) parts is e = (cc)
parts_found g p (Some (Seq ps)) parts is e = two_found g p ps parts is e
parts_found g p (Some (Case bs other)) parts is e = (cc)
parts_found g p (Some (Star firsts q)) parts is e = (cc)

-- one part and a repetition: two steps in one
pub tasks-parts : (g : Table) (fit : IsFit g) (ks : List ℕ) (old : List Task) (r p level start at : ℕ) (done : List ParseTree) (n : ℕ) (parts : Parts)
    → p < length g.prods → HasParts g p parts → tasks g ks ((old ++ (Repeat parts.repeated level r start ∷ [])) ++ (Read parts.first level
    ∷ [])) at done (suc n) ≡ tasks g ks ((old ++ (Close r start ∷ [])) ++ (Read p level ∷ [])) at done n
tasks-parts g fit ks old r p level start at done n parts inside h =
    let base : List Task = old ++ (Close r start ∷ []) in
    let ps : List ℕ = parts.first ∷ (parts.repeated ∷ []) in
    tasks-repeat_below g ks old (Read parts.first level) parts.repeated level r start at done (suc n)
    ∙ ap (λ (l : List Task). tasks g ks l at done (suc n)) (append_assoc base (Read parts.repeated level ∷ []) (Read parts.first level ∷ []))
    ∙ tasks-all g ks level ps base at done (suc n)
    ∙ ap (λ (x : Option Prod). then_at (of_production g ks (whole g ks) level x at done (suc n)) (λ to more m. tasks g ks base to more m)) (sym h.is)
    ∙ ap (λ (a : Answer). then_at a (λ to more m. tasks g ks base to more m)) (sym (unroll g fit ks p level at done n inside))
    ∙ sym (tasks-snoc g ks base (Read p level) at done n)

did_parts : (g : Table) (fit : IsFit g) (ks : List ℕ) (old : List Task) (r : ℕ) (rule : Rule) (inner level at : ℕ) (done : List ParseTree)
    → rule_at g r ≡ Some rule → level_in rule level ≡ Some inner → rule.to < length g.prods → AreTasks g old → (o : Option Parts) → repeated_parts g rule.to ≡ o
    → Counted g ks (old ++ tasks_by_parts o r rule.to inner (length done)) at done (then_at (of_production g ks (whole g ks) level (Some (Call r)) at done 1)
    (λ to more m. tasks g ks old to more m)) × AreTasks g (old ++ tasks_by_parts o r rule.to inner (length done))
did_parts g fit ks old r rule inner level at done i l inside all None e =
    let same : old ++ (Close r (length done) ∷ (Read rule.to inner ∷ [])) ≡ (old ++ (Close r (length done) ∷ [])) ++ (Read rule.to inner
    ∷ []) = sym (append_assoc old (Close r (length done) ∷ []) (Read rule.to inner ∷ [])) in
    rw same (
      record { more = 0; same = did_call g ks old ((old ++ (Close r (length done) ∷ [])) ++ (Read rule.to inner ∷ [])) level at done 1 r rule inner i l refl },
      AreTasks-snoc g ks (old ++ (Close r (length done) ∷ [])) (Read rule.to inner) (AreTasks-snoc g ks old (Close r (length done)) all tt) inside,
    )
did_parts g fit ks old r rule inner level at done i l inside all (Some parts) e =
    let h = parts_found g rule.to (slice_get g.prods rule.to) parts refl e in
    let f = fits g fit rule.to (Seq (parts.first ∷ (parts.repeated ∷ []))) h.is in
    let same : old ++ (Repeat parts.repeated inner r (length done) ∷ (Read parts.first inner ∷ [])) ≡ (old ++ (Repeat parts.repeated inner r (length done)
    ∷ [])) ++ (Read parts.first inner ∷ []) = sym (append_assoc old (Repeat parts.repeated inner r (length done) ∷ []) (Read parts.first inner ∷ [])) in
    rw same (
      record {
        more = 1;
        same = tasks-parts g fit ks old r rule.to inner (length done) at done 1 parts inside h
            ∙ did_call g ks old ((old ++ (Close r (length done) ∷ [])) ++ (Read rule.to inner ∷ [])) level at done 1 r rule inner i l refl;
      },
      AreTasks-snoc g ks (old ++ (Repeat parts.repeated inner r (length done) ∷ [])) (Read parts.first inner) (AreTasks-snoc g ks old
          (Repeat parts.repeated inner r (length done)) all h.star) f.0.inside,
    )

-- a repetition at the end of its rule that goes on, and one that does not
pub repeat_goes_on : (g : Table) (fit : IsFit g) (ks : List ℕ) (old new : List Task) (p level r start at : ℕ) (done : List ParseTree) (firsts : List ℕ) (q : ℕ)
    → slice_get g.prods p ≡ Some (Star firsts q) → AreTasks g old → begins ks at firsts ≡ true → new ≡ (old ++ (Repeat p level r start ∷ [])) ++ (Read q level
    ∷ []) → Counted g ks new at done (then_at (task g ks (Repeat p level r start) at done 0) (λ to more m. tasks g ks old to more m)) × AreTasks g new
repeat_goes_on g fit ks old new p level r start at done firsts q is all b n =
    let base : List Task = old ++ (Close r start ∷ []) in
    let f = fits g fit p (Star firsts q) is in
    let inside = slice_get_within g.prods p (Star firsts q) is in
    let star : IsStar g p = ap (λ (x : Option Prod). is_star x) is in
    rw n (
      record {
        more = 0;
        same = tasks-repeat_below g ks old (Read q level) p level r start at done 1
            ∙ tasks-star g ks fit base p q level firsts at done 1 is inside f.1 b
            ∙ ap (λ (x : Option Prod). then_at (of_production g ks (whole g ks) level x at done 1) (λ to more m. tasks g ks base to more m)) (sym is)
            ∙ ap (λ (a : Answer). then_at a (λ to more m. tasks g ks base to more m)) (sym (unroll g fit ks p level at done 0 inside))
            ∙ sym (tasks-snoc g ks base (Read p level) at done 0)
            ∙ sym (tasks-repeat g ks old p level r start at done 0)
            ∙ tasks-snoc g ks old (Repeat p level r start) at done 0;
      },
      AreTasks-snoc g ks (old ++ (Repeat p level r start ∷ [])) (Read q level) (AreTasks-snoc g ks old (Repeat p level r start) all star) f.0.inside,
    )

pub repeat_ends : (g : Table) (fit : IsFit g) (ks : List ℕ) (old new : List Task) (p level r start at : ℕ) (done trees : List ParseTree) (firsts : List ℕ)
    (q : ℕ) → slice_get g.prods p ≡ Some (Star firsts q) → AreTasks g old → begins ks at firsts ≡ false → new ≡ old → trees ≡ closed r start done
    → Counted g ks new at trees (then_at (task g ks (Repeat p level r start) at done 0) (λ to more m. tasks g ks old to more m)) × AreTasks g new
repeat_ends g fit ks old new p level r start at done trees firsts q is all b n t =
    let inside = slice_get_within g.prods p (Star firsts q) is in
    rw (n, t) (record { more = 1; same = rw (unroll g fit ks p level at done 0 inside, is, b) refl }, all)

module _ (g : Table) (fit : IsFit g) (ks : List ℕ) (x : Prod) (p level at : ℕ) (done : List ParseTree) (old new : List Task) (is : slice_get g.prods p ≡ Some x)
    (all : AreTasks g old) where
  abbrev pub Did : Type 0
  Did = Counted g ks new at done (then_at (of_production g ks (whole g ks) level (Some x) at done 1) (λ to more m. tasks g ks old to more m)) × AreTasks g new

  abbrev is_as : (y : Prod) → x ≡ y → slice_get g.prods p ≡ Some y
  is_as y e = subst (λ (z : Prod). slice_get g.prods p ≡ Some z) e is

  pub did_seq : (ps : List ℕ) → x ≡ Seq ps → new ≡ old ++ reverse (reads level ps) → Did
  did_seq ps e n = rw (e, n) (record { more = 0; same = tasks-all g ks level ps old at done 1 }, AreTasks-all g ks p level ps old (fits g fit p (Seq ps) (is_as (Seq ps) e)) all)

  pub did_case : (bs : List Branch) (other : Option ℕ) (q : ℕ) → x ≡ Case bs other → branch_of ks at bs other ≡ Some q → new ≡ old ++ (Read q level ∷ []) → Did
  did_case bs other q e b n =
      let f = fits g fit p (Case bs other) (is_as (Case bs other) e) in
      rw (e, n, b) (
        record { more = 0; same = tasks-snoc g ks old (Read q level) at done 1 },
        AreTasks-snoc g ks old (Read q level) all (other_inside g p q (branch_of ks at bs other) b
            (branch_below g ks p at bs other f)),
      )

  pub did_star : (firsts : List ℕ) (q : ℕ) → x ≡ Star firsts q → begins ks at firsts ≡ true → new ≡ (old ++ (Read p level ∷ [])) ++ (Read q level ∷ []) → Did
  did_star firsts q e b n =
      let i = is_as (Star firsts q) e in
      let f = fits g fit p (Star firsts q) i in
      let inside = slice_get_within g.prods p (Star firsts q) i in
      rw (n) (
        rw e (record { more = 0; same = tasks-star g ks fit old p q level firsts at done 1 i inside f.1 b }),
        AreTasks-snoc g ks (old ++ (Read p level
            ∷ [])) (Read q level) (AreTasks-snoc g ks old (Read p level) all inside) f.0.inside,
      )

  pub did_rule : (r : ℕ) (rule : Rule) (inner : ℕ) → x ≡ Call r → r < length g.rules → rule_at g r ≡ Some rule → level_in rule level ≡ Some inner
      → new ≡ old ++ rule_tasks g r rule.to inner (length done) → Did
  did_rule r rule inner e h i l n =
      let there = rule_there g fit r h in
      let same : there.0 ≡ rule = let s : Some there.0 ≡ Some rule = sym there.1 ∙ i in cc in
      let inside : rule.to < length g.prods = subst (λ (z : Rule). z.to < length g.prods) same there.2 in
      rw (e, n) (did_parts g fit ks old r rule inner level at done i l inside all (repeated_parts g rule.to) refl)

  pub did_not : (r : ℕ) (rule : Rule) → x ≡ Call r → rule_at g r ≡ Some rule → level_in rule level ≡ None
      → of_production g ks (whole g ks) level (Some x) at done 1 ≡ Answer.deep at 1
  did_not r rule e i l = rw (e, i) (at_no_level rule.nests (nat_lt level max_level) level l (λ y. close r done (whole g ks rule.to y at done 1))
      (Answer.deep at 1))

-- an error of the next task is the error of all
pub fails_all : (g : Table) (ks : List ℕ) (e : ParseFault) (trees : List ParseTree) (stack rest : List Task) (t : Task) (at : ℕ) (done : List ParseTree)
    (z : Answer) → stack ≡ rest ++ (t ∷ []) → outcome_of (tasks g ks stack at done 0) ≡ outcome_of z → Meets (Err e) trees (task g ks t at done 0)
    → Meets (Err e) trees z
fails_all g ks Memory trees stack rest t at done z s same m = tt
fails_all g ks (Stuck x) trees stack rest t at done z s same m = sym same ∙ ap (λ (l : List Task). outcome_of (tasks g ks l at done 0)) s
    ∙ ap (λ (a : Answer). outcome_of a) (tasks-snoc g ks rest t at done 0) ∙ stop_some (task g ks t at done 0) (λ to more m. tasks g ks rest to more m)
    (Outcome.stuck x) tt m
fails_all g ks (Deep x) trees stack rest t at done z s same m = sym same ∙ ap (λ (l : List Task). outcome_of (tasks g ks l at done 0)) s
    ∙ ap (λ (a : Answer). outcome_of a) (tasks-snoc g ks rest t at done 0) ∙ stop_some (task g ks t at done 0) (λ to more m. tasks g ks rest to more m)
    (Outcome.deep x) tt m

-- one step: the outcome stays, and fewer steps are to come
pub one_step : (g : Table) (ks : List ℕ) (stack rest new : List Task) (t : Task) (at to : ℕ) (done more : List ParseTree) → stack ≡ rest ++ (t ∷ [])
    → Counted g ks new to more (then_at (task g ks t at done 0) (λ x l i. tasks g ks rest x l i))
    → (outcome_of (tasks g ks new to more 0) ≡ outcome_of (tasks g ks stack at done 0)) × (steps_of (tasks g ks new to more 0) < steps_of
    (tasks g ks stack at done 0))
one_step g ks stack rest new t at to done more s e =
    let all : tasks g ks stack at done 0 ≡ tasks g ks new to more (suc e.more) = ap (λ (l : List Task). tasks g ks l at done 0) s
    ∙ tasks-snoc g ks rest t at done 0 ∙ sym e.same in
    let less : steps_of (tasks g ks stack at done 0) ≡ suc e.more + steps_of (tasks g ks new to more 0) = ap (λ (a : Answer). steps_of a) all
    ∙ steps_of-counted g ks new to more (suc e.more) in
    (sym (ap (λ (a : Answer). outcome_of a) all ∙ outcome_of-counted g ks new to more (suc e.more)), omega (arith, less))

-- the first two tasks
pub started : (g : Table) (fit : IsFit g) (ks : List ℕ) (trees : List ParseTree) (none stack : List Task) (r inner : ℕ) (rule : Rule) → trees ≡ [] → none ≡ []
    → r < length g.rules → rule_at g r ≡ Some rule → level_in rule 0 ≡ Some inner → stack ≡ (none ++ (Close r 0 ∷ [])) ++ (Read rule.to inner ∷ [])
    → (outcome_of (tasks g ks stack 0 trees 0) ≡ outcome_of (of_production g ks (whole g ks) 0 (Some (Call r)) 0 [] 0)) × AreTasks g stack
started g fit ks trees none stack r inner rule t n h i l s =
    let all : stack ≡ ([] ++ (Close r 0 ∷ [])) ++ (Read rule.to inner ∷ []) = s ∙ ap (λ (x : List Task). (x ++ (Close r 0 ∷ [])) ++ (Read rule.to inner
    ∷ [])) n in
    let there = rule_there g fit r h in
    let same : there.0 ≡ rule = let e : Some there.0 ≡ Some rule = sym there.1 ∙ i in cc in
    let inside : rule.to < length g.prods = subst (λ (z : Rule). z.to < length g.prods) same there.2 in (
      ap (λ (x : List ParseTree). outcome_of (tasks g ks stack 0 x 0)) t
          ∙ ap (λ (a : Answer). outcome_of a) (did_call g ks [] stack 0 0 [] 0 r rule inner i l all
          ∙ then_none g ks (of_production g ks (whole g ks) 0 (Some (Call r)) 0 [] 0)),
      rw all (tt, (inside, tt)),
    )
