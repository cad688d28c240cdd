-- The rank of a production: how many productions it leads to without nesting. In a fit table it falls from each production to those that it reads.
use Rattle.std.proofs.Common.{◌≡◌, ℕ, ◌+◌, ◌<◌, ◌≤◌, List, [], ◌∷◌, length, option_map, Option, Some, None, Bool, true, false, cond, slice_get, zero, suc, refl, sym, ap, ◌∙◌, arith, subst, inl, inr, ◌⊎◌, ⊎_elim, replicate}
use Rattle.std.proofs.lemmas.List.{length-map, length-replicate}
use Rattle.std.proofs.lemmas.Option.{slice_get-map, slice_get_cases}
use Rattle.grammar_core.specs.declared.table.Table.{Table}
use Rattle.grammar_core.specs.declared.table.Rule.{Rule}
use Rattle.grammar_core.specs.declared.table.Prod.{Prod}
use Rattle.grammar_core.specs.declared.table.Prod.TheVariants.{Tok, Call, Seq, Case, Star}
use Rattle.grammar_core.specs.Tables.{rule_from, rule_at, unnested, next_prods, graph_of}
use Rattle.grammar_core.specs.Paths.{IsIn, next, places_of, Path, is_marked}
use Rattle.grammar_core.specs.Unfit.{Unfit}
use Rattle.grammar_core.specs.Marks.{unmarked, set_mark, mark_all, sweep, IsRow}
use Rattle.grammar_core.proofs.Marking.{Sound, Started, all_length, sweep_length, sweep_is_sound, sweep_is_started, row_done, first_sound, first_started, first_long}
use Rattle.grammar_core.proofs.Counting.{marks, rank_falls}

-- the same marks, or more of them
abbrev Smaller : List Bool → List Bool → Type 0
Smaller a b = (b ≡ a) ⊎ (unmarked b < unmarked a)

smaller_then : (a b c : List Bool) → Smaller a b → Smaller b c → Smaller a c
smaller_then a b c h k = ⊎_elim (λ e. subst (λ (x : List Bool). Smaller x c) e k) (λ f. ⊎_elim (λ e. inr (subst (λ (x : List Bool). unmarked x < unmarked a)
    (sym e) f)) (λ g. inr (omega (arith, f, g))) k) h

set_smaller : (seen : List Bool) (q : ℕ) → Smaller seen (set_mark seen q)
set_smaller [] q = inl refl
set_smaller (true ∷ bs) zero = inl refl
set_smaller (false ∷ bs) zero = inr (omega arith)
set_smaller (true ∷ bs) (suc q) = ⊎_elim (λ e. inl (ap (λ (l : List Bool). true ∷ l) e)) (λ f. inr f) (set_smaller bs q)
set_smaller (false ∷ bs) (suc q) = ⊎_elim (λ e. inl (ap (λ (l : List Bool). false ∷ l) e)) (λ f. inr (omega (arith, f))) (set_smaller bs q)

all_smaller : (row : List ℕ) (seen : List Bool) → Smaller seen (mark_all seen row)
all_smaller [] seen = inl refl
all_smaller (q ∷ qs) seen = smaller_then seen (set_mark seen q) (mark_all (set_mark seen q) qs) (set_smaller seen q) (all_smaller qs (set_mark seen q))

row_smaller : (v : Bool) (row : List ℕ) (seen : List Bool) → Smaller seen (cond v (mark_all seen row) seen)
row_smaller true row seen = all_smaller row seen
row_smaller false row seen = inl refl

sweep_smaller : (rows : List (List ℕ)) (i : ℕ) (seen : List Bool) → Smaller seen (sweep seen i rows)
sweep_smaller [] i seen = inl refl
sweep_smaller (row ∷ rows) i seen = let s : List Bool = cond (is_marked seen i) (mark_all seen row) seen
    in smaller_then seen s (sweep s (i + 1) rows) (row_smaller (is_marked seen i) row seen) (sweep_smaller rows (i + 1) s)

-- that many sweeps
abbrev rounds : ℕ → List (List ℕ) → List Bool → List Bool
rounds zero graph seen = seen
rounds (suc k) graph seen = rounds k graph (sweep seen 0 graph)

rounds_stay : (k : ℕ) (graph : List (List ℕ)) (seen : List Bool) → sweep seen 0 graph ≡ seen → sweep (rounds k graph seen) 0 graph ≡ rounds k graph seen
rounds_stay zero graph seen e = e
rounds_stay (suc k) graph seen e = subst (λ (s : List Bool). sweep (rounds k graph s) 0 graph ≡ rounds k graph s) (sym e) (rounds_stay k graph seen e)

-- as many sweeps as there are places without a mark are enough
rounds_end : (k : ℕ) (graph : List (List ℕ)) (seen : List Bool) → unmarked seen ≤ k → sweep (rounds k graph seen) 0 graph ≡ rounds k graph seen
rounds_end zero graph seen h = ⊎_elim (λ e. e) (λ f. absurd (omega (arith, f, h))) (sweep_smaller graph 0 seen)
rounds_end (suc k) graph seen h = ⊎_elim (λ e. rounds_stay (suc k) graph seen e) (λ f. rounds_end k graph (sweep seen 0 graph) (omega (arith, f, h)))
    (sweep_smaller graph 0 seen)

rounds_length : (k : ℕ) (graph : List (List ℕ)) (seen : List Bool) → length (rounds k graph seen) ≡ length seen
rounds_length zero graph seen = refl
rounds_length (suc k) graph seen = rounds_length k graph (sweep seen 0 graph) ∙ sweep_length graph 0 seen

module _ (graph : List (List ℕ)) (p : ℕ) where
  rounds_sound : (k : ℕ) (seen : List Bool) → length seen ≡ length graph → Sound graph p seen → Sound graph p (rounds k graph seen)
  rounds_sound zero seen long sound = sound
  rounds_sound (suc k) seen long sound = rounds_sound k (sweep seen 0 graph) (sweep_length graph 0 seen ∙ long) (sweep_is_sound graph p seen long sound)

  rounds_started : (k : ℕ) (seen : List Bool) → Started graph p seen → Started graph p (rounds k graph seen)
  rounds_started zero seen started = started
  rounds_started (suc k) seen started = rounds_started k (sweep seen 0 graph) (sweep_is_started graph p seen started)

unmarked_le : (seen : List Bool) → unmarked seen ≤ length seen
unmarked_le [] = omega arith
unmarked_le (true ∷ bs) = omega (arith, unmarked_le bs)
unmarked_le (false ∷ bs) = omega (arith, unmarked_le bs)

marks_le : (seen : List Bool) → marks seen ≤ length seen
marks_le [] = omega arith
marks_le (true ∷ bs) = omega (arith, marks_le bs)
marks_le (false ∷ bs) = omega (arith, marks_le bs)

-- the marks of what p leads to
abbrev reach : List (List ℕ) → ℕ → List Bool
reach graph p = rounds (length graph) graph (mark_all (replicate (length graph) false) (next graph p))

reach_length : (graph : List (List ℕ)) (p : ℕ) → length (reach graph p) ≡ length graph
reach_length graph p = rounds_length (length graph) graph (mark_all (replicate (length graph) false) (next graph p))
    ∙ (all_length (next graph p) (replicate (length graph) false) ∙ length-replicate (length graph) false)

reach_row : (graph : List (List ℕ)) (p : ℕ) (row : List ℕ) → slice_get graph p ≡ Some row → IsRow graph p (reach graph p)
reach_row graph p row e =
    let n : next graph p ≡ row = ap (λ (o : Option (List ℕ)). places_of o) e in
    let start : List Bool = mark_all (replicate (length graph) false) row in
    let long : length start ≡ length graph = first_long graph p row e in
    subst (λ (r : List ℕ). IsRow graph p (rounds (length graph) graph (mark_all (replicate (length graph) false) r))) (sym n)
    (row_done graph p (rounds (length graph) graph start) (rounds_length (length graph) graph start ∙ long)
    (rounds_sound graph p (length graph) start long (first_sound graph p row e))
    (rounds_started graph p (length graph) start (first_started graph p row e))
    (rounds_end (length graph) graph start (omega (arith, unmarked_le start, long))))

-- how many productions it leads to
pub rank : Table → ℕ → ℕ
rank g p = marks (reach (graph_of true g) p)

pub rank_low : (g : Table) (p : ℕ) → rank g p ≤ length g.prods
unfolding rank
rank_low g p = omega (arith, marks_le (reach (graph_of true g) p), reach_length (graph_of true g) p, length-map g.prods (λ x. next_prods true g x))

module _ (g : Table) where
  pub graph_length : (calls : Bool) → length (graph_of calls g) ≡ length g.prods
  graph_length calls = length-map g.prods (λ x. next_prods calls g x)

  pub graph_at : (calls : Bool) (p : ℕ) (x : Prod) → slice_get g.prods p ≡ Some x → slice_get (graph_of calls g) p ≡ Some (next_prods calls g x)
  graph_at calls p x e = slice_get-map (λ y. next_prods calls g y) g.prods p ∙ ap (λ (o : Option Prod). option_map (λ y. next_prods calls g y) o) e

  pub next_at : (calls : Bool) (p : ℕ) (x : Prod) → slice_get g.prods p ≡ Some x → next (graph_of calls g) p ≡ next_prods calls g x
  next_at calls p x e = ap (λ (o : Option (List ℕ)). places_of o) (graph_at calls p x e)

  -- a step leaves from a production
  pub step_at : (calls : Bool) (p q : ℕ) → IsIn q (next (graph_of calls g) p) → (x : Prod) × (slice_get g.prods p ≡ Some x) × IsIn q (next_prods calls g x)
  step_at calls p q i =
      ⊎_elim (λ some. (some.0, some.2, subst (λ (l : List ℕ). IsIn q l) (next_at calls p some.0 some.2) i))
      (λ past. absurd (subst (λ (o : Option (List ℕ)). IsIn q (places_of o)) (slice_get-map (λ y. next_prods calls g y) g.prods p
      ∙ ap (λ (o : Option Prod). option_map (λ y. next_prods calls g y) o) past.1) i))
      (slice_get_cases g.prods p).1

  unnested_in : (a : Option ℕ) (b : Option Bool) (q : ℕ) → IsIn q (unnested (rule_from a b)) → (a ≡ Some q) × (b ≡ Some false)
  unnested_in None b q i = absurd i
  unnested_in (Some to) None q i = absurd i
  unnested_in (Some to) (Some true) q i = absurd i
  unnested_in (Some to) (Some false) q i = ⊎_elim (λ e. (ap (λ (x : ℕ). Some x) (sym e), refl)) (λ none. absurd none) i

  -- from a to b in no step or more
  abbrev Leads : ℕ → ℕ → Type 0
  Leads a b = (a ≡ b) ⊎ Path (graph_of true g) a b

  -- a call without nesting on the way from a to b
  record IsCalling (a b : ℕ) : Type 0 where
    caller : ℕ
    r : ℕ
    to : ℕ
    is : slice_get g.prods caller ≡ Some (Call r)
    rule : slice_get g.rules r ≡ Some to
    flat : slice_get g.nests r ≡ Some false
    inside : to < length g.prods
    before : Leads a caller
    after : Leads to b

  -- a step is one without a call, or a call
  step_split : (a q : ℕ) (x : Prod) → slice_get g.prods a ≡ Some x → IsIn q (next_prods true g x) → q < length g.prods
      → IsIn q (next (graph_of false g) a) ⊎ IsCalling a q
  step_split a q (Tok k) e i inside = absurd i
  step_split a q (Call r) e i inside = let u = unnested_in (slice_get g.rules r) (slice_get g.nests r) q i
      in inr (record { caller = a; r = r; to = q; is = e; rule = u.0; flat = u.1; inside = inside; before = inl refl; after = inl refl })
  step_split a q (Seq ps) e i inside = inl (subst (λ (l : List ℕ). IsIn q l) (sym (next_at false a (Seq ps) e)) i)
  step_split a q (Case bs other) e i inside = inl (subst (λ (l : List ℕ). IsIn q l) (sym (next_at false a (Case bs other) e)) i)
  step_split a q (Star firsts x) e i inside = inl (subst (λ (l : List ℕ). IsIn q l) (sym (next_at false a (Star firsts x) e)) i)

  leads_on : (a q r : ℕ) → Leads a q → IsIn r (next (graph_of true g) q) → r < length (graph_of true g) → Path (graph_of true g) a r
  leads_on a q r h e i = ⊎_elim (λ same. Path.first r (subst (λ (x : ℕ). IsIn r (next (graph_of true g) x)) (sym same) e) i) (λ way. Path.then q r way e i) h

  joined : (a b c : ℕ) → Path (graph_of true g) a b → Path (graph_of true g) b c → Path (graph_of true g) a c
  joined a b _ way (Path.first q e i) = Path.then b q way e i
  joined a b _ way (Path.then q r on e i) = Path.then q r (joined a b q way on) e i

  leads_joined : (a b c : ℕ) → Leads a b → Leads b c → Leads a c
  leads_joined a b c h k = ⊎_elim (λ same. subst (λ (x : ℕ). Leads x c) (sym same) k) (λ way. ⊎_elim (λ same. inr (subst (λ (x : ℕ). Path
      (graph_of true g) a x) same way)) (λ on. inr (joined a b c way on)) k) h

  path_split : (a b : ℕ) → Path (graph_of true g) a b → Path (graph_of false g) a b ⊎ IsCalling a b
  path_split a _ (Path.first q e i) =
      let s = step_at true a q e in
      let n = graph_length true in
      let m = graph_length false in
      ⊎_elim (λ part. inl (Path.first q part (omega (arith, i, n, m)))) (λ call. inr call) (step_split a q s.0 s.1 s.2 (omega (arith, i, n)))
  path_split a _ (Path.then q r way e i) =
      let s = step_at true q r e in
      let n = graph_length true in
      let m = graph_length false in
      ⊎_elim
      (λ early. ⊎_elim (λ part. inl (Path.then q r early part (omega (arith, i, n, m)))) (λ (call : IsCalling q r). inr
      (record {
        caller = call.caller;
        r = call.r;
        to = call.to;
        is = call.is;
        rule = call.rule;
        flat = call.flat;
        inside = call.inside;
        before =
            leads_joined a q call.caller (inr way) call.before;
        after = call.after;
      })) (step_split q r s.0 s.1 s.2 (omega (arith, i, n))))
      (λ (call : IsCalling a q). inr (record {
        caller = call.caller;
        r = call.r;
        to = call.to;
        is = call.is;
        rule = call.rule;
        flat = call.flat;
        inside =
            call.inside;
        before = call.before;
        after = inr (leads_on call.to q r call.after e i);
      }))
      (path_split a q way)

  -- the call is a step
  call_step : (a b : ℕ) (call : IsCalling a b) → IsIn call.to (next (graph_of true g) call.caller)
  call_step a b call =
      let e : rule_at g call.r ≡ rule_from (Some call.to) (Some false) = ap (λ (o : Option ℕ). rule_from o (slice_get g.nests call.r)) call.rule
      ∙ ap (λ (o : Option Bool). rule_from (Some call.to) o) call.flat in
      subst (λ (l : List ℕ). IsIn call.to l) (sym (next_at true call.caller (Call call.r) call.is ∙ ap (λ (o : Option Rule). unnested o) e)) (inl refl)

  -- where a production comes back to itself, some production is unfit
  pub no_cycle : ((p : ℕ) → Unfit g p → ⊥) → (q : ℕ) → Path (graph_of true g) q q → ⊥
  no_cycle fit q way = ⊎_elim (λ flat. fit q (Unfit.own_part flat)) (λ (call : IsCalling q q). fit call.caller
      (Unfit.own_call call.r call.to call.is call.rule call.flat (around call))) (path_split q q way)
    where
      around : (call : IsCalling q q) → Path (graph_of true g) call.to call.to
      around call = leads_on call.to call.caller call.to (leads_joined call.to q call.caller call.after call.before) (call_step q q call) (omega
          (arith, call.inside, graph_length true))

  -- the rank falls along each step
  pub rank_step : ((p : ℕ) → Unfit g p → ⊥) → (p q : ℕ) (x : Prod) → slice_get g.prods p ≡ Some x → IsIn q (next_prods true g x) → q < length g.prods
      → rank g q < rank g p
  unfolding rank
  rank_step fit p q x e i inside =
      let y = slice_get_cases g.prods q in
      ⊎_elim
      (λ some. rank_falls (graph_of true g) p q (reach (graph_of true g) p) (reach (graph_of true g) q)
      (reach_row (graph_of true g) p (next_prods true g x) (graph_at true p x e))
      (reach_row (graph_of true g) q (next_prods true g some.0) (graph_at true q some.0 some.2))
      (subst (λ (l : List ℕ). IsIn q l) (sym (next_at true p x e)) i) (omega (arith, inside, graph_length true)) (no_cycle fit q))
      (λ past. absurd (omega (arith, past.0, inside))) y.1
