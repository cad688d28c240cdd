-- Several steps in one: from some tasks others are reached.
use Rattle.std.proofs.Common.{◌≡◌, ℕ, zero, suc, ◌+◌, List, [], ◌∷◌, ◌++◌, length, map, Option, Some, None, slice_get, refl, sym, ap, ◌∙◌, arith, subst, append_assoc, append-nil, false}
use Rattle.std.specs.Option.{option_map}
use Rattle.std.proofs.lemmas.Option.{slice_get-map, slice_get_within}
use Rattle.grammar_core.specs.declared.table.Table.{Table}
use Rattle.grammar_core.specs.declared.table.Prod.{Prod}
use Rattle.grammar_core.specs.declared.table.Prod.TheVariants.{Call}
use Rattle.grammar_core.specs.declared.machine.Position.{Position}
use Rattle.grammar_core.specs.declared.machine.Task.{Task}
use Rattle.grammar_core.specs.declared.machine.Task.TheVariants.{Read, Repeat}
use Rattle.grammar_core.specs.declared.chains.Chain.{Chain}
use Rattle.grammar_core.specs.declared.chains.Link.{Link}
use Rattle.grammar_core.specs.declared.repeated.Parts.{Parts}
use Rattle.grammar_core.specs.Answers.{Answer, of_production, then_at, whole}
use Rattle.grammar_core.specs.Chains.{AreChains, IsLinkAt, Leads}
use Rattle.grammar_core.specs.Repetitions.{all_parts, parts_in, repeated_parts}
use Rattle.grammar_core.specs.Tasks.{AreTasks, Begun, Counted, Reached, rule_tasks, tasks, tasks_by_parts}
use Rattle.grammar_core.specs.Trees.{ParseTree}
use Rattle.grammar_core.specs.Unfit.{IsFit}
use Rattle.grammar_core.proofs.Same.{unroll}
use Rattle.grammar_core.proofs.Shift.{later, tasks_shift}
use Rattle.grammar_core.proofs.Fits.{rule_inside}
use Rattle.grammar_core.proofs.Stack.{AreTasks-last, did_rule, tasks-snoc}

module _ (g : Table) (ks : List ℕ) where
  -- what is reached stays so where steps were counted before
  lifted : (old new : List Task) (at : ℕ) (trees : List ParseTree) (m : ℕ) → tasks g ks new at trees m ≡ tasks g ks old at trees 0 → (n : ℕ)
      → tasks g ks new at trees (m + n) ≡ tasks g ks old at trees n
  lifted old new at trees m e zero =
      let z : m + 0 ≡ m = omega arith in
      rw z e
  lifted old new at trees m e (suc n) =
      let z : m + suc n ≡ suc (m + n) = omega arith in
      rw z (tasks_shift g ks new at trees (m + n) ∙ ap later (lifted old new at trees m e n) ∙ sym (tasks_shift g ks old at trees n))

  pub reached_itself : (old : List Task) (at : ℕ) (trees : List ParseTree) → Reached g ks old old at trees
  reached_itself old at trees = record { more = 0; same = refl }

  pub reached_on : (old mid new : List Task) (at : ℕ) (trees : List ParseTree) → Reached g ks old mid at trees → Reached g ks mid new at trees
      → Reached g ks old new at trees
  reached_on old mid new at trees a b = record { more = b.more + a.more; same = lifted mid new at trees b.more b.same a.more ∙ a.same }

  -- an answer that was counted is the answer of what is reached
  pub counted_on : (old new : List Task) (at : ℕ) (trees : List ParseTree) (z : Answer) → Counted g ks old at trees z → Reached g ks old new at trees
      → Counted g ks new at trees z
  counted_on old new at trees z c r = record {
    more = r.more + c.more;
    same = (let n : suc (r.more + c.more) ≡ r.more + suc c.more = omega arith in rw n (lifted old new at trees r.more r.same (suc c.more))) ∙ c.same;
  }

  -- what one step of a production leaves is reached from its reading
  reached_by : (fit : IsFit g) (x : Prod) (p level at : ℕ) (done : List ParseTree) (old new : List Task) → slice_get g.prods p ≡ Some x
      → Counted g ks new at done (then_at (of_production g ks (whole g ks) level (Some x) at done 1) (λ to more m. tasks g ks old to more m))
      → Reached g ks (old ++ (Read p level ∷ [])) new at done
  reached_by fit x p level at done old new is c = record {
    more = suc c.more;
    same = c.same
        ∙ ap (λ (o : Option Prod). then_at (of_production g ks (whole g ks) level o at done 1) (λ to more m. tasks g ks old to more m)) (sym is)
        ∙ ap (λ (a : Answer). then_at a (λ to more m. tasks g ks old to more m)) (sym (unroll g fit ks p level at done 0 (slice_get_within g.prods p x is)))
        ∙ sym (tasks-snoc g ks old (Read p level) at done 0);
  }

  pub begun_itself : (here : Position) (stack : List Task) (trees : List ParseTree) → AreTasks g (stack ++ (Read here.prod here.level ∷ []))
      → Begun g ks here here stack stack trees
  begun_itself here stack trees all = record {
    reached = reached_itself (stack ++ (Read here.prod here.level ∷ [])) here.at trees;
    all = all;
    at = refl;
  }

  begun_on : (here mid next : Position) (old between new : List Task) (trees : List ParseTree) → Begun g ks here mid old between trees
      → Begun g ks mid next between new trees → Begun g ks here next old new trees
  begun_on here mid next old between new trees a b = record {
    reached = reached_on (old ++ (Read here.prod here.level ∷ [])) (between ++ (Read mid.prod mid.level ∷ [])) (new ++ (Read next.prod next.level ∷ []))
        here.at trees a.reached
        (subst (λ (i : ℕ). Reached g ks (between ++ (Read mid.prod mid.level ∷ [])) (new ++ (Read next.prod next.level ∷ [])) i trees) a.at b.reached);
    all = b.all;
    at = b.at ∙ a.at;
  }

  abbrev place : ℕ → ℕ → ℕ → Position
  place p level at = record { prod = p; level = level; at = at }

  abbrev end_of : ℕ → ℕ → Link → Task
  end_of level start l = Repeat l.repeated level l.rule start

  -- one rule is begun
  link_begun : (fit : IsFit g) (l : Link) (p first level at : ℕ) (old : List Task) (trees : List ParseTree) → IsLinkAt g p l first
      → AreTasks g (old ++ (Read p level ∷ [])) → Begun g ks (place p level at) (place first level at) old (old ++ (end_of level (length trees) l ∷ [])) trees
  link_begun fit l p first level at old trees h all =
      let new : List Task = (old ++ (end_of level (length trees) l ∷ [])) ++ (Read first level ∷ []) in
      let stack : new ≡ old ++ rule_tasks g l.rule h.link.to level (length trees)
      = append_assoc old (end_of level (length trees) l ∷ []) (Read first level ∷ [])
      ∙ ap (λ (o : Option Parts). old ++ tasks_by_parts o l.rule h.link.to level (length trees)) (sym h.link.parts) in
      let did = did_rule g fit ks (Call l.rule) p level at trees old new h.calls (AreTasks-last g ks old (Read p level) all).0 l.rule
      (record { to = h.link.to; nests = false }) level refl (rule_inside g fit p l.rule h.calls).0 h.link.rule refl stack in
      record { reached = reached_by fit (Call l.rule) p level at trees old new h.calls did.0; all = did.1; at = refl }

  -- a chain of rules is begun
  pub chain_begun : (fit : IsFit g) (ls : List Link) (p end level at : ℕ) (old : List Task) (trees : List ParseTree) → Leads g p ls end
      → AreTasks g (old ++ (Read p level ∷ [])) → Begun g ks (place p level at) (place end level at) old (old ++ map (end_of level (length trees)) ls) trees
  chain_begun fit [] p end level at old trees h all =
      rw (append-nil old) (subst (λ (q : ℕ). Begun g ks (place p level at) (place q level at) old old trees) h (begun_itself (place p level at) old trees all))
  chain_begun fit (l ∷ ls) p end level at old trees h all =
      let one = link_begun fit l p h.0 level at old trees h.1 all in
      let rest = chain_begun fit ls h.0 end level at (old ++ (end_of level (length trees) l ∷ [])) trees h.2 one.all in
      subst (λ (t : List Task). Begun g ks (place p level at) (place end level at) old t trees) (append_assoc old (end_of level (length trees) l ∷ []) (map (end_of
      level (length trees)) ls))
      (begun_on (place p level at) (place h.0 level at) (place end level at) old (old ++ (end_of level (length trees) l ∷ [])) ((old ++ (end_of level
      (length trees) l ∷ [])) ++ map (end_of level (length trees)) ls) trees one rest)

-- one rule more at the end of a chain
pub leads_more : (g : Table) (ls : List Link) (p q first : ℕ) (l : Link) → Leads g p ls q → IsLinkAt g q l first → Leads g p (ls ++ l ∷ []) first
leads_more g [] p q first l h e = (first, subst (λ (z : ℕ). IsLinkAt g z l first) (sym h) e, refl)
leads_more g (k ∷ ls) p q first l h e = (h.0, h.1, leads_more g ls h.0 q first l h.2 e)

-- one chain more
chain_at : (g : Table) (cs : List Chain) (n : ℕ) (c : Chain) → ((p : ℕ) (d : Chain) → slice_get cs p ≡ Some d → Leads g (n + p) d.links d.end)
    → Leads g (n + length cs) c.links c.end → (p : ℕ) (d : Chain) → slice_get (cs ++ c ∷ []) p ≡ Some d → Leads g (n + p) d.links d.end
chain_at g [] n c all h zero d e = let same : c ≡ d = cc in subst (λ (x : Chain). Leads g (n + 0) x.links x.end) same h
chain_at g [] n c all h (suc p) d e = cc
chain_at g (x ∷ cs) n c all h zero d e = all zero d e
chain_at g (x ∷ cs) n c all h (suc p) d e =
    let s : suc n + p ≡ n + suc p = omega arith in
    let z : n + suc (length cs) ≡ suc n + length cs = omega arith in
    subst (λ (i : ℕ). Leads g i d.links d.end) s
    (chain_at g cs (suc n) c (λ q f k. let t : n + suc q ≡ suc n + q = omega arith in subst (λ (i : ℕ). Leads g i f.links f.end) t (all (suc q) f k))
    (subst (λ (i : ℕ). Leads g i c.links c.end) z h) p d e)

pub chains_more : (g : Table) (cs : List Chain) (c : Chain) (n : ℕ) → length cs ≡ n → AreChains g cs → Leads g n c.links c.end → AreChains g (cs ++ c ∷ [])
chains_more g cs c n size all h p d e =
    let z : (q : ℕ) → 0 + q ≡ q = λ q. omega arith in
    subst (λ (i : ℕ). Leads g i d.links d.end) (z p)
    (chain_at g cs 0 c (λ q f k. subst (λ (i : ℕ). Leads g i f.links f.end) (sym (z q)) (all q f k))
    (subst (λ (i : ℕ). Leads g i c.links c.end) (sym size ∙ sym (z (length cs))) h) p d e)

-- the parts that are kept of a production
pub part_kept : (g : Table) (p : ℕ) (parts : Option Parts) → slice_get (all_parts g) p ≡ Some parts → parts ≡ repeated_parts g p
part_kept g p parts e = by_prod (slice_get g.prods p) (sym (slice_get-map (λ x. parts_in g (Some x)) g.prods p) ∙ e)
  where
    by_prod : (o : Option Prod) → option_map (λ x. parts_in g (Some x)) o ≡ Some parts → parts ≡ parts_in g o
    by_prod None h = cc
    by_prod (Some x) h = cc
