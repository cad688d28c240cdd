-- The changes of `reset` can be carried out one after another, and leave the counters alone: each takes the first entry of its list away.
use Rattle.std.proofs.Common.{◌≡◌, ℕ, ◌+◌, ◌≤◌, Bool, true, false, ◌||◌, List, [], ◌∷◌, ◌++◌, cond, map, Option, Some, None, refl, sym, ap, ap₂, ◌∙◌, subst, is_eq, arith}
use Rattle.std.specs.BTreeMap.{is_at}
use Rattle.std.specs.Cmp.{nat_cmp_total}
use Rattle.std.specs.Cmp.Lexicographic.{nat_list_cmp_total}
use Rattle.std.specs.List.{find}
use Rattle.std.specs.Map.{lookup, remove_entry}
use Rattle.std.specs.Option.{is_some, option_map}
use Rattle.std.specs.Ordering.{nat_cmp}
use Rattle.std.specs.Prelude.{nat_eq, nat_lt, ◌&&◌, not}
use Rattle.std.proofs.lemmas.Bool.{eq-eqb, le-ltb}
use Rattle.std.proofs.lemmas.Cmp.{tied_itself}
use Rattle.class_model.specs.declared.numbers.End.TheVariants.{First, Second}
use Rattle.object_state.specs.declared.change.Change.{Change}
use Rattle.object_state.specs.declared.change.Change.TheVariants.{Unbind}
use Rattle.object_state.specs.declared.layout.Layout.{Layout}
use Rattle.object_state.specs.declared.objects.Object.{Object}
use Rattle.object_state.specs.declared.objects.Variable.{Variable}
use Rattle.object_state.specs.declared.store_fault.StoreFault.{StoreFault}
use Rattle.object_state.specs.declared.store_fault.StoreFault.TheVariants.{X4, X5, X8}
use Rattle.object_state.specs.Changes.{apply}
use Rattle.object_state.specs.Faults.{Fits, is_gone, is_linked}
use Rattle.object_state.specs.Layouts.{may_stand}
use Rattle.object_state.specs.State.{State, link, link_cmp, object, stamp_of, text_cmp}
use Rattle.object_state.specs.Valid.{IsValid, max_weight}
use Rattle.object_state.specs.Weights.{lost, weight}
use Rattle.object_state.proofs.Back.{link_total}
use Rattle.object_state.proofs.Keyed.{both_true}
use Rattle.object_state.proofs.Kept.{stays_valid}
use Rattle.object_referrers.proofs.Names.{there}
use Rattle.soil_changes.specs.Joining.{unlinking}
use Rattle.soil_changes.proofs.Agreeing.{removal_agrees, unlinking_agrees}
use Rattle.entry_states.specs.Leading.{CanBeCarriedOut, led_on}
use Rattle.use_session.specs.Resetting.{cleared, removals, removed, reset_changes, unbindings, unlinked, unlinkings}
use Rattle.use_session.proofs.Led.{joined}

abbrev Link : Type 0
Link = (ℕ × ℕ) × (ℕ × ℕ)

-- a change that is carried out, and further ones
after : (l : Layout) (s t u : State) (c : Change) (cs : List Change) → Fits l s c → apply l s c ≡ t → CanBeCarriedOut l t cs × (led_on l t cs ≡ u)
    → CanBeCarriedOut l s (c ∷ cs) × (led_on l s (c ∷ cs) ≡ u)
after l s t u c cs f e r = ((f, subst (λ z. CanBeCarriedOut l z cs) (sym e) r.0), ap (λ z. led_on l z cs) e ∙ r.1)

abbrev no_fault : Bool → Bool → Bool → Option StoreFault
no_fault linked gone light = cond (not linked) (Some X4) (cond gone (Some X5) (cond light (Some X8) None))

-- nothing grows where nothing comes
no_growth : (n : ℕ) (b : Bool) → (nat_lt n 0 && b) ≡ false
no_growth n b = ap (λ a. a && b) (le-ltb n 0 (none n))
  where
    none : (n : ℕ) → 0 ≤ n
    none n = omega arith

module _ (l : Layout) where
  -- links
  module _ (s : State) where
    abbrev with_links : List Link → State
    with_links es = record s { links = es }

    link_goes : (e : Link) (es : List Link) → apply l (with_links (e ∷ es)) (unlinked s e) ≡ with_links es
    link_goes e es = ap (λ b. with_links (cond b es (e ∷ remove_entry (is_at (link_cmp e.0)) es))) (ap is_eq (tied_itself link_total e.0))

    link_here : (e : Link) (es : List Link) → link (with_links (e ∷ es)) e.0 ≡ Some e.1
    link_here e es = ap (λ b. cond b (Some e.1) (lookup (is_at (link_cmp e.0)) es)) (ap is_eq (tied_itself link_total e.0))

    stamped : (e : Link) (es : List Link) → stamp_of (with_links (e ∷ es)) e.0.0 e.1.0 e.1.1 ≡ Some e.0.1
    stamped e es =
        ap (λ b. option_map (λ (e : Link). e.0.1) (cond b (Some e) (find (λ x. nat_eq x.0.0 e.0.0 && nat_eq x.1.0 e.1.0 && nat_eq x.1.1 e.1.1) es)))
        (both_true (nat_eq e.0.0 e.0.0) (nat_eq e.1.0 e.1.0) (nat_eq e.1.1 e.1.1) (eq-eqb _ _ refl) (eq-eqb _ _ refl) (eq-eqb _ _ refl))

    link_fits : (e : Link) (es : List Link) → IsValid l (with_links (e ∷ es)) → Fits l (with_links (e ∷ es)) (unlinked s e)
    link_fits e es v =
        let t = with_links (e ∷ es) in
        let first = there (λ (x : Object). may_stand l e.0.0 First x.class) (object t e.1.0) (v.joins e.0 e.1 (link_here e es)).first in
        let second = there (λ (x : Object). may_stand l e.0.0 Second x.class) (object t e.1.1) (v.joins e.0 e.1 (link_here e es)).second in
        let linked : is_linked t (unlinking s e.0.0 e.1.0 e.1.1 e.0.1) ≡ true = ap (λ (u : Option ℕ). is_some u) (stamped e es) in
        let gone : (is_gone t e.1.0 || is_gone t e.1.1) ≡ false =
        ap₂ (λ (a b : Option Object). not (is_some a) || not (is_some b)) first.1 second.1 in
        record {
          agrees = unlinking_agrees l t v e.0.0 e.1.0 e.1.1 e.0.1 (link_here e es);
          faultless = λ i. no_fault (linked i) (gone i) false;
        }

    pub links_go : (es : List Link) → IsValid l (with_links es)
        → CanBeCarriedOut l (with_links es) (map (unlinked s) es) × (led_on l (with_links es) (map (unlinked s) es) ≡ with_links [])
    links_go [] v = (tt, refl)
    links_go (e ∷ es) v =
        let fits = link_fits e es v in
        let valid = subst (λ t. IsValid l t) (link_goes e es) (stays_valid l (with_links (e ∷ es)) (unlinked s e) v fits) in
        after l (with_links (e ∷ es)) (with_links es) (with_links []) (unlinked s e) (map (unlinked s) es) fits (link_goes e es) (links_go es valid)

  -- variables
  module _ (s : State) where
    abbrev with_variables : List (List ℕ × Variable) → State
    with_variables es = record s { variables = es }

    abbrev unbound : List ℕ × Variable → Change
    unbound e = Unbind e.0 e.1

    variable_goes : (e : List ℕ × Variable) (es : List (List ℕ × Variable)) → apply l (with_variables (e ∷ es)) (unbound e) ≡ with_variables es
    variable_goes e es =
        ap (λ b. with_variables (cond b es (e ∷ remove_entry (is_at (text_cmp e.0)) es))) (ap is_eq (tied_itself nat_list_cmp_total e.0))

    variable_fits : (e : List ℕ × Variable) (es : List (List ℕ × Variable)) → Fits l (with_variables (e ∷ es)) (unbound e)
    variable_fits e es = record {
      agrees = ap (λ b. cond b (Some e.1) (lookup (is_at (text_cmp e.0)) es)) (ap is_eq (tied_itself nat_list_cmp_total e.0));
      faultless = ap (no_fault true false) (no_growth (lost (unbound e)) (nat_lt (max_weight + lost (unbound e)) (weight (with_variables (e ∷ es)) + 0)));
    }

    pub variables_go : (es : List (List ℕ × Variable))
        → CanBeCarriedOut l (with_variables es) (map unbound es) × (led_on l (with_variables es) (map unbound es) ≡ with_variables [])
    variables_go [] = (tt, refl)
    variables_go (e ∷ es) =
        after l (with_variables (e ∷ es)) (with_variables es) (with_variables []) (unbound e) (map unbound es) (variable_fits e es) (variable_goes e es)
        (variables_go es)

  -- objects without links
  module _ (s : State) where
    abbrev with_objects : List (ℕ × Object) → State
    with_objects es = record s { objects = es; links = []; variables = [] }

    object_goes : (e : ℕ × Object) (es : List (ℕ × Object)) → apply l (with_objects (e ∷ es)) (removed s e) ≡ with_objects es
    object_goes e es = ap (λ b. with_objects (cond b es (e ∷ remove_entry (is_at (nat_cmp e.0)) es))) (ap is_eq (tied_itself nat_cmp_total e.0))

    object_here : (e : ℕ × Object) (es : List (ℕ × Object)) → object (with_objects (e ∷ es)) e.0 ≡ Some e.1
    object_here e es = ap (λ b. cond b (Some e.1) (lookup (is_at (nat_cmp e.0)) es)) (ap is_eq (tied_itself nat_cmp_total e.0))

    object_fits : (e : ℕ × Object) (es : List (ℕ × Object)) → IsValid l (with_objects (e ∷ es)) → Fits l (with_objects (e ∷ es)) (removed s e)
    object_fits e es v = record {
      agrees = removal_agrees l (with_objects (e ∷ es)) v e.0 e.1 (object_here e es) refl;
      faultless = λ i. no_fault true (not (is_some (object_here e es i)))
          (no_growth (lost (removed s e)) (nat_lt (max_weight + lost (removed s e)) (weight (with_objects (e ∷ es)) + 0)) i);
    }

    pub objects_go : (es : List (ℕ × Object)) → IsValid l (with_objects es)
        → CanBeCarriedOut l (with_objects es) (map (removed s) es) × (led_on l (with_objects es) (map (removed s) es) ≡ with_objects [])
    objects_go [] v = (tt, refl)
    objects_go (e ∷ es) v =
        let fits = object_fits e es v in
        let valid = subst (λ t. IsValid l t) (object_goes e es) (stays_valid l (with_objects (e ∷ es)) (removed s e) v fits) in
        after l (with_objects (e ∷ es)) (with_objects es) (with_objects []) (removed s e) (map (removed s) es) fits (object_goes e es) (objects_go es valid)

  -- validity along the way
  stays : (cs : List Change) (s : State) → IsValid l s → CanBeCarriedOut l s cs → IsValid l (led_on l s cs)
  stays [] s v h = v
  stays (c ∷ cs) s v h = stays cs (apply l s c) (stays_valid l s c v h.0) h.1

  -- all of them
  pub all_go : (s : State) → IsValid l s → CanBeCarriedOut l s (reset_changes s) × (led_on l s (reset_changes s) ≡ cleared s)
  all_go s v =
      let s1 : State = record s { links = [] } in
      let s2 : State = record s { links = []; variables = [] } in
      let a = links_go s s.links v in
      let v1 : IsValid l s1 = subst (λ t. IsValid l t) a.1 (stays (unlinkings s) s v a.0) in
      let b = variables_go s1 s.variables in
      let v2 : IsValid l s2 = subst (λ t. IsValid l t) b.1 (stays (unbindings s) s1 v1 b.0) in
      let c = objects_go s2 s.objects v2 in
      let ab = joined l (unlinkings s) (unbindings s) s s1 a.0 a.1 b.0 in
      let abc = joined l (unlinkings s ++ unbindings s) (removals s) s s2 ab.0 (ab.1 ∙ b.1) c.0 in
      (abc.0, abc.1 ∙ c.1)
