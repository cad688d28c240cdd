-- What becomes of the count of each navigation where a state changes.
use Rattle.std.proofs.Common.{◌≡◌, ◌≢◌, ℕ, ◌<◌, ◌≤◌, suc, Bool, true, false, cond, ◌&&◌, List, [], ◌∷◌, length, map, Option, Some, None, refl, sym, ap, ◌∙◌, subst, true≢false, arith, Ordering}
use Rattle.std.specs.BTreeMap.{insert_entry, is_at}
use Rattle.std.specs.Cmp.{IsTotalOrder, nat_cmp_total}
use Rattle.std.specs.List.{filter, find}
use Rattle.std.specs.List.Sorted.{IsStrictlySortedBy}
use Rattle.std.specs.Map.{keys_of, lookup, remove_entry}
use Rattle.std.specs.Option.{option_and_then, option_map, option_map_or}
use Rattle.std.specs.Ordering.{nat_cmp}
use Rattle.std.specs.Prelude.{nat_eq, nat_lt}
use Rattle.std.proofs.lemmas.Bool.{eq-eqb, eqb-true}
use Rattle.std.proofs.lemmas.List.{length-map}
use Rattle.std.proofs.lemmas.Map.Lookups.{CmpEqualImpliesEq, exact_unsigned}
use Rattle.ocl_values.specs.declared.value.Value.{Value}
use Rattle.ocl_values.specs.declared.value.Value.TheVariants.{Obj}
use Rattle.class_model.specs.declared.numbers.End.{End}
use Rattle.class_model.specs.declared.numbers.End.TheVariants.{First, Second}
use Rattle.class_model.specs.declared.object_model.ObjectModel.{ObjectModel}
use Rattle.class_model.specs.Ends.{opposite}
use Rattle.object_state.specs.declared.change.Change.{Change}
use Rattle.object_state.specs.declared.change.Change.TheVariants.{Create, Remove, SetSlot, Link, Unlink, Bind, Unbind}
use Rattle.object_state.specs.declared.change.LinkChange.{LinkChange}
use Rattle.object_state.specs.declared.change.ObjectChange.{ObjectChange}
use Rattle.object_state.specs.declared.layout.Layout.{Layout}
use Rattle.object_state.specs.declared.objects.Object.{Object}
use Rattle.object_state.specs.Changes.{apply, object_of, with_object, with_slot}
use Rattle.object_state.specs.Faults.{CreationAgrees, Fits, RemovalAgrees, UnlinkingAgrees, is_linked}
use Rattle.object_state.specs.Layouts.{layout_of, may_stand, place}
use Rattle.object_state.specs.Looks.{end_of, has_at, joined, stands}
use Rattle.object_state.specs.State.{State, empty, link, link_cmp, object}
use Rattle.object_state.specs.Valid.{IsValid, last_number, max_links}
use Rattle.object_state.proofs.Back.{apply_set, class_set_at, faultless, link_exact, link_free, link_total, live, other_number, stamp_is, turned}
use Rattle.object_state.proofs.Keyed.{both, by_test, equal, filter_insert_in, filter_insert_out, find_some, found_remove, gone_remove, insert_removed, kept_remove, kept_set, lookup_insert, lookup_set_here, put_insert, some≢none}
use Rattle.object_state.proofs.Empty.{empty_valid}
use Rattle.object_state.proofs.Kept.{by_number}
use Rattle.invariant_cache.specs.Broken.{Navigation, unless_allowed}
use Rattle.invariant_cache.specs.Counts.{Counts, StandsFor, count_in, counted, found}
use Rattle.invariant_cache.specs.Noting.{Recounts, may_start, one_less, one_more, reaches, recount, started}
use Rattle.invariant_cache.proofs.Modelled.{class_count, starts}

abbrev Joint : Type 0
Joint = (ℕ × ℕ) × (ℕ × ℕ)

-- how many objects are seen, by the object from which
abbrev seen : List ℕ → Bool → Option ℕ
seen os stands = option_map (λ vs. length vs) (cond stands (Some (map Obj os)) None)

abbrev stand : Layout → ℕ → End → Option Object → Bool
stand l a e u = option_map_or (λ (x : Object). may_stand l a e x.class) u false

seen_length : (os : List ℕ) (b : Bool) → seen os b ≡ cond b (Some (length os)) None
seen_length os true = ap (λ (n : ℕ). Some n) (length-map os Obj)
seen_length os false = refl

unfound : {X : Type 0} (p : X → Bool) (xs : List X) → find p xs ≡ None → filter p xs ≡ []
unfound p [] h = refl
unfound p (x ∷ xs) h = by_test (p x)
    (λ y. absurd (some≢none x (sym (ap (λ b. cond b (Some x) (find p xs)) y) ∙ h)))
    (λ n. rw n (unfound p xs (sym (ap (λ b. cond b (Some x) (find p xs)) n) ∙ h)))

fewer : {X : Type 0} (p : X → Bool) (xs : List X) → length (filter p xs) ≤ length xs
fewer p [] = omega arith
fewer p (x ∷ xs) = let r = fewer p xs in by_test (p x) (λ y. rw y (omega arith)) (λ n. rw n (omega arith))

-- no link joins what is not live
stood : (l : Layout) (s : State) (a : ℕ) (e : End) (o : ℕ) → object s o ≡ None → stands l s a e o ≡ false
stood l s a e o h = ap (stand l a e) h

unjoined : (l : Layout) (s : State) (a : ℕ) (e : End) (o : ℕ) → IsValid l s → object s o ≡ None → joined s a e o ≡ []
unjoined l s a e o v h = ap (map (λ (entry : Joint). end_of entry.1 e)) (unfound (has_at a (opposite e) o) s.links (by (find (has_at a (opposite e) o) s.links) refl))
  where
    ended : (f : End) (entry : Joint) → link s entry.0 ≡ Some entry.1 → nat_eq (end_of entry.1 f) o ≡ true → ⊥
    ended First entry t same = true≢false (sym (v.joins entry.0 entry.1 t).first ∙ stood l s entry.0.0 First entry.1.0 (ap (object s) (eqb-true _ _ same) ∙ h))
    ended Second entry t same = true≢false (sym (v.joins entry.0 entry.1 t).second ∙ stood l s entry.0.0 Second entry.1.1 (ap (object s) (eqb-true _ _ same) ∙ h))

    by : (u : Option Joint) → find (has_at a (opposite e) o) s.links ≡ u → find (has_at a (opposite e) o) s.links ≡ None
    by None q = q
    by (Some entry) q =
        let r = find_some link_total (has_at a (opposite e) o) s.links entry q v.links.ordered in
        absurd (ended (opposite e) entry r.0 (both (nat_eq entry.0.0 a) (nat_eq (end_of entry.1 (opposite e)) o) r.1).1)

-- what is found beside a key that goes
beside : {K X : Type 0} {R : K → K → Ordering} (o : IsTotalOrder R) (exact : CmpEqualImpliesEq R) (es : List (K × X)) (k q : K)
    → IsStrictlySortedBy R (keys_of es) → q ≢ k → lookup (is_at (R q)) (remove_entry (is_at (R k)) es) ≡ lookup (is_at (R q)) es
beside {K} {X} {R} o exact es k q up apart = by (lookup (is_at (R q)) es) (lookup (is_at (R q)) (remove_entry (is_at (R k)) es)) refl refl
  where
    by : (u w : Option X) → lookup (is_at (R q)) es ≡ u → lookup (is_at (R q)) (remove_entry (is_at (R k)) es) ≡ w → w ≡ u
    by u (Some x) e f = sym (found_remove o exact es k q x up f).0 ∙ e
    by (Some x) None e f = sym f ∙ kept_remove o exact es k q x up apart e
    by None None e f = refl

-- which objects there are after a change
others_created : (l : Layout) (s : State) (d : ObjectChange) (p : ℕ) → p ≢ d.object → object (apply l s (Create d)) p ≡ object s p
others_created l s d p ne =
    lookup_insert nat_cmp_total s.objects d.object (object_of d) p
    ∙ by_test (is_at (nat_cmp p) d.object) (λ y. absurd (ne (exact_unsigned p d.object (equal _ y)))) (λ n. ap (λ b. cond b (Some (object_of d))
    (object s p)) n)

not_equal : (a b : ℕ) → a ≢ b → nat_eq a b ≡ false
not_equal a b h = by_test (nat_eq a b) (λ y. absurd (h (eqb-true a b y))) (λ n. n)

module _ (m : ObjectModel) (s : State) (v : IsValid (layout_of m) s) where
  -- where another object comes or goes, nothing is replaced
  other_start : (c o a p : ℕ) (e : End) (w x : Option ℕ) → p ≢ o → started m c o w (length m.assocs) (a, (e, p)) x ≡ x
  other_start c o a p e w x h = ap (λ b. cond (nat_lt a (length m.assocs) && (b && may_start m c (a, (e, p)))) w x) (not_equal p o h) ∙ none (nat_lt a
      (length m.assocs)) w x
    where
      none : (b : Bool) (w x : Option ℕ) → cond (b && false) w x ≡ x
      none true w x = refl
      none false w x = refl

  this_start : (c o a : ℕ) (e : End) (w x : Option ℕ) → c < length m.classes
      → started m c o w (length m.assocs) (a, (e, o)) x ≡ cond (may_stand (layout_of m) a (opposite e) c) w x
  this_start c o a e w x h =
      ap (λ b. cond (nat_lt a (length m.assocs) && (b && may_start m c (a, (e, o)))) w x) (eq-eqb o o refl)
      ∙ ap (λ b. cond b w x) (sym (starts m a c e o h))

  pub created : (d : ObjectChange) → Fits (layout_of m) s (Create d) → (n : Navigation)
      → recount m (Create d) n (count_in m s n) ≡ count_in m (apply (layout_of m) s (Create d)) n
  created d f (a, (e, p)) = by_number p d.object (λ same. subst (λ (q : ℕ). recount m (Create d) (a, (e, q)) (count_in m s (a, (e, q)))
      ≡ count_in m (apply (layout_of m) s (Create d)) (a, (e, q))) (sym same) here)
      (λ ne. other_start d.class d.object a p e (Some 0) (count_in m s (a, (e, p))) ne
      ∙ ap (λ u. seen (joined s a e p) (stand (layout_of m) a (opposite e) u)) (sym (others_created (layout_of m) s d p ne)))
    where
      g : CreationAgrees (layout_of m) s d
      g = f.agrees

      free : object s d.object ≡ None
      free = g.free (other_number d.object last_number (faultless (layout_of m) s (Create d) f.faultless).number)

      known : d.class < length m.classes
      known = subst (λ (n : ℕ). d.class < n) (class_count m) g.known

      before : count_in m s (a, (e, d.object)) ≡ None
      before = ap (seen (joined s a e d.object)) (stood (layout_of m) s a (opposite e) d.object free)

      now : object (apply (layout_of m) s (Create d)) d.object ≡ Some (object_of d)
      now = put_insert nat_cmp_total exact_unsigned s.objects d.object (object_of d)

      none : (b : Bool) → cond b (Some 0) None ≡ seen [] b
      none true = refl
      none false = refl

      here : recount m (Create d) (a, (e, d.object)) (count_in m s (a, (e, d.object))) ≡ count_in m (apply (layout_of m) s (Create d)) (a, (e, d.object))
      here =
          this_start d.class d.object a e (Some 0) (count_in m s (a, (e, d.object))) known
          ∙ ap (cond (may_stand (layout_of m) a (opposite e) d.class) (Some 0)) before
          ∙ none (may_stand (layout_of m) a (opposite e) d.class)
          ∙ ap (λ os. seen os (may_stand (layout_of m) a (opposite e) d.class)) (sym (unjoined (layout_of m) s a e d.object v free))
          ∙ ap (λ u. seen (joined s a e d.object) (stand (layout_of m) a (opposite e) u)) (sym now)

  pub removed : (d : ObjectChange) → Fits (layout_of m) s (Remove d) → (n : Navigation)
      → recount m (Remove d) n (count_in m s n) ≡ count_in m (apply (layout_of m) s (Remove d)) n
  removed d f (a, (e, p)) = by_number p d.object (λ same. subst (λ (q : ℕ). recount m (Remove d) (a, (e, q)) (count_in m s (a, (e, q)))
      ≡ count_in m (apply (layout_of m) s (Remove d)) (a, (e, q))) (sym same) here)
      (λ ne. other_start d.class d.object a p e None (count_in m s (a, (e, p))) ne
      ∙ ap (λ u. seen (joined s a e p) (stand (layout_of m) a (opposite e) u)) (sym (beside nat_cmp_total exact_unsigned s.objects d.object p v.objects.ordered ne)))
    where
      g : RemovalAgrees (layout_of m) s d
      g = f.agrees

      known : d.class < length m.classes
      known = subst (λ (n : ℕ). d.class < n) (class_count m) g.known

      was : (x : Object) × (object s d.object ≡ Some x)
      was = live (object s d.object) (faultless (layout_of m) s (Remove d) f.faultless).live

      before : count_in m s (a, (e, d.object)) ≡ seen (joined s a e d.object) (may_stand (layout_of m) a (opposite e) d.class)
      before = ap (λ u. seen (joined s a e d.object) (stand (layout_of m) a (opposite e) u)) (was.1 ∙ ap (λ (x : Object). Some x) (g.same was.0 was.1))

      gone : object (apply (layout_of m) s (Remove d)) d.object ≡ None
      gone = gone_remove nat_cmp_total exact_unsigned s.objects d.object v.objects.ordered

      none : (b : Bool) → cond b None (seen (joined s a e d.object) b) ≡ None
      none true = refl
      none false = refl

      here : recount m (Remove d) (a, (e, d.object)) (count_in m s (a, (e, d.object))) ≡ count_in m (apply (layout_of m) s (Remove d)) (a, (e, d.object))
      here =
          this_start d.class d.object a e None (count_in m s (a, (e, d.object))) known
          ∙ ap (cond (may_stand (layout_of m) a (opposite e) d.class) None) before
          ∙ none (may_stand (layout_of m) a (opposite e) d.class)
          ∙ sym (ap (λ u. seen (joined s a e d.object) (stand (layout_of m) a (opposite e) u)) gone)

  pub set : (o b : ℕ) (old new : Value) → Fits (layout_of m) s (SetSlot o b old new) → (n : Navigation)
      → count_in m s n ≡ count_in m (apply (layout_of m) s (SetSlot o b old new)) n
  set o b old new f (a, (e, p)) =
      let was = live (object s o) (faultless (layout_of m) s (SetSlot o b old new) f.faultless).live in
      let x' = with_slot (layout_of m) was.0 b new in
      let now : object (with_object s o x') o ≡ Some x' = lookup_set_here (is_at (nat_cmp o)) s.objects was.0 x' was.1 in
      (by_number p o
      (λ same. subst (λ (q : ℕ). count_in m s (a, (e, q)) ≡ count_in m (with_object s o x') (a, (e, q))) (sym same)
      (ap (λ u. seen (joined s a e o) (stand (layout_of m) a (opposite e) u)) was.1
      ∙ ap (λ c. seen (joined s a e o) (may_stand (layout_of m) a (opposite e) c)) (sym (class_set_at (place (layout_of m) was.0.class b) was.0 new))
      ∙ sym (ap (λ u. seen (joined s a e o) (stand (layout_of m) a (opposite e) u)) now)))
      (λ ne. ap (λ u. seen (joined s a e p) (stand (layout_of m) a (opposite e) u)) (sym (kept_set nat_cmp_total exact_unsigned s.objects o x' was.0 p was.1 ne))))
      ∙ ap (λ t. count_in m t (a, (e, p))) (sym (apply_set (layout_of m) s o b old new was.0 was.1))

  few : (a o : ℕ) (e : End) → length (joined s a e o) ≤ 50000
  few a o e =
      let long : length (joined s a e o) ≡ length (filter (has_at a (opposite e) o) s.links)
      = length-map (filter (has_at a (opposite e) o) s.links) (λ entry. end_of entry.1 e) in
      let less = fewer (has_at a (opposite e) o) s.links in
      let fit : length s.links ≤ max_links = v.links.fit in
      omega arith

  joined_count : (t : State) (a p : ℕ) (e : End) → length (joined t a e p) ≡ length (filter (has_at a (opposite e) p) t.links)
  joined_count t a p e = length-map (filter (has_at a (opposite e) p) t.links) (λ entry. end_of entry.1 e)

  pub linked_in : (d : LinkChange) → Fits (layout_of m) s (Link d) → (n : Navigation)
      → recount m (Link d) n (count_in m s n) ≡ count_in m (apply (layout_of m) s (Link d)) n
  linked_in d f (a, (e, p)) = by_test (reaches (a, (e, p)) d)
      (λ y. ap (λ b. cond b (one_more (seen (joined s a e p) (stands (layout_of m) s a (opposite e) p))) (seen (joined s a e p) (stands (layout_of m) s a (opposite e) p))) y
      ∙ ap one_more (seen_length (joined s a e p) (stands (layout_of m) s a (opposite e) p))
      ∙ more (stands (layout_of m) s a (opposite e) p) (length (joined s a e p)) (length (joined (apply (layout_of m) s (Link d)) a e p)) (few a p e) (joined_count (apply (layout_of m) s (Link d)) a p e
      ∙ filter_insert_in link_total (has_at a (opposite e) p) s.links (d.assoc, d.stamp) (d.first, d.second) free y
      ∙ ap suc (sym (joined_count s a p e)))
      ∙ sym (seen_length (joined (apply (layout_of m) s (Link d)) a e p) (stands (layout_of m) s a (opposite e) p)))
      (λ n. ap (λ b. cond b (one_more (seen (joined s a e p) (stands (layout_of m) s a (opposite e) p))) (seen (joined s a e p) (stands (layout_of m) s a (opposite e) p))) n
      ∙ ap (λ (es : List Joint). seen (map (λ entry. end_of entry.1 e) es) (stands (layout_of m) s a (opposite e) p))
      (sym (filter_insert_out link_total (has_at a (opposite e) p) s.links (d.assoc, d.stamp) (d.first, d.second) free n)))
    where
      free : link s (d.assoc, d.stamp) ≡ None
      free = link_free (layout_of m) s d f

      more : (b : Bool) (j k : ℕ) → j ≤ 50000 → k ≡ suc j → one_more (cond b (Some j) None) ≡ cond b (Some k) None
      more true j k h q = ap (λ (n : ℕ). Some n) (omega arith)
      more false j k h q = refl

  pub unlinked : (d : LinkChange) → Fits (layout_of m) s (Unlink d) → (n : Navigation)
      → recount m (Unlink d) n (count_in m s n) ≡ count_in m (apply (layout_of m) s (Unlink d)) n
  unlinked d f (a, (e, p)) = by_test (reaches (a, (e, p)) d)
      (λ y. ap (λ b. cond b (one_less (seen (joined s a e p) (stands (layout_of m) s a (opposite e) p))) (seen (joined s a e p) (stands (layout_of m) s a (opposite e) p))) y
      ∙ ap one_less (seen_length (joined s a e p) (stands (layout_of m) s a (opposite e) p))
      ∙ less (stands (layout_of m) s a (opposite e) p) (length (joined s a e p)) (length (joined (apply (layout_of m) s (Unlink d)) a e p)) (joined_count s a p e
      ∙ ap (λ (es : List Joint). length (filter (has_at a (opposite e) p) es)) (sym back)
      ∙ filter_insert_in link_total (has_at a (opposite e) p) (apply (layout_of m) s (Unlink d)).links (d.assoc, d.stamp) (d.first, d.second) free y
      ∙ ap suc (sym (joined_count (apply (layout_of m) s (Unlink d)) a p e)))
      ∙ sym (seen_length (joined (apply (layout_of m) s (Unlink d)) a e p) (stands (layout_of m) s a (opposite e) p)))
      (λ n. ap (λ b. cond b (one_less (seen (joined s a e p) (stands (layout_of m) s a (opposite e) p))) (seen (joined s a e p) (stands (layout_of m) s a (opposite e) p))) n
      ∙ ap (λ (es : List Joint). seen (map (λ entry. end_of entry.1 e) es) (stands (layout_of m) s a (opposite e) p))
      (ap (filter (has_at a (opposite e) p)) (sym back)
      ∙ filter_insert_out link_total (has_at a (opposite e) p) (apply (layout_of m) s (Unlink d)).links (d.assoc, d.stamp) (d.first, d.second) free n))
    where
      g : UnlinkingAgrees (layout_of m) s d
      g = f.agrees

      was : link s (d.assoc, d.stamp) ≡ Some (d.first, d.second)
      was = stamp_is (layout_of m) s d v.links.ordered g (turned (is_linked s d) (faultless (layout_of m) s (Unlink d) f.faultless).there)

      back : insert_entry link_cmp (apply (layout_of m) s (Unlink d)).links (d.assoc, d.stamp) (d.first, d.second) ≡ s.links
      back = insert_removed link_total link_exact s.links (d.assoc, d.stamp) (d.first, d.second) v.links.ordered was

      free : lookup (is_at (link_cmp (d.assoc, d.stamp))) (apply (layout_of m) s (Unlink d)).links ≡ None
      free = gone_remove link_total link_exact s.links (d.assoc, d.stamp) v.links.ordered

      less : (b : Bool) (j k : ℕ) → j ≡ suc k → one_less (cond b (Some j) None) ≡ cond b (Some k) None
      less true j k q = ap (λ (n : ℕ). Some n) (omega arith)
      less false j k q = refl

  pub recounted : (c : Change) → Fits (layout_of m) s c → (n : Navigation) → recount m c n (count_in m s n) ≡ count_in m (apply (layout_of m) s c) n
  recounted (Create d) f n = created d f n
  recounted (Remove d) f n = removed d f n
  recounted (SetSlot o b old new) f n = set o b old new f n
  recounted (Link d) f n = linked_in d f n
  recounted (Unlink d) f n = unlinked d f n
  recounted (Bind name old new) f n = refl
  recounted (Unbind name old) f n = refl

-- counts that are replaced by a change stand for the state after it
pub follows : (m : ObjectModel) (c : Change) (old new : Counts) → Recounts m (recount m c) old new → (s : State) → StandsFor m old s → Fits (layout_of m) s c
    → IsValid (layout_of m) (apply (layout_of m) s c) → StandsFor m new (apply (layout_of m) s c)
follows m c old new r s stands f valid = record {
  valid = valid;
  counts = λ n. r.counts n ∙ ap (recount m c n) (stands.counts n) ∙ recounted m s stands.valid c f n;
  broken = r.broken stands.broken;
}

-- nothing is counted where nothing is
pub begins : (m : ObjectModel) (counts broken : List (Navigation × ℕ)) → counts ≡ [] → broken ≡ [] → StandsFor m (record { counts = counts; broken = broken }) empty
begins m counts broken e f = record {
  valid = empty_valid (layout_of m);
  counts = λ n. ap (λ (es : List (Navigation × ℕ)). counted es n) e;
  broken = λ n. ap (λ (es : List (Navigation × ℕ)). found es n) f
      ∙ sym (ap (λ (es : List (Navigation × ℕ)). option_and_then (unless_allowed m n) (counted es n)) e);
}
