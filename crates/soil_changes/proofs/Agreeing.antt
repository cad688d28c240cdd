-- The changes that acts propose agree with the state.
use Rattle.std.proofs.Common.{◌≡◌, ◌≢◌, ℕ, ◌<◌, Bool, true, false, ◌&&◌, ◌||◌, cond, List, [], ◌∷◌, length, Option, Some, None, refl, sym, ap, ◌∙◌, subst, true≢false}
use Rattle.std.specs.BTreeMap.{is_at}
use Rattle.std.specs.List.{filter}
use Rattle.std.specs.Map.{lookup}
use Rattle.std.specs.Option.{option_and_then, option_map_or}
use Rattle.std.specs.Prelude.{nat_eq, slice_get}
use Rattle.std.proofs.lemmas.Bool.{eq-eqb}
use Rattle.std.proofs.lemmas.Option.{slice_get_within}
use Rattle.class_model.specs.declared.numbers.End.TheVariants.{First, Second}
use Rattle.ocl_values.specs.declared.value.Value.{Value}
use Rattle.ocl_values.specs.Shape.{IsWellMade}
use Rattle.object_state.specs.declared.cell.Cell.TheVariants.{Slot}
use Rattle.object_state.specs.declared.layout.AssocLayout.{AssocLayout}
use Rattle.object_state.specs.declared.layout.Layout.{Layout}
use Rattle.object_state.specs.declared.objects.Object.{Object}
use Rattle.object_state.specs.Faults.{RemovalAgrees, SettingAgrees, UnlinkingAgrees}
use Rattle.object_state.specs.Layouts.{class_at, is_a, may_stand, slot}
use Rattle.object_state.specs.Looks.{IsWellMadeLook, value_look, value_of}
use Rattle.std.specs.List.{find}
use Rattle.object_state.specs.State.{State, link, link_cmp, object, stamp_of}
use Rattle.object_state.specs.Looks.{stands}
use Rattle.object_state.specs.Proposals.{may_be_at}
use Rattle.class_model.specs.declared.numbers.End.{End}
use Rattle.std.specs.Option.{option_map}
use Rattle.object_state.specs.Valid.{IsValid}
use Rattle.object_state.proofs.Back.{inside_some, link_exact, link_found}
use Rattle.object_state.proofs.Keyed.{by_test, equal, some≢none}
use Rattle.object_state.proofs.Seen.{well}
use Rattle.object_referrers.specs.Referring.{links_of}
use Rattle.object_referrers.proofs.Names.{there}
use Rattle.object_referrers.proofs.Placed.{or_true}
use Rattle.soil_changes.specs.Destroying.{removal}
use Rattle.soil_changes.specs.Joining.{unlinking}

module _ (l : Layout) (s : State) (v : IsValid l s) where
  -- where there is a link, its association is one of the layout's
  known : (k pair : ℕ × ℕ) → link s k ≡ Some pair → k.0 < length l.assocs
  known k pair h =
      let live = there (λ (x : Object). may_stand l k.0 First x.class) (object s pair.0) (v.joins k pair h).first in
      let ends = there (λ (x : AssocLayout). is_a l live.0.class (class_at x First)) (slice_get l.assocs k.0) live.2 in
      slice_get_within l.assocs k.0 ends.0 ends.1

  pub unlinking_agrees : (a f g st : ℕ) → link s (a, st) ≡ Some (f, g) → UnlinkingAgrees l s (unlinking s a f g st)
  unlinking_agrees a f g st h = record {
    ends = record {
      known = known (a, st) (f, g) h;
      first = λ x e. sym (ap (λ (u : Option Object). option_map_or (λ x. may_stand l a First x.class) u false) e) ∙ (v.joins (a, st) (f, g) h).first;
      second = λ x e. sym (ap (λ (u : Option Object). option_map_or (λ x. may_stand l a Second x.class) u false) e) ∙ (v.joins (a, st) (f, g) h).second;
      before = refl;
      after = v.links.counter;
    };
    same = λ k e t. v.links.once k (a, st) (f, g) e h t;
    others = λ k pair e n. v.links.below k pair e;
  }

  pub well_made : (o a : ℕ) (old : Value) → value_of l s o a ≡ Some old → IsWellMade old
  well_made o a old h = subst (λ (u : Option Value). IsWellMadeLook (value_look u)) h (well l s (Slot o a) v)

  pub setting_agrees : (o a : ℕ) (old new : Value) → value_of l s o a ≡ Some old → IsWellMade new → SettingAgrees l s o a old new
  setting_agrees o a old new h w = record {
    values = (well_made o a old h, w);
    same = λ x e. sym (ap (λ (u : Option Object). option_and_then (λ x. slot l x a) u) e) ∙ h;
  }

  -- no link has an object where none is found
  apart : (o : ℕ) (es : List ((ℕ × ℕ) × (ℕ × ℕ))) → filter (λ e. nat_eq e.1.0 o || nat_eq e.1.1 o) es ≡ [] → (k pair : ℕ × ℕ)
      → lookup (is_at (link_cmp k)) es ≡ Some pair → (nat_eq pair.0 o || nat_eq pair.1 o) ≡ false
  apart o [] h k pair e = absurd (some≢none pair (sym e))
  apart o (x ∷ xs) h k pair e = by_test (nat_eq x.1.0 o || nat_eq x.1.1 o)
      (λ y. absurd (filled (sym (ap (λ b. cond b (x ∷ filter (λ e. nat_eq e.1.0 o || nat_eq e.1.1 o) xs) (filter (λ e. nat_eq e.1.0 o || nat_eq e.1.1 o) xs)) y) ∙ h)))
      (λ n. by_test (is_at (link_cmp k) x.0)
      (λ y.
      let same : x.1 ≡ pair = inside_some x.1 pair (sym (ap (λ b. cond b (Some x.1) (lookup (is_at (link_cmp k)) xs)) y) ∙ e) in
      ap (λ (z : ℕ × ℕ). nat_eq z.0 o || nat_eq z.1 o) (sym same) ∙ n)
      (λ m. apart o xs (sym (ap (λ b. cond b (x ∷ filter (λ e. nat_eq e.1.0 o || nat_eq e.1.1 o) xs) (filter (λ e. nat_eq e.1.0 o || nat_eq e.1.1 o) xs)) n) ∙ h) k pair
      (sym (ap (λ b. cond b (Some x.1) (lookup (is_at (link_cmp k)) xs)) m) ∙ e)))
    where
      filled : {X : Type 0} {x : X} {xs : List X} → (x ∷ xs) ≡ [] → ⊥
      filled e = cc

  pub removal_agrees : (o : ℕ) (x : Object) → object s o ≡ Some x → links_of s o ≡ [] → RemovalAgrees l s (removal s o x)
  removal_agrees o x h none = record {
    known = (v.objects.instances o x h).known;
    values = (v.objects.instances o x h).values;
    before = refl;
    after = v.objects.counter;
    same = λ y e. inside_some y x (sym e ∙ h);
    unlinked = λ k pair e.
        let out = apart o s.links none k pair e in (
          λ t. true≢false (sym (ap (λ b. b || nat_eq pair.1 o) (eq-eqb pair.0 o t)) ∙ out),
          λ t. true≢false (sym (or_true (nat_eq pair.0 o)) ∙ ap (λ b. nat_eq pair.0 o || b) (sym (eq-eqb pair.1 o t)) ∙ out),
        );
    others = λ p y e n. v.objects.below p y e;
  }

  -- the link of a pair, by its stamp
  pub stamp_there : (a f g st : ℕ) → stamp_of s a f g ≡ Some st → link s (a, st) ≡ Some (f, g)
  stamp_there a f g st h = by (find (λ e. nat_eq e.0.0 a && nat_eq e.1.0 f && nat_eq e.1.1 g) s.links) refl h
    where
      by : (u : Option ((ℕ × ℕ) × (ℕ × ℕ))) → find (λ e. nat_eq e.0.0 a && nat_eq e.1.0 f && nat_eq e.1.1 g) s.links ≡ u
          → option_map (λ e. e.0.1) u ≡ Some st → link s (a, st) ≡ Some (f, g)
      by None e t = absurd (some≢none st (sym t))
      by (Some e) r t =
          let k = link_found s a f g e r v.links.ordered in
          let stamp : e.0.1 ≡ st = inside_some e.0.1 st t in
          subst (λ (z : ℕ × ℕ). link s z ≡ Some (f, g)) (λ i. (k.1 i, stamp i)) k.0

-- a live object that may stand at an end
pub may_stand_there : (l : Layout) (s : State) (a : ℕ) (e : End) (o : ℕ) → stands l s a e o ≡ true → may_be_at l s a e o ≡ true
may_stand_there l s a e o h = by (object s o) h
  where
    by : (u : Option Object) → option_map_or (λ x. may_stand l a e x.class) u false ≡ true → option_map_or (λ x. may_stand l a e x.class) u true ≡ true
    by None h = absurd (true≢false (sym h))
    by (Some x) h = h
