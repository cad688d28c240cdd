-- A change that fits what a store holds: what it needs of the tables, and what it leaves.
use Rattle.std.proofs.Common.{◌≡◌, ◌+◌, ◌≤◌, ◌<◌, ◌^◌, length, ℕ, Bool, true, false, ◌&&◌, List, Option, Some, None, refl, sym, ap, ◌∙◌, subst, true≢false, arith}
use Rattle.std.specs.BTreeMap.{is_at}
use Rattle.std.specs.Map.{set_value}
use Rattle.std.specs.Option.{is_some, option_map_or}
use Rattle.std.specs.Ordering.{nat_cmp}
use Rattle.std.specs.Prelude.{nat_lt}
use Rattle.std.proofs.lemmas.Bool.{ltb-false}
use Rattle.ocl_values.specs.declared.value.Value.{Value}
use Rattle.ocl_values.specs.Shape.{sizes_of}
use Rattle.object_state.specs.declared.change.Change.{Change}
use Rattle.object_state.specs.declared.change.Change.TheVariants.{Create, Remove, SetSlot, Link, Unlink, Bind, Unbind}
use Rattle.object_state.specs.declared.change.LinkChange.{LinkChange}
use Rattle.object_state.specs.declared.change.ObjectChange.{ObjectChange}
use Rattle.object_state.specs.declared.layout.Layout.{Layout}
use Rattle.object_state.specs.declared.objects.Object.{Object}
use Rattle.object_state.specs.declared.objects.Variable.{Variable}
use Rattle.object_state.specs.Changes.{apply, object_of, with_object, with_slot}
use Rattle.object_state.specs.Faults.{CreationAgrees, Fits, RemovalAgrees, UnlinkingAgrees, is_linked}
use Rattle.object_state.specs.State.{Diagram, State, link, object, object_named, stamp_of, variable}
use Rattle.object_state.specs.Valid.{IsValid, last_number, max_weight}
use Rattle.object_state.specs.Weights.{gained, lost, variable_weight, weight}
use Rattle.object_state.proofs.Back.{faultless, live, neither, other_number, stamp_is, turned}
use Rattle.object_state.proofs.Bounds.{object_part, old_slot_fits, old_variable_fits, variable_part}
use Rattle.object_state.proofs.Carried.{fits_inside}
use Rattle.object_state.proofs.Kept.{not_stamped, stays_valid}
use Rattle.object_state.proofs.Weighed.{weighs}
use Rattle.object_store.specs.Indexes.{Objects}

module _ (l : Layout) (s : State) (v : IsValid l s) where
  pub object_is_free : (d : ObjectChange) → Fits l s (Create d) → object s d.object ≡ None
  object_is_free d f =
      let g : CreationAgrees l s d = f.agrees in
      g.free (other_number d.object last_number (faultless l s (Create d) f.faultless).number)

  pub name_is_free : (d : ObjectChange) → Fits l s (Create d) → object_named s d.name ≡ None
  name_is_free d f =
      not_stamped (object_named s d.name) (neither (is_some (object_named s d.name)) (is_some (variable s d.name)) (faultless l s
      (Create d) f.faultless).name).0

  pub object_is_there : (d : ObjectChange) → Fits l s (Remove d) → object s d.object ≡ Some (object_of d)
  object_is_there d f =
      let g : RemovalAgrees l s d = f.agrees in
      let k = live (object s d.object) (faultless l s (Remove d) f.faultless).live in
      k.1 ∙ ap (λ (x : Object). Some x) (g.same k.0 k.1)

  pub pair_is_free : (d : LinkChange) → Fits l s (Link d) → stamp_of s d.assoc d.first d.second ≡ None
  pair_is_free d f = not_stamped (stamp_of s d.assoc d.first d.second) (faultless l s (Link d) f.faultless).fresh

  pub links_are_few : length s.links < 2 ^ 32
  links_are_few = let light = v.light in omega (arith, light)

  pub link_is_there : (d : LinkChange) → Fits l s (Unlink d) → link s (d.assoc, d.stamp) ≡ Some (d.first, d.second)
  link_is_there d f =
      let g : UnlinkingAgrees l s d = f.agrees in
      stamp_is l s d v.links.ordered g (turned (is_linked s d) (faultless l s (Unlink d) f.faultless).there)

  -- what a change takes out weighs no more than a state may
  pub lost_fits : (c : Change) → Fits l s c → lost c ≤ max_weight
  lost_fits (Create d) f = omega arith
  lost_fits (Remove d) f = let h = object_part s d.object (object_of d) (object_is_there d f) in let light = v.light in up (1 + sizes_of d.slots)
      (weight s) h light
    where
      up : (a b : ℕ) → a ≤ b → b ≤ max_weight → a ≤ max_weight
      up a b h k = omega arith
  lost_fits (SetSlot o a old new) f = old_slot_fits l s o a old new v f.agrees (faultless l s (SetSlot o a old new) f.faultless).live
  lost_fits (Link d) f = omega arith
  lost_fits (Unlink d) f = omega arith
  lost_fits (Bind name old new) f = old_variable_fits l s name old new v f.agrees
  lost_fits (Unbind name old) f = let h = variable_part s name old f.agrees in let light = v.light in up (variable_weight old) (weight s) h light
    where
      up : (a b : ℕ) → a ≤ b → b ≤ max_weight → a ≤ max_weight
      up a b h k = omega arith

  not_heavy : (w m lo ga : ℕ) → (nat_lt lo ga && nat_lt (m + lo) (w + ga)) ≡ false → w ≤ m → w + ga ≤ m + lo
  not_heavy w m lo ga h up = by (nat_lt lo ga) (nat_lt (m + lo) (w + ga)) refl refl h
    where
      by : (a b : Bool) → nat_lt lo ga ≡ a → nat_lt (m + lo) (w + ga) ≡ b → (a && b) ≡ false → w + ga ≤ m + lo
      by true true e f h = absurd (true≢false h)
      by true false e f h = let k = ltb-false (m + lo) (w + ga) f in omega arith
      by false b e f h = let k = ltb-false lo ga e in omega arith

  -- nor does what it brings
  pub gained_fits : (c : Change) → Fits l s c → weight s + gained c ≤ max_weight + max_weight
  gained_fits c f = up (weight s + gained c) max_weight (lost c) (not_heavy (weight s) max_weight (lost c) (gained c)
      (faultless l s c f.faultless).light v.light)
      (lost_fits c f)
    where
      up : (a m lo : ℕ) → a ≤ m + lo → lo ≤ m → a ≤ m + m
      up a m lo h k = omega arith

  pub lost_was_there : (c : Change) → Fits l s c → lost c ≤ weight s + gained c
  lost_was_there c f = let e = weighs l s c v f in below (weight (apply l s c)) (lost c) (weight s + gained c) e
    where
      below : (a b t : ℕ) → a + b ≡ t → b ≤ t
      below a b t e = omega arith

same_rest : (a b n t : ℕ) → a + n ≡ t → b + n ≡ t → a ≡ b
same_rest a b n t e f = omega arith

-- what a change leaves is valid, and weighs what is kept
pub left : (d d' : Diagram) (c : Change) (w' : ℕ) → IsValid d.layout d.state → Fits d.layout d.state c
    → d' ≡ record d { state = apply d.layout d.state c } → w' + lost c ≡ weight d.state + gained c → IsValid d'.layout d'.state × (w' ≡ weight d'.state)
left d d' c w' v f e h =
    subst (λ (x : Diagram). IsValid x.layout x.state × (w' ≡ weight x.state)) (sym e) (
      stays_valid d.layout d.state c v f,
      same_rest w' (weight (apply d.layout d.state c)) (lost c) (weight d.state + gained c) h
          (weighs d.layout d.state c v f),
    )

-- the weight that is kept, after a change
pub weighed : (c c' : Change) (w w0 : ℕ) (s : State) → c ≡ c' → w0 ≡ weight s → w + lost c ≡ w0 + gained c → w + lost c' ≡ weight s + gained c'
weighed c c' w w0 s e f h = subst (λ (x : Change). w + lost x ≡ weight s + gained x) e (subst (λ (n : ℕ). w + lost c ≡ n + gained c) f h)

abbrev pub diagram_of : Layout → State → Diagram
diagram_of l s = record { layout = l; state = s }

-- a value that is stored in an object
pub stored : (l : Layout) (s : State) (o a : ℕ) (old new : Value) (t : Objects)
    → t ≡ record { layout = l; objects = option_map_or (λ (x : Object). set_value (is_at (nat_cmp o)) s.objects (with_slot l x a new)) (object s o) s.objects }
    → diagram_of t.layout (record s { objects = t.objects }) ≡ diagram_of l (apply l s (SetSlot o a old new))
stored l s o a old new t e =
    (λ i. diagram_of (e i).layout (record s { objects = (e i).objects })) ∙ by (object s o)
  where
    by : (u : Option Object) → diagram_of l (record s {
      objects = option_map_or (λ (x : Object). set_value (is_at (nat_cmp o)) s.objects (with_slot l x a new)) u
          s.objects;
    }) ≡ diagram_of l (option_map_or (λ (x : Object). with_object s o (with_slot l x a new)) u s)
    by None = refl
    by (Some x) = refl

-- a state from what a store holds of it
abbrev pub held : Objects → List ((ℕ × ℕ) × (ℕ × ℕ)) → List (List ℕ × Variable) → ℕ → ℕ → Diagram
held t links variables next_object next_stamp =
    diagram_of t.layout (record { objects = t.objects; links = links; variables = variables; next_object = next_object; next_stamp = next_stamp })

-- a change that is carried out
pub carried : (d d' : Diagram) (l : Layout) (s : State) (c c' : Change) (w w' : ℕ) → diagram_of l s ≡ d → Fits d.layout d.state c → c ≡ c' → IsValid l s
    → w ≡ weight s → w' + lost c ≡ w + gained c → d' ≡ diagram_of l (apply l s c') → IsValid d'.layout d'.state × (w' ≡ weight d'.state)
carried d d' l s c c' w w' view fits is valid weighs weighs' e =
    left (diagram_of l s) d' c' w' valid (fits_inside d l s c c' view fits is) e (weighed c c' w' w s is weighs weighs')
