-- The touched cells are those that a change alters.
use Rattle.std.proofs.Common.{◌≡◌, ◌≢◌, ◌↔◌, ℕ, ◌+◌, ◌<◌, ◌≤◌, zero, suc, Bool, true, false, cond, ◌&&◌, ◌||◌, List, [], ◌∷◌, length, map, slice_set, Option, Some, None, refl, sym, ap, ◌∙◌, subst, true≢false, arith}
use Rattle.std.specs.BTreeMap.{insert_entry, is_at}
use Rattle.std.specs.Cmp.{nat_cmp_total}
use Rattle.std.specs.List.{filter, list_any, position, position_or_len, slice_get}
use Rattle.std.specs.Map.{lookup, set_value}
use Rattle.std.specs.Option.{is_some, option_and_then, option_map_or}
use Rattle.std.specs.Ordering.{nat_cmp}
use Rattle.std.specs.Prelude.{nat_eq, nat_lt, IsTrue}
use Rattle.std.proofs.lemmas.Bool.{eq-eqb, eqb-true, lt-ltb, ltb-true}
use Rattle.std.proofs.lemmas.List.{length-map}
use Rattle.std.proofs.lemmas.List.Quantifiers.{position-Some}
use Rattle.std.proofs.lemmas.Map.Lookups.{exact_unsigned}
use Rattle.ocl_values.specs.declared.value.Value.{Value}
use Rattle.ocl_values.specs.declared.value.Value.TheVariants.{Obj}
use Rattle.class_model.specs.declared.numbers.End.{End}
use Rattle.class_model.specs.declared.numbers.End.TheVariants.{First, Second}
use Rattle.class_model.specs.Ends.{opposite}
use Rattle.object_state.specs.declared.cell.Cell.{Cell}
use Rattle.object_state.specs.declared.cell.Cell.TheVariants.{Kind, Slot, Nav, Extent}
use Rattle.object_state.specs.declared.cell.Look.{Look}
use Rattle.object_state.specs.declared.cell.Look.TheVariants as L
use Rattle.object_state.specs.declared.change.Change.{Change}
use Rattle.object_state.specs.declared.change.Change.TheVariants.{Create, Remove, SetSlot, Link, Unlink, Bind, Unbind}
use Rattle.object_state.specs.declared.change.LinkChange.{LinkChange}
use Rattle.object_state.specs.declared.change.ObjectChange.{ObjectChange}
use Rattle.object_state.specs.declared.layout.Layout.{Layout}
use Rattle.object_state.specs.declared.objects.Object.{Object}
use Rattle.object_state.specs.declared.objects.Variable.{Variable}
use Rattle.object_state.specs.Changes.{apply, inverse, link_back, object_back, object_of, with_object, with_slot}
use Rattle.object_state.specs.Faults.{CreationAgrees, Fits, LinkingAgrees, SettingAgrees}
use Rattle.object_state.specs.Layouts.{attrs, is_a, may_stand, place, slot}
use Rattle.object_state.specs.Looks.{class_look, class_of, end_of, extent, has_at, items_at, items_look, joined, look, stands, value_look, value_of}
use Rattle.object_state.specs.State.{State, link, link_cmp, object}
use Rattle.object_state.specs.Touched.{Alters, SetsAnother, cells_of, has_cell, touched}
use Rattle.object_state.specs.Valid.{IsValid, last_number}
use Rattle.object_state.proofs.Back.{apply_set, class_set_at, ends_live, faultless, inside_some, link_free, link_total, live, other_number, set_at, taken_back}
use Rattle.object_state.proofs.Hits.{cells_hit, has_same, hits, same}
use Rattle.object_state.proofs.Keyed.{both, by_test, equal, filter_insert_in, filter_insert_out, kept_set, lookup_insert, lookup_set_here, put_insert, some≢none}
use Rattle.object_state.proofs.Kept.{by_number, stays_valid}
use Rattle.object_state.proofs.Refit.{fits_back, get_set}

-- a test tells whether the looks of two states differ
pub record Tells (hit : Bool) (a b : Look) : Type 0 where
  pub hits : hit ≡ true → a ≢ b
  pub misses : hit ≡ false → a ≡ b

told : (hit : Bool) (a b : Look) → Tells hit a b → IsTrue hit ↔ (¬ (a ≡ b))
told hit a b t = (λ h. t.hits h, λ n. by_test hit (λ y. y) (λ m. absurd (n (t.misses m))))

turned : (hit : Bool) (a b : Look) → Tells hit a b → Tells hit b a
turned hit a b t = record { hits = λ h e. t.hits h (sym e); misses = λ h. sym (t.misses h) }

equal_looks : (hit : Bool) (a b : Look) → hit ≡ false → a ≡ b → Tells hit a b
equal_looks hit a b h e = record { hits = λ k. absurd (true≢false (sym k ∙ h)); misses = λ k. e }

-- looks of different forms
absent_class : (c : ℕ) → L.Absent ≡ L.Class c → ⊥
absent_class c e = cc

absent_value : (v : Value) → L.Absent ≡ L.Value v → ⊥
absent_value v e = cc

absent_items : (vs : List Value) → L.Absent ≡ L.Items vs → ⊥
absent_items vs e = cc

inside_items : (vs ws : List Value) → L.Items vs ≡ L.Items ws → vs ≡ ws
inside_items vs ws e = cc

inside_value : (v w : Value) → L.Value v ≡ L.Value w → v ≡ w
inside_value v w e = cc

longer : {A : Type 0} (f : A → ℕ) (xs ys : List A) → length ys ≡ suc (length xs) → L.Items (map Obj (map f xs)) ≢ L.Items (map Obj (map f ys))
longer f xs ys h e =
    let k : length (map Obj (map f xs)) ≡ length (map Obj (map f ys)) = ap length (inside_items _ _ e) in
    let a : length (map Obj (map f xs)) ≡ length xs = length-map (map f xs) Obj ∙ length-map xs f in
    let b : length (map Obj (map f ys)) ≡ length ys = length-map (map f ys) Obj ∙ length-map ys f in
    absurd (omega arith)

-- where an attribute is kept
front : (p : ℕ → Bool) (xs : List ℕ) → list_any p xs ≡ true → position_or_len p xs < length xs
front p [] h = absurd (true≢false (sym h))
front p (x ∷ xs) h =
    by_test (p x)
    (λ y. rw y (omega arith))
    (λ n. let r = front p xs (sym (ap (λ b. b || list_any p xs) n) ∙ h) in rw n (omega arith))

past : (p : ℕ → Bool) (xs : List ℕ) → list_any p xs ≡ false → length xs ≤ position_or_len p xs
past p [] h = omega arith
past p (x ∷ xs) h =
    by_test (p x)
    (λ y. absurd (true≢false (sym (ap (λ b. b || list_any p xs) y) ∙ h)))
    (λ n. let r = past p xs (sym (ap (λ b. b || list_any p xs) n) ∙ h) in rw n (omega arith))

placed : (l : Layout) (c b : ℕ) → list_any (nat_eq b) (attrs l c) ≡ true → (i : ℕ) × (place l c b ≡ Some i) × (i < length (attrs l c))
placed l c b h =
    let k = front (nat_eq b) (attrs l c) h in
    (position_or_len (nat_eq b) (attrs l c), ap (λ t. cond t (Some (position_or_len (nat_eq b) (attrs l c))) None) (lt-ltb _ _ k), k)

unplaced : (l : Layout) (c b : ℕ) → list_any (nat_eq b) (attrs l c) ≡ false → place l c b ≡ None
unplaced l c b h =
    let k = past (nat_eq b) (attrs l c) h in
    by_test (nat_lt (position_or_len (nat_eq b) (attrs l c)) (length (attrs l c)))
    (λ y. let r = ltb-true _ _ y in absurd (omega arith))
    (λ n. ap (λ t. cond t (Some (position_or_len (nat_eq b) (attrs l c))) None) n)

get_there : {X : Type 0} (xs : List X) (i : ℕ) → i < length xs → (x : X) × (slice_get xs i ≡ Some x)
get_there [] i h = absurd (omega arith)
get_there (x ∷ xs) zero h = (x, refl)
get_there (x ∷ xs) (suc i) h = get_there xs i (omega arith)

not_equal : (a b : ℕ) → a ≢ b → nat_eq a b ≡ false
not_equal a b h = by_test (nat_eq a b) (λ y. absurd (h (eqb-true a b y))) (λ n. n)

first_true : (a b : Bool) → a ≡ true → (a && b) ≡ b
first_true true b h = refl
first_true false b h = absurd (true≢false (sym h))

first_false : (a b : Bool) → a ≡ false → (a && b) ≡ false
first_false true b h = absurd (true≢false h)
first_false false b h = refl

second_false : (a b : Bool) → b ≡ false → (a && b) ≡ false
second_false true b h = h
second_false false b h = refl

-- what two tests tell that are one
alike : (h k : Bool) (a b : Look) → h ≡ k → Tells k a b → Tells h a b
alike h k a b e t = subst (λ (z : Bool). Tells z a b) (sym e) t

-- looks that are known
known : (hit : Bool) (a b : Look) → (hit ≡ true → a ≢ b) → (hit ≡ false → a ≡ b) → Tells hit a b
known hit a b f g = record { hits = f; misses = g }

differing : (hit : Bool) (a b : Look) → hit ≡ true → a ≢ b → Tells hit a b
differing hit a b h f = record { hits = λ k. f; misses = λ k. absurd (true≢false (sym h ∙ k)) }

-- an object that comes
free : (l : Layout) (s : State) (d : ObjectChange) → Fits l s (Create d) → object s d.object ≡ None
free l s d f = let g : CreationAgrees l s d = f.agrees in g.free (other_number d.object last_number (faultless l s (Create d) f.faultless).number)

put : (l : Layout) (s : State) (d : ObjectChange) → object (apply l s (Create d)) d.object ≡ Some (object_of d)
put l s d = put_insert nat_cmp_total exact_unsigned s.objects d.object (object_of d)

others : (l : Layout) (s : State) (d : ObjectChange) (p : ℕ) → p ≢ d.object → object (apply l s (Create d)) p ≡ object s p
others l s d p ne =
    lookup_insert nat_cmp_total s.objects d.object (object_of d) p
    ∙ by_test (is_at (nat_cmp p) d.object) (λ y. absurd (ne (exact_unsigned p d.object (equal _ y)))) (λ n. ap (λ b. cond b (Some (object_of d))
    (object s p)) n)

abbrev kind_look : Option Object → Look
kind_look u = class_look (option_and_then (λ (x : Object). Some x.class) u)

abbrev slot_look : Layout → ℕ → Option Object → Look
slot_look l b u = value_look (option_and_then (λ (x : Object). slot l x b) u)

abbrev stand : Layout → ℕ → End → Option Object → Bool
stand l a e u = option_map_or (λ (x : Object). may_stand l a e x.class) u false

abbrev nav_look : List Value → Bool → Look
nav_look vs b = items_look (cond b (Some vs) None)

created : (l : Layout) (s : State) (d : ObjectChange) → IsValid l s → Fits l s (Create d) → (x : Cell)
    → Tells (hits l d x) (look l s x) (look l (apply l s (Create d)) x)
created l s d v f (Kind p) =
    by_number p d.object
    (λ eq.
    let before : look l s (Kind p) ≡ L.Absent = ap kind_look (ap (λ (q : ℕ). object s q) eq ∙ free l s d f) in
    let after : look l (apply l s (Create d)) (Kind p) ≡ L.Class d.class = ap kind_look (ap (λ (q : ℕ). object (apply l s (Create d)) q) eq ∙ put l s d) in
    differing _ _ _ (eq-eqb p d.object eq) (λ e. absent_class d.class (sym before ∙ e ∙ after)))
    (λ ne. equal_looks _ _ _ (not_equal p d.object ne) (ap kind_look (sym (others l s d p ne))))
created l s d v f (Slot p b) =
    by_number p d.object
    (λ eq.
    let g : CreationAgrees l s d = f.agrees in
    let before : look l s (Slot p b) ≡ L.Absent = ap (slot_look l b) (ap (λ (q : ℕ). object s q) eq ∙ free l s d f) in
    let after : look l (apply l s (Create d)) (Slot p b) ≡ value_look (slot l (object_of d) b) = ap (slot_look l b) (ap (λ (q : ℕ). object (apply l s
    (Create d)) q) eq ∙ put l s d) in
    alike (hits l d (Slot p b)) (list_any (nat_eq b) (attrs l d.class)) _ _ (first_true (nat_eq p d.object) _ (eq-eqb p d.object eq))
    (known (list_any (nat_eq b) (attrs l d.class)) _ _
    (λ h e.
    let at = placed l d.class b h in
    let value = get_there d.slots at.0 (subst (λ (n : ℕ). at.0 < n) (sym g.whole) at.2) in
    absent_value value.0 (sym before ∙ e ∙ after ∙ ap (λ (u : Option ℕ). value_look (option_and_then (slice_get d.slots) u)) at.1 ∙ ap value_look value.1))
    (λ h. before ∙ sym (after ∙ ap (λ (u : Option ℕ). value_look (option_and_then (slice_get d.slots) u)) (unplaced l d.class b h)))))
    (λ ne. equal_looks _ _ _ (first_false (nat_eq p d.object) _ (not_equal p d.object ne)) (ap (slot_look l b) (sym (others l s d p ne))))
created l s d v f (Nav a e p) =
    by_number p d.object
    (λ eq.
    let items = map Obj (joined s a e p) in
    let before : look l s (Nav a e p) ≡ L.Absent = ap (λ (u : Option Object). nav_look items (stand l a (opposite e) u)) (ap (λ (q : ℕ). object s q) eq
    ∙ free l s d f) in
    let after : look l (apply l s (Create d)) (Nav a e p) ≡ nav_look items (may_stand l a (opposite e) d.class)
    = ap (λ (u : Option Object). nav_look items (stand l a (opposite e) u)) (ap (λ (q : ℕ). object (apply l s (Create d)) q) eq ∙ put l s d) in
    alike (hits l d (Nav a e p)) (may_stand l a (opposite e) d.class) _ _ (first_true (nat_eq p d.object) _ (eq-eqb p d.object eq))
    (known (may_stand l a (opposite e) d.class) _ _
    (λ h q. absent_items items (sym before ∙ q ∙ after ∙ ap (nav_look items) h))
    (λ h. before ∙ sym (after ∙ ap (nav_look items) h))))
    (λ ne. equal_looks _ _ _ (first_false (nat_eq p d.object) _ (not_equal p d.object ne))
    (ap (λ (u : Option Object). nav_look (map Obj (joined s a e p)) (stand l a (opposite e) u)) (sym (others l s d p ne))))
created l s d v f (Extent c) =
    known (is_a l d.class c) _ _
    (λ h. longer (λ (e : ℕ × Object). e.0) (filter (λ (e : ℕ × Object). is_a l e.1.class c) s.objects) _
    (filter_insert_in nat_cmp_total (λ (e : ℕ × Object). is_a l e.1.class c) s.objects d.object (object_of d) (free l s d f) h))
    (λ h. ap (λ (es : List (ℕ × Object)). L.Items (map Obj (map (λ (e : ℕ × Object). e.0) es)))
    (sym (filter_insert_out nat_cmp_total (λ (e : ℕ × Object). is_a l e.1.class c) s.objects d.object (object_of d) (free l s d f) h)))

-- a link that comes
abbrev pub meets : LinkChange → Cell → Bool
meets d (Nav b e p) = has_at b (opposite e) p ((d.assoc, d.stamp), (d.first, d.second))
meets d (Kind p) = false
meets d (Slot p b) = false
meets d (Extent c) = false

flip : (a b : ℕ) → nat_eq a b ≡ nat_eq b a
flip a b = by_test (nat_eq a b)
    (λ y. y ∙ sym (eq-eqb b a (sym (eqb-true a b y))))
    (λ n. n ∙ sym (by_test (nat_eq b a) (λ y. absurd (true≢false (sym (eq-eqb a b (sym (eqb-true b a y))) ∙ n))) (λ m. m)))

left_only : (a b c : Bool) → ((a && true && b) || (a && false && c || false)) ≡ (a && b)
left_only true true c = refl
left_only true false c = refl
left_only false b c = refl

right_only : (a b c : Bool) → ((a && false && b) || (a && true && c || false)) ≡ (a && c)
right_only true b true = refl
right_only true b false = refl
right_only false b c = refl

pair_meets : (l : Layout) (d : LinkChange) (x : Cell) → has_cell (touched l (Link d)) x ≡ meets d x
pair_meets l d (Kind p) = has_same (touched l (Link d)) (Kind p)
pair_meets l d (Slot p b) = has_same (touched l (Link d)) (Slot p b)
pair_meets l d (Extent c) = has_same (touched l (Link d)) (Extent c)
pair_meets l d (Nav b First p) =
    has_same (touched l (Link d)) (Nav b First p) ∙ left_only (nat_eq b d.assoc) (nat_eq p d.second) (nat_eq p d.first)
    ∙ (λ i. flip b d.assoc i && flip p d.second i)
pair_meets l d (Nav b Second p) =
    has_same (touched l (Link d)) (Nav b Second p) ∙ right_only (nat_eq b d.assoc) (nat_eq p d.second) (nat_eq p d.first)
    ∙ (λ i. flip b d.assoc i && flip p d.first i)

end_stands : (l : Layout) (s : State) (d : LinkChange) → Fits l s (Link d) → (e : End) → stands l s d.assoc e (end_of (d.first, d.second) e) ≡ true
end_stands l s d f First =
    let g : LinkingAgrees l s d = f.agrees in
    let x = (ends_live s d (faultless l s (Link d) f.faultless).live).0 in ap (stand l d.assoc First) x.1 ∙ g.ends.first x.0 x.1
end_stands l s d f Second =
    let g : LinkingAgrees l s d = f.agrees in
    let x = (ends_live s d (faultless l s (Link d) f.faultless).live).1 in ap (stand l d.assoc Second) x.1 ∙ g.ends.second x.0 x.1

linked : (l : Layout) (s : State) (d : LinkChange) → Fits l s (Link d) → (x : Cell) → Tells (meets d x) (look l s x) (look l (apply l s (Link d)) x)
linked l s d f (Kind p) = equal_looks false _ _ refl refl
linked l s d f (Slot p b) = equal_looks false _ _ refl refl
linked l s d f (Extent c) = equal_looks false _ _ refl refl
linked l s d f (Nav b e p) =
    let q = has_at b (opposite e) p in
    let here = link_free l s d f in
    let t = apply l s (Link d) in
    known (meets d (Nav b e p)) _ _
    (λ h eq.
    let r = both (nat_eq d.assoc b) (nat_eq (end_of (d.first, d.second) (opposite e)) p) h in
    let assoc = eqb-true d.assoc b r.0 in
    let object = eqb-true (end_of (d.first, d.second) (opposite e)) p r.1 in
    let up : stands l s b (opposite e) p ≡ true = subst (λ (z : ℕ). stands l s z (opposite e) p ≡ true) assoc (subst (λ (z : ℕ). stands l s d.assoc
    (opposite e) z ≡ true) object (end_stands l s d f (opposite e))) in
    longer (λ (x : (ℕ × ℕ) × (ℕ × ℕ)). end_of x.1 e) (filter q s.links) (filter q (insert_entry link_cmp s.links (d.assoc, d.stamp) (d.first, d.second)))
    (filter_insert_in link_total q s.links (d.assoc, d.stamp) (d.first, d.second) here h)
    (sym (ap (nav_look (map Obj (joined s b e p))) up) ∙ eq ∙ ap (nav_look (map Obj (joined t b e p))) up))
    (λ h. ap (λ (es : List ((ℕ × ℕ) × (ℕ × ℕ))). nav_look (map Obj (map (λ (x : (ℕ × ℕ) × (ℕ × ℕ)). end_of x.1 e) es)) (stands l s b (opposite e) p))
    (sym (filter_insert_out link_total q s.links (d.assoc, d.stamp) (d.first, d.second) here h)))

-- a slot that gets another value
get_other : {X : Type 0} (xs : List X) (i j : ℕ) (w : X) → i ≢ j → slice_get (slice_set xs i w) j ≡ slice_get xs j
get_other [] i j w h = refl
get_other (x ∷ xs) zero zero w h = absurd (h refl)
get_other (x ∷ xs) zero (suc j) w h = refl
get_other (x ∷ xs) (suc i) zero w h = refl
get_other (x ∷ xs) (suc i) (suc j) w h = get_other xs i j w (λ e. h (ap suc e))

pub slot_other : (p q : Option ℕ) (x : Object) (w : Value) → ((i : ℕ) → p ≡ Some i → q ≡ Some i → ⊥)
    → option_and_then (slice_get (set_at p x w).slots) q ≡ option_and_then (slice_get x.slots) q
slot_other None q x w h = refl
slot_other (Some i) None x w h = refl
slot_other (Some i) (Some j) x w h = get_other x.slots i j w (λ e. h i refl (ap (λ (z : ℕ). Some z) (sym e)))

pub one_place : (l : Layout) (c a b i : ℕ) → place l c a ≡ Some i → place l c b ≡ Some i → a ≡ b
one_place l c a b i e e' =
    let r = position-Some (nat_eq a) (attrs l c) i 0 e in
    let r' = position-Some (nat_eq b) (attrs l c) i 0 e' in
    eqb-true a _ r.1 ∙ sym (eqb-true b _ r'.1)

pub slot_now : (p q : Option ℕ) (x : Object) (old new : Value) → option_and_then (slice_get x.slots) p ≡ Some old → q ≡ p
    → option_and_then (slice_get (set_at p x new).slots) q ≡ Some new
slot_now None q x old new h e = absurd (some≢none old (sym h))
slot_now (Some i) q x old new h e = ap (λ (u : Option ℕ). option_and_then (slice_get (slice_set x.slots i new)) u) e ∙ get_set x.slots i old new h

filter_set : (q : ℕ → Bool) (test : ℕ → Bool) (es : List (ℕ × Object)) (x y : Object) → lookup test es ≡ Some x → y.class ≡ x.class
    → map (λ (e : ℕ × Object). e.0) (filter (λ (e : ℕ × Object). q e.1.class) (set_value test es y)) ≡ map (λ (e : ℕ × Object). e.0) (filter (λ
    (e : ℕ × Object). q e.1.class) es)
filter_set q test [] x y h c = refl
filter_set q test (e ∷ es) x y h c =
    by_test (test e.0)
    (λ k.
    let here : e.1 ≡ x = inside_some e.1 x (sym (ap (λ b. cond b (Some e.1) (lookup test es)) k) ∙ h) in
    rw k (keyed (q y.class) (q e.1.class) (ap q (c ∙ ap (λ (z : Object). z.class) (sym here)))))
    (λ n. rw n (headed (q e.1.class) (filter_set q test es x y (sym (ap (λ b. cond b (Some e.1) (lookup test es)) n) ∙ h) c)))
  where
    keyed : (a b : Bool) → a ≡ b → map (λ (e : ℕ × Object). e.0) (cond a ((e.0, y) ∷ filter (λ (e : ℕ × Object). q e.1.class) es) (filter (λ
        (e : ℕ × Object). q e.1.class) es))
        ≡ map (λ (e : ℕ × Object). e.0) (cond b (e ∷ filter (λ (e : ℕ × Object). q e.1.class) es) (filter (λ (e : ℕ × Object). q e.1.class) es))
    keyed true true g = refl
    keyed true false g = absurd (true≢false g)
    keyed false true g = absurd (true≢false (sym g))
    keyed false false g = refl

    headed : (b : Bool) → map (λ (e : ℕ × Object). e.0) (filter (λ (e : ℕ × Object). q e.1.class) (set_value test es y)) ≡ map (λ (e : ℕ × Object). e.0) (filter
        (λ (e : ℕ × Object). q e.1.class) es)
        → map (λ (e : ℕ × Object). e.0) (cond b (e ∷ filter (λ (e : ℕ × Object). q e.1.class) (set_value test es y)) (filter (λ (e : ℕ × Object). q e.1.class)
        (set_value test es y)))
        ≡ map (λ (e : ℕ × Object). e.0) (cond b (e ∷ filter (λ (e : ℕ × Object). q e.1.class) es) (filter (λ (e : ℕ × Object). q e.1.class) es))
    headed true g = ap (λ l. e.0 ∷ l) g
    headed false g = g

slot_only : (l : Layout) (o a : ℕ) (old new : Value) (x : Cell) → has_cell (touched l (SetSlot o a old new)) x ≡ (same x (Slot o a) || false)
slot_only l o a old new x = has_same (touched l (SetSlot o a old new)) x

or_false : (a : Bool) → (a || false) ≡ a
or_false true = refl
or_false false = refl

set : (l : Layout) (s : State) (o a : ℕ) (old new : Value) (z : Object) → object s o ≡ Some z → slot l z a ≡ Some old → ¬ (old ≡ new) → (x : Cell)
    → Tells (same x (Slot o a)) (look l s x) (look l (with_object s o (with_slot l z a new)) x)
set l s o a old new z is at differ x = by x
  where
    class : (with_slot l z a new).class ≡ z.class
    class = class_set_at (place l z.class a) z new

    now : object (with_object s o (with_slot l z a new)) o ≡ Some (with_slot l z a new)
    now = lookup_set_here (is_at (nat_cmp o)) s.objects z (with_slot l z a new) is

    apart : (p : ℕ) → p ≢ o → object (with_object s o (with_slot l z a new)) p ≡ object s p
    apart p ne = kept_set nat_cmp_total exact_unsigned s.objects o (with_slot l z a new) z p is ne

    by : (x : Cell) → Tells (same x (Slot o a)) (look l s x) (look l (with_object s o (with_slot l z a new)) x)
    by (Kind p) = equal_looks false _ _ refl
        (by_number p o
        (λ eq. ap kind_look (ap (λ (q : ℕ). object s q) eq ∙ is) ∙ ap L.Class (sym class) ∙ sym (ap kind_look (ap (λ (q : ℕ). object (with_object s o
        (with_slot l z a new)) q) eq ∙ now)))
        (λ ne. ap kind_look (sym (apart p ne))))
    by (Slot p b) = by_number p o
        (λ eq.
        let before : look l s (Slot p b) ≡ value_look (slot l z b) = ap (slot_look l b) (ap (λ (q : ℕ). object s q) eq ∙ is) in
        let after : look l (with_object s o (with_slot l z a new)) (Slot p b) ≡ value_look (slot l (with_slot l z a new) b)
        = ap (slot_look l b) (ap (λ (q : ℕ). object (with_object s o (with_slot l z a new)) q) eq ∙ now) in
        by_number b a
        (λ eq'. differing _ _ _ (first_true (nat_eq p o) (nat_eq b a) (eq-eqb p o eq) ∙ eq-eqb b a eq')
        (λ e. differ (inside_value old new (
        sym (before ∙ ap (λ (q : ℕ). value_look (slot l z q)) eq' ∙ ap value_look at) ∙ e
        ∙ after ∙ ap (λ (q : ℕ). value_look (slot l (with_slot l z a new) q)) eq'
        ∙ ap value_look (slot_now (place l z.class a) (place l (with_slot l z a new).class a) z old new at (ap (λ (c : ℕ). place l c a) class))))))
        (λ ne. equal_looks _ _ _ (second_false (nat_eq p o) (nat_eq b a) (not_equal b a ne))
        (before ∙ ap value_look (
        sym (slot_other (place l z.class a) (place l z.class b) z new (λ i e e'. ne (sym (one_place l z.class a b i e e'))))
        ∙ ap (λ (c : ℕ). option_and_then (slice_get (with_slot l z a new).slots) (place l c b)) (sym class)) ∙ sym after)))
        (λ ne. equal_looks _ _ _ (first_false (nat_eq p o) (nat_eq b a) (not_equal p o ne)) (ap (slot_look l b) (sym (apart p ne))))
    by (Nav b e p) = equal_looks false _ _ refl
        (by_number p o
        (λ eq. ap (λ (u : Option Object). nav_look (map Obj (joined s b e p)) (stand l b (opposite e) u)) (ap (λ (q : ℕ). object s q) eq ∙ is)
        ∙ ap (λ (c : ℕ). nav_look (map Obj (joined s b e p)) (may_stand l b (opposite e) c)) (sym class)
        ∙ sym (ap (λ (u : Option Object). nav_look (map Obj (joined s b e p)) (stand l b (opposite e) u)) (ap (λ (q : ℕ). object (with_object s o
        (with_slot l z a new)) q) eq ∙ now)))
        (λ ne. ap (λ (u : Option Object). nav_look (map Obj (joined s b e p)) (stand l b (opposite e) u)) (sym (apart p ne))))
    by (Extent c) = equal_looks false _ _ refl
        (ap (λ (os : List ℕ). L.Items (map Obj os)) (sym (filter_set (λ k. is_a l k c) (is_at (nat_cmp o)) s.objects z (with_slot l z a new) is class)))

no_cell : (l : Layout) (s : State) (name : List ℕ) (old : Option Variable) (new : Variable) (x : Cell) → look l s x ≡ look l (apply l s (Bind name old new)) x
no_cell l s name old new (Kind p) = refl
no_cell l s name old new (Slot p b) = refl
no_cell l s name old new (Nav a e p) = refl
no_cell l s name old new (Extent c) = refl

no_cell_back : (l : Layout) (s : State) (name : List ℕ) (old : Variable) (x : Cell) → look l s x ≡ look l (apply l s (Unbind name old)) x
no_cell_back l s name old (Kind p) = refl
no_cell_back l s name old (Slot p b) = refl
no_cell_back l s name old (Nav a e p) = refl
no_cell_back l s name old (Extent c) = refl

tells : (l : Layout) (s : State) (c : Change) (x : Cell) → IsValid l s → Fits l s c → SetsAnother c
    → Tells (has_cell (touched l c) x) (look l s x) (look l (apply l s c) x)
tells l s (Create d) x v f n = alike _ _ _ _ (cells_hit l d x) (created l s d v f x)
tells l s (Remove d) x v f n =
    let t = apply l s (Remove d) in
    let r = alike (has_cell (cells_of l (object_back d)) x) _ _ _ (cells_hit l (object_back d) x) (created l t (object_back d) (stays_valid l s (Remove d) v f)
    (fits_back l s (Remove d) v f) x) in
    turned _ _ _ (subst (λ (u : State). Tells (has_cell (cells_of l d) x) (look l t x) (look l u x)) (taken_back l s (Remove d) v f) r)
tells l s (SetSlot o a old new) x v f n =
    let g : SettingAgrees l s o a old new = f.agrees in
    let k = live (object s o) (faultless l s (SetSlot o a old new) f.faultless).live in
    alike _ _ _ _ (slot_only l o a old new x ∙ or_false (same x (Slot o a)))
    (subst (λ (u : State). Tells (same x (Slot o a)) (look l s x) (look l u x)) (sym (apply_set l s o a old new k.0 k.1))
    (set l s o a old new k.0 k.1 (g.same k.0 k.1) n x))
tells l s (Link d) x v f n = alike _ _ _ _ (pair_meets l d x) (linked l s d f x)
tells l s (Unlink d) x v f n =
    let t = apply l s (Unlink d) in
    let r = alike (has_cell (touched l (Link (link_back d))) x) _ _ _ (pair_meets l (link_back d) x) (linked l t (link_back d) (fits_back l s
    (Unlink d) v f) x) in
    turned _ _ _ (subst (λ (u : State). Tells (has_cell (touched l (Unlink d)) x) (look l t x) (look l u x)) (taken_back l s (Unlink d) v f) r)
tells l s (Bind name old new) x v f n = equal_looks false _ _ refl (no_cell l s name old new x)
tells l s (Unbind name old) x v f n = equal_looks false _ _ refl (no_cell_back l s name old x)

pub alters : (l : Layout) (s : State) (c : Change) (x : Cell) → IsValid l s → Fits l s c → SetsAnother c → IsTrue (has_cell (touched l c) x) ↔ Alters l s c x
alters l s c x v f n = told (has_cell (touched l c) x) (look l s x) (look l (apply l s c) x) (tells l s c x v f n)
