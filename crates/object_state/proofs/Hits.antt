-- Which cells are in the list of those that a change touches, cell by cell.
use Rattle.std.proofs.Common.{◌≡◌, ℕ, ◌+◌, ◌<◌, zero, suc, Bool, true, false, cond, ◌&&◌, ◌||◌, List, [], ◌∷◌, ◌++◌, map, Option, Some, None, refl, sym, ap, ap₂, ◌∙◌, subst, true≢false, arith, Ordering, Less, Equal, Greater, is_eq}
use Rattle.std.specs.BTreeMap.{is_at}
use Rattle.std.specs.BTreeSet.{insert_key}
use Rattle.std.specs.Cmp.{IsTotalOrder}
use Rattle.std.specs.List.{enumerate_from, flat_map, list_any, slice_get}
use Rattle.std.specs.Option.{option_map_or}
use Rattle.std.specs.Ordering.{nat_cmp, ordering_then}
use Rattle.std.specs.Prelude.{nat_eq}
use Rattle.std.proofs.lemmas.Bool.{eq-eqb, eqb-true}
use Rattle.std.proofs.lemmas.Cmp.{alike_right, tied_itself}
use Rattle.std.proofs.lemmas.List.Folds.{list_any-append}
use Rattle.std.proofs.lemmas.Map.Lookups.{exact_unsigned}
use Rattle.std.specs.Cmp.{nat_cmp_total}
use Rattle.class_model.specs.declared.numbers.End.{End}
use Rattle.class_model.specs.declared.numbers.End.TheVariants.{First, Second}
use Rattle.class_model.specs.contracts.numbers.EndOrd.TheImpl.{ghosts as end_ghosts}
use Rattle.class_model.specs.Ends.{opposite}
use Rattle.object_state.specs.contracts.cell.CellOrd.TheImpl.Laws.{total-law}
use Rattle.object_state.specs.declared.cell.Cell.{Cell}
use Rattle.object_state.specs.declared.cell.Cell.TheVariants.{Kind, Slot, Nav, Extent}
use Rattle.object_state.specs.declared.change.ObjectChange.{ObjectChange}
use Rattle.object_state.specs.declared.layout.AssocLayout.{AssocLayout}
use Rattle.object_state.specs.declared.layout.Layout.{Layout}
use Rattle.object_state.specs.Layouts.{ancestors, attrs, class_at, is_a, may_stand}
use Rattle.object_state.specs.Touched.{cell_cmp, cells_of, has_cell, navs, navs_to, with_cells}
use Rattle.object_state.proofs.Keyed.{by_order, by_test, equal, match_all}

-- cells are equal by what they hold
abbrev pub same_end : End → End → Bool
same_end First First = true
same_end First Second = false
same_end Second First = false
same_end Second Second = true

abbrev pub same : Cell → Cell → Bool
same (Kind p) (Kind o) = nat_eq p o
same (Slot p b) (Slot o a) = nat_eq p o && nat_eq b a
same (Nav a e p) (Nav b f o) = nat_eq a b && same_end e f && nat_eq p o
same (Extent c) (Extent d) = nat_eq c d
same _ _ = false

either_way : (a b : Bool) → (a ≡ true → b ≡ true) → (b ≡ true → a ≡ true) → a ≡ b
either_way true true f g = refl
either_way true false f g = sym (f refl)
either_way false true f g = g refl
either_way false false f g = refl

pub nat_same : (a b : ℕ) → is_eq (nat_cmp a b) ≡ nat_eq a b
nat_same a b = either_way _ _ (λ h. eq-eqb a b (exact_unsigned a b (equal _ h)))
    (λ h. let e = eqb-true a b h in ap is_eq (subst (λ (z : ℕ). nat_cmp a z ≡ Equal) e (tied_itself nat_cmp_total a)))

then_same : (p q : Ordering) → is_eq (ordering_then p q) ≡ (is_eq p && is_eq q)
then_same Less q = refl
then_same Equal q = refl
then_same Greater q = refl

three_same : (p q r : Ordering) → is_eq (ordering_then p (ordering_then q r)) ≡ (is_eq p && is_eq q && is_eq r)
three_same Less q r = refl
three_same Equal Less r = refl
three_same Equal Equal r = refl
three_same Equal Greater r = refl
three_same Greater q r = refl

end_same : (e f : End) → is_eq (end_ghosts.cmp e f) ≡ same_end e f
end_same First First = refl
end_same First Second = refl
end_same Second First = refl
end_same Second Second = refl

cmp_same : (x y : Cell) → is_at (cell_cmp x) y ≡ same x y
cmp_same (Kind p) (Kind o) = nat_same p o
cmp_same (Slot p b) (Slot o a) = then_same (nat_cmp p o) (nat_cmp b a) ∙ ap₂ (λ x y. x && y) (nat_same p o) (nat_same b a)
cmp_same (Nav a e p) (Nav b f o) = three_same (nat_cmp a b) (end_ghosts.cmp e f) (nat_cmp p o) ∙ (λ i. nat_same a b i && end_same e f i && nat_same p o i)
cmp_same (Extent c) (Extent d) = nat_same c d
cmp_same _ _ = refl

pub has_same : (xs : List Cell) (x : Cell) → has_cell xs x ≡ list_any (same x) xs
has_same [] x = refl
has_same (y ∷ ys) x = ap₂ (λ a b. a || b) (cmp_same x y) (has_same ys x)

-- what a set has with more cells
swap_or : (a b c : Bool) → (a || (b || c)) ≡ (b || (a || c))
swap_or true true c = refl
swap_or true false c = refl
swap_or false true c = refl
swap_or false false c = refl

once_or : (a b : Bool) → (a || (a || b)) ≡ (a || b)
once_or true b = refl
once_or false b = refl

join_or : (a b c : Bool) → (a || b || c) ≡ (b || (a || c))
join_or true true c = refl
join_or true false c = refl
join_or false true c = refl
join_or false false c = refl

has_insert : (xs : List Cell) (y x : Cell) → has_cell (insert_key cell_cmp xs y) x ≡ (is_at (cell_cmp x) y || has_cell xs x)
has_insert [] y x = refl
has_insert (z ∷ zs) y x =
    match_all (λ l. has_cell l x ≡ (is_at (cell_cmp x) y || has_cell (z ∷ zs) x)) (cell_cmp y z) (y ∷ z ∷ zs) (z ∷ zs) (z ∷ insert_key cell_cmp zs y)
    (λ _. refl)
    (λ e. sym (ap (λ r. is_eq r || (is_at (cell_cmp x) z || has_cell zs x)) (alike_right total-law y z x e) ∙ once_or (is_at (cell_cmp x) z) (has_cell zs x)))
    (λ _. ap (λ b. is_at (cell_cmp x) z || b) (has_insert zs y x) ∙ swap_or (is_at (cell_cmp x) z) (is_at (cell_cmp x) y) (has_cell zs x))

pub has_more : (cells more : List Cell) (x : Cell) → has_cell (with_cells cells more) x ≡ (has_cell cells x || has_cell more x)
has_more cells [] x = or_false (has_cell cells x)
  where
    or_false : (a : Bool) → a ≡ (a || false)
    or_false true = refl
    or_false false = refl
has_more cells (y ∷ ys) x =
    has_more (insert_key cell_cmp cells y) ys x ∙ ap (λ b. b || has_cell ys x) (has_insert cells y x)
    ∙ join_or (is_at (cell_cmp x) y) (has_cell cells x) (has_cell ys x)

with_append : (cells a b : List Cell) → with_cells (with_cells cells a) b ≡ with_cells cells (a ++ b)
with_append cells [] b = refl
with_append cells (x ∷ xs) b = with_append (insert_key cell_cmp cells x) xs b

-- a cell, and three lists one after another
pub gathered : (s s1 s2 s3 s4 : List Cell) (k : Cell) (a b c : List Cell) → s1 ≡ insert_key cell_cmp s k → s2 ≡ with_cells s1 a → s3 ≡ with_cells s2 b
    → s4 ≡ with_cells s3 c
    → s4 ≡ with_cells s (k ∷ a ++ b ++ c)
gathered s s1 s2 s3 s4 k a b c p q r t =
    t ∙ ap (λ l. with_cells l c) (r ∙ ap (λ l. with_cells l b) (q ∙ ap (λ l. with_cells l a) p) ∙ with_append (insert_key cell_cmp s k) a b)
    ∙ with_append (insert_key cell_cmp s k) (a ++ b) c

-- lists of one form
none_of : {A : Type 0} (x : Cell) (f : A → Cell) (ys : List A) → ((a : A) → same x (f a) ≡ false) → list_any (same x) (map f ys) ≡ false
none_of x f [] h = refl
none_of x f (a ∷ ys) h = ap₂ (λ p q. p || q) (h a) (none_of x f ys h)

spread_or : (a b c : Bool) → ((a && b) || (a && c)) ≡ (a && (b || c))
spread_or true b c = refl
spread_or false b c = refl

slots_hit : (p b o : ℕ) (ys : List ℕ) → list_any (same (Slot p b)) (map (Slot o) ys) ≡ (nat_eq p o && list_any (nat_eq b) ys)
slots_hit p b o [] = and_false (nat_eq p o)
  where
    and_false : (a : Bool) → false ≡ (a && false)
    and_false true = refl
    and_false false = refl
slots_hit p b o (a ∷ ys) = ap (λ z. (nat_eq p o && nat_eq b a) || z) (slots_hit p b o ys) ∙ spread_or (nat_eq p o) (nat_eq b a) (list_any (nat_eq b) ys)

extents_hit : (c : ℕ) (ds : List ℕ) → list_any (same (Extent c)) (map Extent ds) ≡ list_any (nat_eq c) ds
extents_hit c [] = refl
extents_hit c (d ∷ ds) = ap (λ z. nat_eq c d || z) (extents_hit c ds)

-- navigations
one_none : (l : Layout) (d : ObjectChange) (a : ℕ) (ends : AssocLayout) (from to : End) (x : Cell) → same x (Nav a to d.object) ≡ false
    → list_any (same x) (navs_to l d a ends from to) ≡ false
one_none l d a ends from to x h = by (is_a l d.class (class_at ends from))
  where
    by : (b : Bool) → list_any (same x) (cond b (Nav a to d.object ∷ []) []) ≡ false
    by true = ap (λ z. z || false) h
    by false = refl

navs_none : (l : Layout) (d : ObjectChange) (n : ℕ) (ys : List AssocLayout) (x : Cell) → ((a : ℕ) (e : End) → n < a + 1 → same x (Nav a e d.object) ≡ false)
    → list_any (same x) (flat_map (λ a. navs l d a.0 a.1) (enumerate_from n ys)) ≡ false
navs_none l d n [] x h = refl
navs_none l d n (a ∷ ys) x h =
    list_any-append (same x) (navs l d n a) (flat_map (λ a. navs l d a.0 a.1) (enumerate_from (n + 1) ys))
    ∙ ap₂ (λ p q. p || q)
    (list_any-append (same x) (navs_to l d n a Second First) (navs_to l d n a First Second)
    ∙ ap₂ (λ p q. p || q) (one_none l d n a Second First x (h n First (omega arith))) (one_none l d n a First Second x (h n Second (omega arith))))
    (navs_none l d (n + 1) ys x (λ b e le. h b e (omega arith)))

one_hit : (l : Layout) (d : ObjectChange) (a p : ℕ) (ends : AssocLayout) (from to : End)
    → list_any (same (Nav a to p)) (navs_to l d a ends from to) ≡ (nat_eq p d.object && is_a l d.class (class_at ends from))
one_hit l d a p ends from to = by (is_a l d.class (class_at ends from))
  where
    here : same (Nav a to p) (Nav a to d.object) ≡ nat_eq p d.object
    here = ap₂ (λ u v. u && v && nat_eq p d.object) (eq-eqb a a refl) (itself to)
      where
        itself : (e : End) → same_end e e ≡ true
        itself First = refl
        itself Second = refl

    by : (b : Bool) → list_any (same (Nav a to p)) (cond b (Nav a to d.object ∷ []) []) ≡ (nat_eq p d.object && b)
    by true = ap (λ z. z || false) here ∙ or_false (nat_eq p d.object)
      where
        or_false : (a : Bool) → (a || false) ≡ (a && true)
        or_false true = refl
        or_false false = refl
    by false = and_false (nat_eq p d.object)
      where
        and_false : (a : Bool) → false ≡ (a && false)
        and_false true = refl
        and_false false = refl

differ : (a b : ℕ) → a < b → nat_eq a b ≡ false
differ a b h = by_test (nat_eq a b) (λ y. let e = eqb-true a b y in absurd (omega arith)) (λ n. n)

first_navs : (l : Layout) (d : ObjectChange) (a p : ℕ) (e : End) (ends : AssocLayout) → list_any (same (Nav a e p)) (navs l d a ends) ≡ (nat_eq p d.object
    && is_a l d.class (class_at ends (opposite e)))
first_navs l d a p First ends =
    list_any-append (same (Nav a First p)) (navs_to l d a ends Second First) (navs_to l d a ends First Second)
    ∙ ap₂ (λ u v. u || v) (one_hit l d a p ends Second First) (one_none l d a ends First Second (Nav a First p) (other (nat_eq a a)))
    ∙ or_false _
  where
    other : (b : Bool) → (b && false && nat_eq p d.object) ≡ false
    other true = refl
    other false = refl

    or_false : (a : Bool) → (a || false) ≡ a
    or_false true = refl
    or_false false = refl
first_navs l d a p Second ends =
    list_any-append (same (Nav a Second p)) (navs_to l d a ends Second First) (navs_to l d a ends First Second)
    ∙ ap₂ (λ u v. u || v) (one_none l d a ends Second First (Nav a Second p) (other (nat_eq a a))) (one_hit l d a p ends First Second)
  where
    other : (b : Bool) → (b && false && nat_eq p d.object) ≡ false
    other true = refl
    other false = refl

navs_hit : (l : Layout) (d : ObjectChange) (n k p : ℕ) (e : End) (ys : List AssocLayout)
    → list_any (same (Nav (n + k) e p)) (flat_map (λ a. navs l d a.0 a.1) (enumerate_from n ys)) ≡ (nat_eq p d.object
    && option_map_or (λ x. is_a l d.class (class_at x (opposite e))) (slice_get ys k) false)
navs_hit l d n k p e [] = and_false (nat_eq p d.object)
  where
    and_false : (a : Bool) → false ≡ (a && false)
    and_false true = refl
    and_false false = refl
navs_hit l d n zero p e (a ∷ ys) =
    let e0 : n + 0 ≡ n = omega arith in
    ap (λ (m : ℕ). list_any (same (Nav m e p)) (flat_map (λ a. navs l d a.0 a.1) (enumerate_from n (a ∷ ys)))) e0
    ∙ list_any-append (same (Nav n e p)) (navs l d n a) (flat_map (λ a. navs l d a.0 a.1) (enumerate_from (n + 1) ys))
    ∙ ap₂ (λ u v. u || v) (first_navs l d n p e a)
    (navs_none l d (n + 1) ys (Nav n e p) (λ b f le. ap (λ z. z && same_end e f && nat_eq p d.object) (differ n b (omega arith))))
    ∙ or_false _
  where
    or_false : (a : Bool) → (a || false) ≡ a
    or_false true = refl
    or_false false = refl
navs_hit l d n (suc k) p e (a ∷ ys) =
    let e1 : n + suc k ≡ (n + 1) + k = omega arith in
    let apart : (f : End) → same (Nav (n + suc k) e p) (Nav n f d.object) ≡ false
    = λ f. ap (λ z. z && same_end e f && nat_eq p d.object) (by_test (nat_eq (n + suc k) n) (λ y. let q = eqb-true (n + suc k) n y
    in absurd (omega arith)) (λ m. m)) in
    list_any-append (same (Nav (n + suc k) e p)) (navs l d n a) (flat_map (λ a. navs l d a.0 a.1) (enumerate_from (n + 1) ys))
    ∙ ap₂ (λ u v. u || v)
    (list_any-append (same (Nav (n + suc k) e p)) (navs_to l d n a Second First) (navs_to l d n a First Second)
    ∙ ap₂ (λ u v. u || v) (one_none l d n a Second First (Nav (n + suc k) e p) (apart First)) (one_none l d n a First Second (Nav (n + suc k) e p)
    (apart Second)))
    (ap (λ (m : ℕ). list_any (same (Nav m e p)) (flat_map (λ a. navs l d a.0 a.1) (enumerate_from (n + 1) ys))) e1 ∙ navs_hit l d (n + 1) k p e ys)

-- the cells of an object
abbrev pub hits : Layout → ObjectChange → Cell → Bool
hits l d (Kind p) = nat_eq p d.object
hits l d (Slot p b) = nat_eq p d.object && list_any (nat_eq b) (attrs l d.class)
hits l d (Nav a e p) = nat_eq p d.object && may_stand l a (opposite e) d.class
hits l d (Extent c) = is_a l d.class c

three : (l : Layout) (d : ObjectChange) (x : Cell) (a b c e : Bool) → same x (Kind d.object) ≡ a → list_any (same x) (map (Slot d.object) (attrs l d.class)) ≡ b
    → list_any (same x) (flat_map (λ a. navs l d a.0 a.1) (enumerate_from 0 l.assocs)) ≡ c → list_any (same x) (map Extent (ancestors l d.class)) ≡ e
    → list_any (same x) (cells_of l d) ≡ (a || b || c || e)
three l d x a b c e p q r t =
    list_any-append (same x) (Kind d.object ∷ map (Slot d.object) (attrs l d.class) ++ flat_map (λ a. navs l d a.0 a.1) (enumerate_from 0 l.assocs)) (map Extent
    (ancestors l d.class))
    ∙ ap₂ (λ y z. y || z)
    (list_any-append (same x) (Kind d.object ∷ map (Slot d.object) (attrs l d.class)) (flat_map (λ a. navs l d a.0 a.1) (enumerate_from 0 l.assocs))
    ∙ ap₂ (λ y z. y || z) (ap₂ (λ y z. y || z) p q) r)
    t

only_first : (a : Bool) → (a || false || false || false) ≡ a
only_first true = refl
only_first false = refl

only_second : (a : Bool) → (false || a || false || false) ≡ a
only_second true = refl
only_second false = refl

only_third : (a : Bool) → (false || false || a || false) ≡ a
only_third true = refl
only_third false = refl

pub cells_hit : (l : Layout) (d : ObjectChange) (x : Cell) → has_cell (cells_of l d) x ≡ hits l d x
cells_hit l d (Kind p) =
    has_same (cells_of l d) (Kind p)
    ∙ three l d (Kind p) (nat_eq p d.object) false false false refl (none_of (Kind p) (Slot d.object) (attrs l d.class) (λ a. refl))
    (navs_none l d 0 l.assocs (Kind p) (λ a e h. refl)) (none_of (Kind p) Extent (ancestors l d.class) (λ a. refl))
    ∙ only_first (nat_eq p d.object)
cells_hit l d (Slot p b) =
    has_same (cells_of l d) (Slot p b)
    ∙ three l d (Slot p b) false (nat_eq p d.object && list_any (nat_eq b) (attrs l d.class)) false false refl (slots_hit p b d.object (attrs l d.class))
    (navs_none l d 0 l.assocs (Slot p b) (λ a e h. refl)) (none_of (Slot p b) Extent (ancestors l d.class) (λ a. refl))
    ∙ only_second (nat_eq p d.object && list_any (nat_eq b) (attrs l d.class))
cells_hit l d (Nav a e p) =
    has_same (cells_of l d) (Nav a e p)
    ∙ three l d (Nav a e p) false false (nat_eq p d.object && may_stand l a (opposite e) d.class) false refl (none_of (Nav a e p) (Slot d.object)
    (attrs l d.class) (λ a. refl))
    (ap (λ (m : ℕ). list_any (same (Nav m e p)) (flat_map (λ a. navs l d a.0 a.1) (enumerate_from 0 l.assocs))) (zeroed a) ∙ navs_hit l d 0 a p e l.assocs)
    (none_of (Nav a e p) Extent (ancestors l d.class) (λ a. refl))
    ∙ only_third (nat_eq p d.object && may_stand l a (opposite e) d.class)
  where
    zeroed : (a : ℕ) → a ≡ 0 + a
    zeroed a = omega arith
cells_hit l d (Extent c) =
    has_same (cells_of l d) (Extent c)
    ∙ three l d (Extent c) false false false (is_a l d.class c) refl (none_of (Extent c) (Slot d.object) (attrs l d.class) (λ a. refl))
    (navs_none l d 0 l.assocs (Extent c) (λ a e h. refl)) (extents_hit c (ancestors l d.class))
