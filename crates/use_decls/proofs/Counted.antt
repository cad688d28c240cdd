-- Conditions that are counted by their groups.
use Rattle.std.proofs.Common.{◌≡◌, ℕ, ◌+◌, ◌&&◌, Bool, true, false, cond, List, [], ◌∷◌, ◌++◌, Ordering, nat_cmp, Option, Some, refl, sym, ap, ap₂, ◌∙◌, arith, true≢false}
use Rattle.std.specs.BTreeMap.{BTreeMap, UpdatesBy, get}
use Rattle.std.specs.declared.cmp.Ordering.TheVariants.{Less, Equal, Greater}
use Rattle.std.specs.Cmp.Lexicographic.{slice_cmp, texts_ties}
use Rattle.std.specs.FinMap.{nat_cmp-IsAntisymmetric, slice_cmp-IsAntisymmetric}
use Rattle.std.specs.List.{count_by}
use Rattle.std.specs.Prelude.{unwrap_or}
use Rattle.std.proofs.lemmas.List.Sums.{sum_by-append}
use Rattle.std.specs.Ordering.{is_eq, ordering_then}
use Rattle.use_text.specs.Pieces.{same_text}
use Rattle.class_decls.specs.declared.decls.OpDecl.{OpDecl}
use Rattle.use_decls.specs.declared.conds.CondPart.{CondPart}
use Rattle.use_decls.specs.declared.positions.Group.{Group}
use Rattle.use_decls.specs.contracts.positions.GroupOrd.TheImpl.{ghosts as group_ghosts}
use Rattle.use_decls.specs.Conds.{group_of, is_group, is_in}
use Rattle.use_decls.specs.Counts.{count_in}

all_equal : (x y z : Ordering) → is_eq (ordering_then x (ordering_then y z)) ≡ ((is_eq x && is_eq y) && is_eq z)
all_equal Less y z = refl
all_equal Greater y z = refl
all_equal Equal Less z = refl
all_equal Equal Greater z = refl
all_equal Equal Equal z = refl

both : (a b : Bool) → (a && b) ≡ true → (a ≡ true) × (b ≡ true)
both true b e = (refl, e)
both false b e = absurd (true≢false (sym e))

tied : (o : Ordering) → is_eq o ≡ true → o ≡ Equal
tied Equal e = refl
tied Less e = absurd (true≢false (sym e))
tied Greater e = absurd (true≢false (sym e))

same_is : (a b : List ℕ) → same_text a b ≡ true → a ≡ b
same_is a b e = slice_cmp-IsAntisymmetric nat_cmp-IsAntisymmetric a b (tied (slice_cmp nat_cmp a b) (sym (texts_ties a b) ∙ e))

-- groups tie in their order exactly where they are the same
pub same_ties : (a b : Group) → is_group a b ≡ is_eq (group_ghosts.cmp a b)
same_ties a b =
    ap₂ (λ x y. x && y) (ap₂ (λ x y. x && y) (texts_ties a.word b.word) (texts_ties a.class b.class)) (texts_ties a.op b.op)
    ∙ sym (all_equal (slice_cmp nat_cmp a.word b.word) (slice_cmp nat_cmp a.class b.class) (slice_cmp nat_cmp a.op b.op))

group_is : (a b : Group) → is_group a b ≡ true → a ≡ b
group_is a b e =
    let front = both (same_text a.word b.word && same_text a.class b.class) (same_text a.op b.op) e in
    let first = both (same_text a.word b.word) (same_text a.class b.class) front.0 in
    let word = same_is a.word b.word first.0 in
    let class = same_is a.class b.class first.1 in
    let op = same_is a.op b.op front.1 in
    ap (λ w. record { word = w; class = a.class; op = a.op }) word
    ∙ ap (λ k. record { word = b.word; class = k; op = a.op }) class
    ∙ ap (λ o. record { word = b.word; class = b.class; op = o }) op

count_push : {A : Type 0} (test : A → Bool) (xs : List A) (x : A) → count_by test (xs ++ x ∷ []) ≡ count_by test xs + cond (test x) 1 0
count_push test xs x = sum_by-append (λ y. cond (test y) 1 0) xs (x ∷ []) ∙ omega arith

pub counted : (heads : List OpDecl) (old new : Group → ℕ) (before : List CondPart) (part : CondPart) →
    ((g : Group) → old g ≡ count_by (is_in heads g) before) →
    ((g : Group) → new g ≡ cond (is_group (group_of heads part) g) (old (group_of heads part) + 1) (old g)) →
    (g : Group) → new g ≡ count_by (is_in heads g) (before ++ part ∷ [])
counted heads old new before part was step g =
    step g ∙ pick (is_group (group_of heads part) g) refl ∙ sym (count_push (is_in heads g) before part)
  where
    pick : (b : Bool) → is_group (group_of heads part) g ≡ b → cond b (old (group_of heads part) + 1) (old g) ≡ count_by (is_in heads g) before + cond b 1 0
    pick true e = ap (λ h. old h + 1) (group_is (group_of heads part) g e) ∙ ap (λ n. n + 1) (was g)
    pick false e = was g ∙ omega arith

chosen : (b : Bool) (n : ℕ) (o : Option ℕ) → unwrap_or (cond b (Some n) o) 0 ≡ cond b n (unwrap_or o 0)
chosen true n o = refl
chosen false n o = refl

-- a group gets a number, and the others keep theirs
pub raised : (old new : BTreeMap Group ℕ) (group : Group) (n : ℕ) → UpdatesBy group_ghosts.cmp (group_ghosts.cmp group) old new (Some n) →
    (g : Group) → count_in new g ≡ cond (is_group group g) n (count_in old g)
raised old new group n updates g =
    ap (λ o. unwrap_or o 0) (updates.0 g ∙ ap (λ b. cond b (Some n) (get group_ghosts.cmp old g)) (sym (same_ties group g)))
    ∙ chosen (is_group group g) n (get group_ghosts.cmp old g)
