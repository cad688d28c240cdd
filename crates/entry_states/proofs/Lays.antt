-- What an overlay has after more was saved, and what it then shows.
use Rattle.std.proofs.Common.{◌≡◌, Bool, true, false, cond, ◌||◌, Option, Some, None, List, [], ◌∷◌, refl, sym, ap, ◌∙◌}
use Rattle.std.proofs.Math.Path.{fun_ext}
use Rattle.std.specs.BTreeMap.{insert_entry, is_at}
use Rattle.std.specs.Option.{is_some, option_or, unwrap_or}
use Rattle.object_state.specs.contracts.cell.CellOrd.TheImpl.Laws.{total-law}
use Rattle.object_state.specs.declared.cell.Cell.{Cell}
use Rattle.object_state.specs.declared.cell.Look.{Look}
use Rattle.object_state.specs.Touched.{cell_cmp, has_cell}
use Rattle.object_state.proofs.Keyed.{equal, lookup_insert}
use Rattle.entry_states.specs.Overlays.{HasCells, Picture, laid_over, merged, saved_of, with_looks, with_saved}
use Rattle.entry_states.proofs.Cells.{cell_exact}

abbrev Saved : Type 0
Saved = List (Cell × Look)

pub same_cell : (c k : Cell) → is_at (cell_cmp c) k ≡ true → c ≡ k
same_cell c k h = cell_exact c k (equal (cell_cmp c k) h)

-- with one cell more
kept_first : (s t : Option Look) (b : Bool) (x : Look) (after : Option Look) → (b ≡ true → t ≡ s) → after ≡ cond b (Some x) t
    → cond (is_some s) t after ≡ option_or t (cond b (Some x) None)
kept_first None None true x after h a = a
kept_first None None false x after h a = a
kept_first None (Some y) true x after h a = cc (h refl)
kept_first None (Some y) false x after h a = a
kept_first (Some y) None true x after h a = cc (h refl)
kept_first (Some y) None false x after h a = refl
kept_first (Some y) (Some z) b x after h a = refl

saved_choice : (b : Bool) (es fs : Saved) (c : Cell) → saved_of (cond b es fs) c ≡ cond b (saved_of es c) (saved_of fs c)
saved_choice true es fs c = refl
saved_choice false es fs c = refl

pub saved_more : (es : Saved) (k : Cell) (x : Look) (c : Cell) → saved_of (with_saved es k x) c ≡ option_or (saved_of es c) (cond (is_at (cell_cmp c) k) (Some x) None)
saved_more es k x c =
    saved_choice (is_some (saved_of es k)) es (insert_entry cell_cmp es k x) c
    ∙ kept_first (saved_of es k) (saved_of es c) (is_at (cell_cmp c) k) x (saved_of (insert_entry cell_cmp es k x) c)
    (λ h. ap (saved_of es) (same_cell c k h)) (lookup_insert total-law es k x c)

or_none : (a : Option Look) → a ≡ option_or a None
or_none None = refl
or_none (Some x) = refl

or_more : (a : Option Look) (b : Bool) (x : Look) (r : Option Look) → option_or (option_or a (cond b (Some x) None)) r ≡ option_or a (cond b (Some x) r)
or_more None true x r = refl
or_more None false x r = refl
or_more (Some y) b x r = refl

-- with the cells of another
pub saved_merged : (es fs : Saved) (c : Cell) → saved_of (merged es fs) c ≡ option_or (saved_of es c) (saved_of fs c)
saved_merged es [] c = or_none (saved_of es c)
saved_merged es (f ∷ fs) c =
    saved_merged (with_saved es f.0 f.1) fs c
    ∙ ap (λ s. option_or s (saved_of fs c)) (saved_more es f.0 f.1 c)
    ∙ or_more (saved_of es c) (is_at (cell_cmp c) f.0) f.1 (saved_of fs c)

-- with some cells of a picture
looks_step : (a : Option Look) (b h : Bool) (x y : Look) → (b ≡ true → x ≡ y)
    → option_or (option_or a (cond b (Some x) None)) (cond h (Some y) None) ≡ option_or a (cond (b || h) (Some y) None)
looks_step None true h x y e = ap Some (e refl)
looks_step None false h x y e = refl
looks_step (Some z) b h x y e = refl

pub saved_looks : (es : Saved) (cs : List Cell) (q : Picture) (c : Cell) → saved_of (with_looks es cs q) c ≡ option_or (saved_of es c) (cond (has_cell cs c) (Some (q c)) None)
saved_looks es [] q c = or_none (saved_of es c)
saved_looks es (k ∷ ks) q c =
    saved_looks (with_saved es k (q k)) ks q c
    ∙ ap (λ s. option_or s (cond (has_cell ks c) (Some (q c)) None)) (saved_more es k (q k) c)
    ∙ looks_step (saved_of es c) (is_at (cell_cmp c) k) (has_cell ks c) (q k) (q c) (λ h. ap q (sym (same_cell c k h)))

-- one cell after another
pub looks_next : (all cs rest : List Cell) (c : Cell) (q : Picture) (first es next : Saved) → cs ≡ c ∷ rest → next ≡ with_saved es c (q c)
    → with_looks es cs q ≡ with_looks first all q → with_looks next rest q ≡ with_looks first all q
looks_next all cs rest c q first es next split more so_far =
    ap (λ es. with_looks es rest q) more ∙ ap (λ cs. with_looks es cs q) (sym split) ∙ so_far

pub looks_done : (all cs : List Cell) (q : Picture) (first es : Saved) → cs ≡ [] → with_looks es cs q ≡ with_looks first all q → es ≡ with_looks first all q
looks_done all cs q first es none so_far = ap (λ cs. with_looks es cs q) (sym none) ∙ so_far

-- a merged overlay shows what the two show, one laid over the other
or_laid : (a b : Option Look) (x : Look) → unwrap_or (option_or a b) x ≡ unwrap_or a (unwrap_or b x)
or_laid None b x = refl
or_laid (Some y) b x = refl

pub laid_merged : (es fs : Saved) (q : Picture) → laid_over (merged es fs) q ≡ laid_over es (laid_over fs q)
laid_merged es fs q = fun_ext (λ c. ap (λ s. unwrap_or s (q c)) (saved_merged es fs c) ∙ or_laid (saved_of es c) (saved_of fs c) (q c))

-- where cells are saved before they are altered, what is shown stays
looked : (a : Option Look) (h : Bool) (x y : Look) → (h ≡ false → y ≡ x) → unwrap_or (option_or a (cond h (Some x) None)) y ≡ unwrap_or a x
looked None true x y e = refl
looked None false x y e = e refl
looked (Some z) h x y e = refl

pub laid_looks : (es : Saved) (cs : List Cell) (q t : Picture) → ((c : Cell) → has_cell cs c ≡ false → t c ≡ q c) → laid_over (with_looks es cs q) t ≡ laid_over es q
laid_looks es cs q t keeps = fun_ext (λ c.
    ap (λ s. unwrap_or s (t c)) (saved_looks es cs q c) ∙ looked (saved_of es c) (has_cell cs c) (q c) (t c) (keeps c))

-- what is shown rests only on the cells that are not saved
covered : (a : Option Look) (x y : Look) → (a ≡ None → x ≡ y) → unwrap_or a x ≡ unwrap_or a y
covered None x y h = h refl
covered (Some z) x y h = refl

pub laid_alike : (es : Saved) (q t : Picture) → ((c : Cell) → saved_of es c ≡ None → t c ≡ q c) → laid_over es t ≡ laid_over es q
laid_alike es q t alike = fun_ext (λ c. covered (saved_of es c) (t c) (q c) (alike c))

-- the cells that are saved stay saved
none_first : (a b : Option Look) → option_or a b ≡ None → a ≡ None
none_first None b h = refl
none_first (Some x) b h = h

none_second : (a b : Option Look) → option_or a b ≡ None → b ≡ None
none_second None b h = h
none_second (Some x) b h = cc

pub looks_has : (es : Saved) (cs : List Cell) (q : Picture) → HasCells (with_looks es cs q) es
looks_has es cs q c h = none_first (saved_of es c) (cond (has_cell cs c) (Some (q c)) None) (sym (saved_looks es cs q c) ∙ h)

pub merged_has : (es fs : Saved) → HasCells (merged es fs) es
merged_has es fs c h = none_first (saved_of es c) (saved_of fs c) (sym (saved_merged es fs c) ∙ h)

pub merged_has_above : (es fs : Saved) → HasCells (merged es fs) fs
merged_has_above es fs c h = none_second (saved_of es c) (saved_of fs c) (sym (saved_merged es fs c) ∙ h)
