-- What each step does with the pictures at the entries of frames.
use Rattle.std.proofs.Common.{◌≡◌, ℕ, zero, suc, ◌<◌, length, Option, Some, None, false, List, [], ◌∷◌, drop, slice_get, refl, subst, ap, ◌∙◌, sym, arith}
use Rattle.std.proofs.Math.Path.{fun_ext}
use Rattle.std.specs.Option.{option_map, option_or, unwrap_or}
use Rattle.object_state.specs.declared.cell.Cell.{Cell}
use Rattle.object_state.specs.declared.cell.Look.{Look}
use Rattle.object_state.specs.declared.change.Change.{Change}
use Rattle.object_state.specs.declared.layout.Layout.{Layout}
use Rattle.object_state.specs.Changes.{apply}
use Rattle.object_state.specs.Faults.{Fits}
use Rattle.object_state.specs.Looks.{look}
use Rattle.object_state.specs.State.{State}
use Rattle.object_state.specs.Touched.{has_cell, touched}
use Rattle.object_state.specs.Valid.{IsValid}
use Rattle.object_state.proofs.Hits.{has_more}
use Rattle.entry_states.specs.declared.frame.Call.{Call}
use Rattle.entry_states.specs.declared.frame.Frame.{Frame}
use Rattle.entry_states.specs.Frames.{Grown, IsCoveredByTop, TopHas, altered_by, entered, left, noted, saved_within, shown}
use Rattle.entry_states.specs.Overlays.{HasCells, Picture, laid_over, merged, saved_of}
use Rattle.entry_states.proofs.Lays.{laid_alike, laid_looks, laid_merged, looks_has, merged_has, merged_has_above}
use Rattle.entry_states.proofs.Untouched.{untouched}

-- options one after another
or_none : (a : Option Look) → option_or a None ≡ a
or_none None = refl
or_none (Some x) = refl

or_assoc : (a b d : Option Look) → option_or (option_or a b) d ≡ option_or a (option_or b d)
or_assoc None b d = refl
or_assoc (Some x) b d = refl

or_shown : (a b : Option Look) (x : Look) → unwrap_or a (unwrap_or b x) ≡ unwrap_or (option_or a b) x
or_shown None b x = refl
or_shown (Some y) b x = refl

pub mapped_or : {X Y : Type 0} (f : X → Y) (a b : Option X) → option_map f (option_or a b) ≡ option_or (option_map f a) (option_map f b)
mapped_or f None b = refl
mapped_or f (Some x) b = refl

some_is : (g f : Frame) → Some g ≡ Some f → g ≡ f
some_is g f h = cc

-- the calls below a picture that they show alike
abbrev calls_on : Frame → List Frame → Picture → List (Call × Picture)
calls_on f fs p = (f.call, p) ∷ entered fs p

-- cells are noted, where the picture is altered at no other
noted_keeps : (fs : List Frame) (cs : List Cell) (q t : Picture) → ((c : Cell) → has_cell cs c ≡ false → t c ≡ q c) → entered (noted fs cs q) t ≡ entered fs q
noted_keeps [] cs q t h = refl
noted_keeps (f ∷ fs) cs q t h = ap (calls_on f fs) (laid_looks f.overlay cs q t h)

-- as they are before a change
pub change_keeps : (l : Layout) (s : State) (c : Change) (fs : List Frame) → IsValid l s → Fits l s c
    → entered (noted fs (altered_by l c) (look l s)) (look l (apply l s c)) ≡ entered fs (look l s)
change_keeps l s c fs v f = noted_keeps fs (altered_by l c) (look l s) (look l (apply l s c)) (λ x h. untouched l s x v c f (sym (has_more [] (touched l c) x) ∙ h))

-- the top frame is left
pub left_keeps : (fs : List Frame) (q : Picture) → entered (left fs) q ≡ drop 1 (entered fs q)
left_keeps [] q = refl
left_keeps (f ∷ []) q = refl
left_keeps (f ∷ g ∷ gs) q = ap (calls_on g gs) (laid_merged g.overlay f.overlay q)

-- a frame comes
pub pushed_keeps : (f : Frame) (fs : List Frame) (q : Picture) → IsCoveredByTop fs f.overlay q → entered fs (laid_over f.overlay q) ≡ entered fs q
pushed_keeps f [] q h = refl
pushed_keeps f (g ∷ gs) q h = ap (calls_on g gs) (laid_alike g.overlay q (laid_over f.overlay q) h)

-- a frame goes
pub popped_keeps : (f : Frame) (fs : List Frame) (q : Picture) → laid_over f.overlay q ≡ q → entered (f ∷ fs) q ≡ (f.call, q) ∷ entered fs q
popped_keeps f fs q h = ap (calls_on f fs) h

-- what some frames have of a cell
pub within_none : (fs : List Frame) (c : Cell) → saved_within fs zero c ≡ None
within_none [] c = refl
within_none (f ∷ fs) c = refl

pub within_more : (fs : List Frame) (n : ℕ) (f : Frame) (c : Cell) → slice_get fs n ≡ Some f
    → saved_within fs (suc n) c ≡ option_or (saved_of f.overlay c) (saved_within fs n c)
within_more [] n f c h = cc
within_more (g ∷ fs) zero f c h =
    ap (λ s. option_or s (saved_of g.overlay c)) (within_none fs c) ∙ ap (λ (f : Frame). saved_of f.overlay c) (some_is g f h) ∙ sym (or_none (saved_of f.overlay c))
within_more (g ∷ fs) (suc n) f c h =
    ap (λ s. option_or s (saved_of g.overlay c)) (within_more fs n f c h) ∙ or_assoc (saved_of f.overlay c) (saved_within fs n c) (saved_of g.overlay c)

shown_step : (f : Frame) (fs : List Frame) (n : ℕ) (q : Picture) → shown fs n (laid_over f.overlay q) ≡ shown (f ∷ fs) (suc n) q
shown_step f fs n q = fun_ext (λ c. or_shown (saved_within fs n c) (saved_of f.overlay c) (q c))

-- what is shown of a frame is the picture at its entry
pub picture_shown : (fs : List Frame) (n : ℕ) (q : Picture) → n < length fs → option_map (λ e. e.1) (slice_get (entered fs q) n) ≡ Some (shown fs (suc n) q)
picture_shown [] n q h = absurd (omega arith)
picture_shown (f ∷ fs) zero q h = ap Some (fun_ext (λ c. ap (λ s. unwrap_or (option_or s (saved_of f.overlay c)) (q c)) (sym (within_none fs c))))
picture_shown (f ∷ fs) (suc n) q h = picture_shown fs n (laid_over f.overlay q) (omega arith) ∙ ap Some (shown_step f fs (suc n) q)

-- the cells that frames have stay
pub grown_same : (fs : List Frame) → Grown fs fs
grown_same [] = tt
grown_same (f ∷ fs) = (λ c h. h, grown_same fs)

pub noted_grown : (fs : List Frame) (cs : List Cell) (q : Picture) → Grown fs (noted fs cs q)
noted_grown [] cs q = tt
noted_grown (f ∷ fs) cs q = (looks_has f.overlay cs q, grown_same fs)

pub left_grown : (fs : List Frame) → Grown (drop 1 fs) (left fs)
left_grown [] = tt
left_grown (f ∷ []) = tt
left_grown (f ∷ g ∷ gs) = (merged_has g.overlay f.overlay, grown_same gs)

pub left_has : (fs : List Frame) (f : Frame) → Some f ≡ slice_get fs 0 → TopHas (left fs) f.overlay
left_has [] f h = cc
left_has (g ∷ []) f h = tt
left_has (g ∷ k ∷ ks) f h = subst (λ (f : Frame). HasCells (merged k.overlay g.overlay) f.overlay) (some_is g f (sym h)) (merged_has_above k.overlay g.overlay)
