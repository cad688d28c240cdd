-- The top call of those that are open.
use Rattle.std.proofs.Common.{◌≡◌, ℕ, ◌-◌, List, [], ◌∷◌, length, Some, None, slice_get, ap, ◌∙◌, sym, subst, arith}
use Rattle.std.specs.Option.{option_map}
use Rattle.ocl_values.specs.declared.value.Value.{Value}
use Rattle.ocl_core.specs.declared.program.ProgramParts.{ProgramParts}
use Rattle.object_state.specs.State.{Diagram}
use Rattle.entry_states.specs.declared.frame.Frame.{Frame}
use Rattle.entry_states.specs.Frames.{entered, shown}
use Rattle.entry_states.specs.Overlays.{Picture, laid_over}
use Rattle.contract_frames.specs.Judging.{picture, post_units, posts}
use Rattle.contract_frames.specs.Entering.{IsCall, IsOpen, TopIsCall, top_post_units, top_posts}

some_is : {X : Type 0} (x y : X) → Some x ≡ Some y → x ≡ y
some_is x y h = cc

pub none_open : {P : Type 0} (fs : List Frame) → IsOpen fs → None ≡ slice_get fs 0 → P
none_open [] o h = absurd o
none_open (f ∷ fs) o h = cc

-- the picture at its entry
pub entry_is : (fs : List Frame) (f : Frame) (q : Picture) (level : ℕ) → Some f ≡ slice_get fs 0 → level ≡ length fs - 1
    → option_map (λ x. x.1) (slice_get (entered fs q) (length fs - 1 - level)) ≡ Some (shown fs (length fs - level) q)
    → shown fs (length fs - level) q ≡ laid_over f.overlay q
entry_is [] f q level h e is = cc
entry_is (g ∷ gs) f q level h e is =
    let none : length (g ∷ gs) - 1 - level ≡ 0 = omega arith in
    let here : Some (laid_over g.overlay q) ≡ Some (shown (g ∷ gs) (length (g ∷ gs) - level) q) =
    ap (λ n. option_map (λ x. x.1) (slice_get (entered (g ∷ gs) q) n)) (sym none) ∙ is in
    sym (some_is (laid_over g.overlay q) (shown (g ∷ gs) (length (g ∷ gs) - level) q) here) ∙ ap (λ (x : Frame). laid_over x.overlay q) (some_is g f (sym h))

module _ (p : ProgramParts) where
  pub top_call : (fs : List Frame) (f : Frame) → Some f ≡ slice_get fs 0 → TopIsCall p fs → IsCall p f.call
  top_call [] f h t = cc
  top_call (g ∷ fs) f h t = subst (λ (x : Frame). IsCall p x.call) (some_is g f (sym h)) t

  module _ (d : Diagram) (given : Value) where
    pub top_are : (fs : List Frame) (f : Frame) → Some f ≡ slice_get fs 0 → posts p d f.call (laid_over f.overlay (picture d)) given ≡ top_posts p d fs given
    top_are [] f h = cc
    top_are (g ∷ fs) f h = λ i. posts p d (some_is f g h i).call (laid_over (some_is f g h i).overlay (picture d)) given

    pub top_spend : (fs : List Frame) (f : Frame) → Some f ≡ slice_get fs 0
        → post_units p d f.call (laid_over f.overlay (picture d)) given ≡ top_post_units p d fs given
    top_spend [] f h = cc
    top_spend (g ∷ fs) f h = λ i. post_units p d (some_is f g h i).call (laid_over (some_is f g h i).overlay (picture d)) given
