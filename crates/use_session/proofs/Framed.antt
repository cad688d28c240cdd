-- What is known of the calls that are open, by their frames.
use Rattle.std.proofs.Common.{◌≡◌, suc, ◌<◌, ◌≤◌, All, List, [], ◌∷◌, length, map, slice_get, Some, None, refl, sym, ap, ◌∙◌, subst, arith}
use Rattle.std.proofs.lemmas.List.Elements.{All-cons, All-head, All-nil, All-tail}
use Rattle.ocl_core.specs.declared.program.ProgramParts.{ProgramParts}
use Rattle.entry_states.specs.declared.frame.Call.{Call}
use Rattle.entry_states.specs.declared.frame.Frame.{Frame}
use Rattle.entry_states.specs.Frames.{entered}
use Rattle.entry_states.specs.Overlays.{Picture, laid_over}
use Rattle.object_state.proofs.Keyed.{some≢none}
use Rattle.contract_frames.specs.Entering.{IsCall, TopIsCall}
use Rattle.contract_frames.specs.Judging.{bound_before}
use Rattle.use_session.specs.Frames.{bound_by}

abbrev pub AreCalls : ProgramParts → List (Call × Picture) → Type 0
AreCalls p calls = All (λ c. IsCall p c.0) calls

module _ (p : ProgramParts) where
  -- the top one is a call of the program, and each is
  pub top_is_call : (fs : List Frame) (q : Picture) → AreCalls p (entered fs q) → TopIsCall p fs
  top_is_call [] q h = tt
  top_is_call (f ∷ fs) q h = All-head (λ (c : Call × Picture). IsCall p c.0) (f.call, laid_over f.overlay q) (entered fs (laid_over f.overlay q)) h

  pub all_known : (fs : List Frame) (q : Picture) → AreCalls p (entered fs q) → All (λ f. f.call.op < length p.model.ops) fs
  all_known [] q h = All-nil (λ (f : Frame). f.call.op < length p.model.ops)
  all_known (f ∷ fs) q h =
      let c : Call × Picture = (f.call, laid_over f.overlay q) in
      let rest = entered fs (laid_over f.overlay q) in
      All-cons (λ (f : Frame). f.call.op < length p.model.ops) f fs (All-head (λ (c : Call × Picture). IsCall p c.0) c rest h).known
      (all_known fs (laid_over f.overlay q) (All-tail (λ (c : Call × Picture). IsCall p c.0) c rest h))

-- there are as many frames as calls, and the calls are theirs
pub as_many : (fs : List Frame) (q : Picture) → length (entered fs q) ≡ length fs
as_many [] q = refl
as_many (f ∷ fs) q = ap suc (as_many fs (laid_over f.overlay q))

pub calls_of : (fs : List Frame) (q : Picture) → map (λ c. c.0) (entered fs q) ≡ map (λ f. f.call) fs
calls_of [] q = refl
calls_of (f ∷ fs) q = ap (λ ks. f.call ∷ ks) (calls_of fs (laid_over f.overlay q))

-- what the top frame binds
pub none_bound : (fs : List Frame) (q : Picture) → slice_get fs 0 ≡ None → bound_by (entered fs q) ≡ []
none_bound [] q h = refl
none_bound (f ∷ fs) q h = absurd (some≢none f h)

pub top_bound : (fs : List Frame) (f : Frame) (q : Picture) → slice_get fs 0 ≡ Some f → bound_by (entered fs q) ≡ bound_before f.call
top_bound [] f q h = absurd (some≢none f (sym h))
top_bound (g ∷ gs) f q h = let same : g ≡ f = cc in ap (λ (x : Frame). bound_before x.call) same

pub top_among : (p : ProgramParts) (fs : List Frame) (f : Frame) → slice_get fs 0 ≡ Some f → TopIsCall p fs → IsCall p f.call
top_among p [] f h k = absurd (some≢none f (sym h))
top_among p (g ∷ gs) f h k = let same : g ≡ f = cc in subst (λ (x : Frame). IsCall p x.call) same k

-- frames of the same calls are as many, and no more than have numbers
pub few_frames : (gs fs : List Frame) (r q : Picture) → entered gs r ≡ entered fs q → length (entered fs q) ≤ 64 → length gs < 4294967295
few_frames gs fs r q e h =
    let long : length gs ≡ length (entered fs q) = sym (as_many gs r) ∙ ap length e in
    omega (arith, long, h)
