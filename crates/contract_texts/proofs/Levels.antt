-- The frames of a stack from the top one down: a level counts from the bottom, a place in the list from the top.
use Rattle.std.proofs.Common.{◌≡◌, ℕ, ◌+◌, ◌-◌, ◌<◌, ◌≤◌, List, [], ◌∷◌, ◌++◌, length, map, take, get_or, Option, Some, None, Bor, sym, ap, ◌∙◌, subst, arith}
use Rattle.std.specs.Prelude.{slice_get, MatchOption}
use Rattle.std.specs.List.{flat_map}
use Rattle.std.specs.Option.{option_copied, option_map_or}
use Rattle.std.proofs.lemmas.Option.{get_or_from_slice_get}
use Rattle.std.proofs.lemmas.List.{take_all}
use Rattle.std.proofs.lemmas.List.Folds.{flat_map-map}
use Rattle.class_model.specs.declared.object_model.ObjectModel.{ObjectModel}
use Rattle.object_state.specs.State.{State}
use Rattle.entry_states.specs.declared.frame.Frame.{Frame}
use Rattle.use_info.proofs.Pieces.{grown}
use Rattle.contract_texts.specs.Calls.{call_line, opstack_text}

module _ {A : Type 0} (line : A → List ℕ) (fs : List A) where
  -- what is told of the elements above a level, and then of those above the level below it
  pub lower : (level below : ℕ) (r : Option (Bor A)) (o now new : List ℕ) → level ≤ length fs → below + 1 ≡ level
      → MatchOption r (length fs ≤ below) (λ f. slice_get fs (length fs - 1 - below) ≡ Some f.now)
      → now ≡ o ++ flat_map line (take (length fs - level) fs) → new ≡ now ++ option_map_or line (option_copied r) []
      → new ≡ o ++ flat_map line (take (length fs - below) fs)
  lower level below None o now new h e found before after = absurd (omega arith)
  lower level below (Some f) o now new h e found before after =
      let n : ℕ = length fs - level in
      let place : length fs - 1 - below ≡ n = omega arith in
      let more : n + 1 ≡ length fs - below = omega arith in
      let at : get_or fs n f.now ≡ f.now = get_or_from_slice_get fs n f.now f.now (subst (λ (i : ℕ). slice_get fs i ≡ Some f.now) place found) in
      subst (λ (i : ℕ). new ≡ o ++ flat_map line (take i fs)) more
      (grown line fs n f.now o now new (omega arith) before (subst (λ (x : A). new ≡ now ++ line x) (sym at) after))

module _ (m : ObjectModel) (s : State) where
  abbrev line : Frame → List ℕ
  line f = call_line m s f.call

  all-lines : (f : Frame) (fs : List Frame) → flat_map line (f ∷ fs) ≡ opstack_text m s (map (λ f. f.call) (f ∷ fs))
  all-lines f fs = sym (flat_map-map (call_line m s) (λ (f : Frame). f.call) (f ∷ fs))

  -- where some call is open, and all have been told
  pub told : (fs : List Frame) (level : ℕ) (o new : List ℕ) → level ≡ 0 → 0 < length fs → new ≡ o ++ flat_map line (take (length fs - level) fs)
      → new ≡ o ++ opstack_text m s (map (λ f. f.call) fs)
  told [] level o new none some e = absurd (omega arith)
  told (f ∷ fs) level o new none some e =
      let all : take (length (f ∷ fs) - level) (f ∷ fs) ≡ f ∷ fs = take_all (length (f ∷ fs) - level) (f ∷ fs) (omega arith) in
      e ∙ ap (λ (l : List Frame). o ++ flat_map line l) all ∙ ap (λ (t : List ℕ). o ++ t) (all-lines f fs)
