-- What is kept of the multiplicities, after changes that it was told of.
use Rattle.std.proofs.Common.{◌≡◌, ℕ, ◌+◌, ◌<◌, ◌≤◌, List, [], ◌∷◌, ◌++◌, drop, get_or, length, take, refl, sym, ap, ◌∙◌, subst}
use Rattle.std.proofs.lemmas.List.{drop_all, drop_more, take_all, take_more}
use Rattle.class_model.specs.declared.object_model.ObjectModel.{ObjectModel}
use Rattle.invariant_cache.specs.Counts.{Counts, StandsFor}
use Rattle.object_state.specs.declared.change.Change.{Change}
use Rattle.object_state.specs.declared.layout.Layout.{Layout}
use Rattle.object_state.specs.Changes.{apply, inverse}
use Rattle.object_state.specs.Faults.{Fits}
use Rattle.object_state.specs.Layouts.{layout_of}
use Rattle.object_state.specs.State.{State}
use Rattle.entry_states.specs.Leading.{CanBeCarriedOut, CanBeTakenBack, led_on, taken_back}
use Rattle.soil_changes.specs.Progress.{Lead}
use Rattle.soil_changes.proofs.Back.{back_less, fits_less, leads, start_less}
use Rattle.use_session.specs.declared.machine.Machine.{Machine as Kept}
use Rattle.use_session.specs.Kept.{IsKept}

-- what tells a structure, of changes that lead on and of those that are taken back
abbrev pub ToldOn : ObjectModel → Counts → List Change → Counts → Type 0
ToldOn m old cs new = (s t : State) → StandsFor m old s → Lead (layout_of m) s cs t → StandsFor m new t

abbrev pub ToldBack : ObjectModel → Counts → List Change → Counts → Type 0
ToldBack m old cs new = (s : State) → StandsFor m old s → CanBeTakenBack (layout_of m) cs s → StandsFor m new (taken_back (layout_of m) cs s)

-- the first changes of a list were told, and what is left leads on
abbrev pub OnSoFar : ObjectModel → Counts → List Change → Counts → List Change → Type 0
OnSoFar m old cs new rest = (s t : State) → StandsFor m old s → Lead (layout_of m) s cs t → (u : State) × (StandsFor m new u × Lead (layout_of m) u rest t)

abbrev pub Notes : ObjectModel → Change → Counts → Counts → Type 0
Notes m c old new = (s : State) → StandsFor m old s → Fits (layout_of m) s c → StandsFor m new (apply (layout_of m) s c)

pub on_none : (m : ObjectModel) (old : Counts) (cs : List Change) → OnSoFar m old cs old cs
on_none m old cs = λ s t a b. (s, (a, b))

pub on_more : (m : ObjectModel) (old k new : Counts) (cs : List Change) (i : ℕ) (c : Change) → i < length cs → c ≡ get_or cs i c → OnSoFar m old cs k (drop i cs)
    → Notes m c k new → OnSoFar m old cs new (drop (i + 1) cs)
on_more m old k new cs i c within is h next = λ s t a b.
    let r = (subst (λ (l : List Change). OnSoFar m old cs k l) (drop_more cs i c within ∙ ap (λ (d : Change). d ∷ drop (i + 1) cs) (sym is)) h) s t a b in
    (apply (layout_of m) r.0 c, (next r.0 r.1.0 r.1.1.0, r.1.1.1))

pub on_all : (m : ObjectModel) (old new : Counts) (cs : List Change) (i : ℕ) → length cs ≤ i → OnSoFar m old cs new (drop i cs) → ToldOn m old cs new
on_all m old new cs i past h = λ s t a b.
    let r = (subst (λ (l : List Change). OnSoFar m old cs new l) (drop_all i cs past) h) s t a b in
    subst (λ (z : State). StandsFor m new z) r.1.1 r.1.0

-- the last changes of a list were told as taken back, and what is left can be taken back
abbrev pub BackSoFar : ObjectModel → Counts → List Change → Counts → List Change → Type 0
BackSoFar m old cs new rest = (s : State) → StandsFor m old s → CanBeTakenBack (layout_of m) cs s
    → (u : State) × (StandsFor m new u × (CanBeTakenBack (layout_of m) rest u × (taken_back (layout_of m) rest u ≡ taken_back (layout_of m) cs s)))

pub back_none : (m : ObjectModel) (old : Counts) (cs : List Change) (n : ℕ) → length cs ≤ n → BackSoFar m old cs old (take n cs)
back_none m old cs n h = subst (λ (l : List Change). BackSoFar m old cs old l) (sym (take_all n cs h)) (λ s a b. (s, (a, (b, refl))))

pub back_more : (m : ObjectModel) (old k new : Counts) (cs : List Change) (n i : ℕ) (c : Change) → n ≡ i + 1 → i < length cs → c ≡ get_or cs i c
    → BackSoFar m old cs k (take n cs) → Notes m (inverse c) k new → BackSoFar m old cs new (take i cs)
back_more m old k new cs n i c e within is h next = λ s a b.
    let l = layout_of m in
    let one = ap (λ (j : ℕ). take j cs) e ∙ take_more cs i c within ∙ ap (λ (d : Change). take i cs ++ d ∷ []) (sym is) in
    let r = (subst (λ (z : List Change). BackSoFar m old cs k z) one h) s a b in (
      apply l r.0 (inverse c),
      (
        next r.0 r.1.0 (fits_less l (take i cs) c r.0 r.1.1.0),
        (back_less l (take i cs) c r.0 r.1.1.0, sym (start_less l (take i cs) c r.0) ∙ r.1.1.1),
      ),
    )

pub back_all : (m : ObjectModel) (old new : Counts) (cs : List Change) (n : ℕ) → n ≡ 0 → BackSoFar m old cs new (take n cs) → ToldBack m old cs new
back_all m old new cs n e h = λ s a b.
    let r = (subst (λ (j : ℕ). BackSoFar m old cs new (take j cs)) e h) s a b in
    subst (λ (z : State). StandsFor m new z) r.1.1.1 r.1.0

module _ (k : Kept) (h : IsKept k) where
  -- changes that lead to a state
  pub noted : (cs : List Change) (m : ObjectModel) (new : Counts) (t : State) → m ≡ k.program.model → Lead k.store.layout k.store.state cs t
      → ToldOn m k.structure cs new → StandsFor k.program.model new t
  noted cs m new t same lead told =
      (subst (λ (z : ObjectModel). ToldOn z k.structure cs new) same told) k.store.state t h.structure
      (subst (λ (l : Layout). Lead l k.store.state cs t) h.layout lead)

  -- those that are carried out again
  pub noted_on : (cs ds : List Change) (m : ObjectModel) (new : Counts) → m ≡ k.program.model → ds ≡ cs
      → CanBeCarriedOut k.store.layout k.store.state cs → ToldOn m k.structure ds new
      → StandsFor k.program.model new (led_on k.store.layout k.store.state cs)
  noted_on cs ds m new same one can told =
      noted cs m new (led_on k.store.layout k.store.state cs) same (leads k.store.layout cs k.store.state (led_on k.store.layout k.store.state cs) can refl)
      (subst (λ (z : List Change). ToldOn m k.structure z new) one told)

  -- those that are taken back
  pub noted_back : (cs ds : List Change) (m : ObjectModel) (new : Counts) → m ≡ k.program.model → ds ≡ cs
      → CanBeTakenBack k.store.layout cs k.store.state → ToldBack m k.structure ds new
      → StandsFor k.program.model new (taken_back k.store.layout cs k.store.state)
  noted_back cs ds m new same one can told =
      subst (λ (l : Layout). StandsFor k.program.model new (taken_back l cs k.store.state)) (sym h.layout)
      ((subst (λ (z : List Change). ToldBack k.program.model k.structure z new) one (subst (λ (z : ObjectModel). ToldBack z k.structure ds new) same told))
      k.store.state h.structure (subst (λ (l : Layout). CanBeTakenBack l cs k.store.state) h.layout can))
