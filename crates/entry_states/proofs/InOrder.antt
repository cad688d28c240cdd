-- Entries in their order, saved one after another, are themselves.
use Rattle.std.proofs.Common.{◌≡◌, List, [], ◌∷◌, ◌++◌, refl, ap, ◌∙◌, sym, append_assoc, append-nil, cond, Some, None}
use Rattle.std.specs.declared.cmp.Ordering.TheVariants.{Less, Greater}
use Rattle.std.specs.Ordering.{is_eq, ordering_reverse, match_ordering}
use Rattle.std.specs.List.{AllByRecursion}
use Rattle.std.specs.List.Sorted.{IsStrictlySortedBy}
use Rattle.std.specs.Map.{keys_of}
use Rattle.std.specs.BTreeMap.{insert_entry}
use Rattle.std.specs.Option.{is_some}
use Rattle.std.proofs.lemmas.Map.Keys.{sorted_head, sorted_tail}
use Rattle.object_state.specs.contracts.cell.CellOrd.TheImpl.Laws.{total-law}
use Rattle.object_state.specs.declared.cell.Cell.{Cell}
use Rattle.object_state.specs.declared.cell.Look.{Look}
use Rattle.object_state.specs.Touched.{cell_cmp}
use Rattle.entry_states.specs.Overlays.{merged, saved_of, with_saved}

-- each cell of the entries is before c
abbrev Above : List (Cell × Look) → Cell → Type 0
Above [] c = Unit
Above (e ∷ es) c = (cell_cmp c e.0 ≡ Greater) × Above es c

above_more : (es : List (Cell × Look)) (e : Cell × Look) (c : Cell) → Above es c → cell_cmp c e.0 ≡ Greater → Above (es ++ e ∷ []) c
above_more [] e c h g = (g, tt)
above_more (x ∷ es) e c h g = (h.0, above_more es e c h.1 g)

absent : (es : List (Cell × Look)) (c : Cell) → Above es c → saved_of es c ≡ None
absent [] c h = refl
absent (e ∷ es) c h = ap (λ r. cond (is_eq r) (Some e.1) (saved_of es c)) h.0 ∙ absent es c h.1

inserted : (es : List (Cell × Look)) (e : Cell × Look) → Above es e.0 → insert_entry cell_cmp es e.0 e.1 ≡ es ++ e ∷ []
inserted [] e h = refl
inserted (x ∷ es) e h = ap (λ r. match_ordering r (e ∷ x ∷ es) ((x.0, e.1) ∷ es) (x ∷ insert_entry cell_cmp es e.0 e.1)) h.0 ∙ ap (λ l. x ∷ l) (inserted es e h.1)

saved_last : (es : List (Cell × Look)) (e : Cell × Look) → Above es e.0 → with_saved es e.0 e.1 ≡ es ++ e ∷ []
saved_last es e h = ap (λ s. cond (is_some s) es (insert_entry cell_cmp es e.0 e.1)) (absent es e.0 h) ∙ inserted es e h

abbrev AllAbove : List (Cell × Look) → List (Cell × Look) → Type 0
AllAbove es fs = AllByRecursion (λ c. Above es c) (keys_of fs)

all_more : (es fs : List (Cell × Look)) (e : Cell × Look) → AllAbove es fs → AllByRecursion (λ c. cell_cmp e.0 c ≡ Less) (keys_of fs) → AllAbove (es ++ e ∷ []) fs
all_more es [] e h l = tt
all_more es (f ∷ fs) e h l = (above_more es e f.0 h.0 (total-law.antisymm f.0 e.0 ∙ ap ordering_reverse l.0), all_more es fs e h.1 l.1)

merged_behind : (es fs : List (Cell × Look)) → AllAbove es fs → IsStrictlySortedBy cell_cmp (keys_of fs) → merged es fs ≡ es ++ fs
merged_behind es [] h s = sym (append-nil es)
merged_behind es (f ∷ fs) h s =
    ap (λ l. merged l fs) (saved_last es f h.0)
    ∙ merged_behind (es ++ f ∷ []) fs (all_more es fs f h.1 (sorted_head cell_cmp f.0 (keys_of fs) s)) (sorted_tail cell_cmp f.0 (keys_of fs) s)
    ∙ append_assoc es (f ∷ []) fs

pub merged_alone : (es : List (Cell × Look)) → IsStrictlySortedBy cell_cmp (keys_of es) → merged [] es ≡ es
merged_alone es s = merged_behind [] es (none_above es) s
  where
    none_above : (es : List (Cell × Look)) → AllAbove [] es
    none_above [] = tt
    none_above (e ∷ es) = (tt, none_above es)
