-- A machine at first: the names stand for what they stand for, and behind them is what is bound.
use Rattle.std.proofs.Common.{◌≡◌, ℕ, ◌<◌, ◌≤◌, List, ◌++◌, length, map, take, drop, ap, sym, ◌∙◌, arith}
use Rattle.std.specs.Prelude.{◌^◌}
use Rattle.std.proofs.lemmas.List.{length-map}
use Rattle.std.proofs.Math.Seq.{drop-append_seam, take-append_seam}
use Rattle.class_model.specs.declared.object_model.ObjectModel.{ObjectModel}
use Rattle.class_model.specs.InRange.{IsInRange}
use Rattle.ocl_values.specs.declared.value.Value.{Value}
use Rattle.object_state.specs.declared.layout.Layout.{Layout}
use Rattle.object_state.specs.Layouts.{assoc_layout, layout_of}
use Rattle.object_state.specs.State.{Diagram}
use Rattle.entry_states.specs.declared.frame.Frame.{Frame}
use Rattle.soil_changes.specs.Progress.{begun}
use Rattle.soil_exec.specs.declared.machine.Machine.{Machine as Kept}
use Rattle.soil_exec.specs.Kept.{IsCurrent, stand}
use Rattle.soil_exec.specs.Machine.{begin, max_statements, shell_value}

-- a transaction numbers associations with 32 bits
pub few_assocs : (m : ObjectModel) (l : Layout) → l ≡ layout_of m → IsInRange m → length l.assocs < 2 ^ 32
few_assocs m l e h =
    let long : length l.assocs ≡ length m.assocs = ap (λ (z : Layout). length z.assocs) e ∙ length-map m.assocs assoc_layout in
    let few : length m.assocs ≤ 200 = h.small.assocs in
    omega arith

module _ (d : Diagram) (shell : List (List ℕ)) (bound : List Value) where
  abbrev first : List Value
  first = map (shell_value d.state) shell ++ bound

  taken : take (length shell) first ≡ map (shell_value d.state) shell
  taken = ap (λ n. take n first) (sym (length-map shell (shell_value d.state))) ∙ take-append_seam (map (shell_value d.state) shell) bound

  behind : drop (length shell) first ≡ bound
  behind = ap (λ n. drop n first) (sym (length-map shell (shell_value d.state))) ∙ drop-append_seam (map (shell_value d.state) shell) bound

  module _ (fs : List Frame) (k : Kept) (progress : k.transaction ≡ begun d fs) (names : k.shell ≡ shell) (env : k.env ≡ first) where
    pub first_stand : (steps : ℕ) → k.left ≡ max_statements → stand k steps ≡ begin d fs shell bound steps
    first_stand steps left =
        let locals : drop (length k.shell) k.env ≡ bound = (λ i. drop (length (names i)) (env i)) ∙ behind in
        λ i. record { progress = progress i; shell = names i; locals = locals i; left = left i; steps = steps }

    pub first_current : IsCurrent k
    first_current = (λ i. take (length (names i)) (env i)) ∙ taken ∙ (λ i. map (shell_value (sym progress i).state) (sym names i))
