-- What is bound, for the names of the shell and behind them.
use Rattle.std.proofs.Common.{◌≡◌, ℕ, ◌+◌, ◌-◌, ◌<◌, ◌≤◌, [], ◌∷◌, ◌++◌, length, take, drop, slice_set, Ok, sym, ap, ◌∙◌, arith}
use Rattle.std.specs.Prelude.{if◌then◌else◌}
use Rattle.std.proofs.lemmas.Bool.{lt-ltb}
use Rattle.std.proofs.lemmas.List.{drop-set-add, drop-take, length-drop}
use Rattle.ocl_values.specs.declared.value.Value.{Value}
use Rattle.soil_changes.specs.Acts.{then_act}
use Rattle.soil_exec.specs.declared.machine.Machine.{Machine as Kept}
use Rattle.soil_exec.specs.Kept.{stand}
use Rattle.soil_exec.specs.Machine.{Execution, leave, scoped}
use Rattle.soil_exec.specs.Targets.{with_local}

-- what was bound since goes
pub left : (k : Kept) (len : ℕ) → length k.shell ≤ len → drop (length k.shell) (take len k.env) ≡ take (len - length k.shell) (drop (length k.shell) k.env)
left k len h =
    let e : len ≡ length k.shell + (len - length k.shell) = omega arith in
    ap (λ n. drop (length k.shell) (take n k.env)) e ∙ drop-take (length k.shell) (len - length k.shell) k.env

-- what is put at a place behind the names
pub put_there : (k : Kept) (n place : ℕ) (v : Value) → length k.shell + (n - length k.shell) ≡ place → place < length k.env
    → with_local (drop (length k.shell) k.env) (n - length k.shell) v ≡ drop (length k.shell) (slice_set k.env place v)
put_there k n place v at l =
    let long = length-drop (length k.shell) k.env in
    let within : n - length k.shell < length (drop (length k.shell) k.env) = omega arith in
    ap (λ b. if b then slice_set (drop (length k.shell) k.env) (n - length k.shell) v else drop (length k.shell) k.env ++ v ∷ []) (lt-ltb _ _ within)
    ∙ sym (drop-set-add (length k.shell) k.env (n - length k.shell) v)
    ∙ ap (λ i. drop (length k.shell) (slice_set k.env i v)) at

-- an execution in a scope of its own
pub scope_ends : (e : Execution (Unit {0})) (k inner outer : Kept) (n n' len : ℕ) → e (stand k n) ≡ (Ok tt, stand inner n') → len ≡ length k.env
    → inner.shell ≡ k.shell → leave (len - length inner.shell) (stand inner n') ≡ (Ok tt, stand outer n') → scoped e (stand k n) ≡ (Ok tt, stand outer n')
scope_ends e k inner outer n n' len h l s g =
    let count : length (drop (length k.shell) k.env) ≡ len - length inner.shell =
    length-drop (length k.shell) k.env ∙ (λ i. sym l i - length (sym s i)) in
    ap (λ o. then_act o (λ u. leave (length (drop (length k.shell) k.env)))) h ∙ ap (λ i. leave i (stand inner n')) count ∙ g
