-- What holds of a statement holds of its parts.
use Rattle.std.proofs.Common.{◌≡◌, ℕ, ◌<◌, All, List, length, ap, ◌∙◌, subst, arith}
use Rattle.std.specs.List.{enumerate_from}
use Rattle.std.proofs.lemmas.List.{length-map}
use Rattle.std.proofs.lemmas.List.FromFn.{length-enumerate_from}
use Rattle.class_model.specs.declared.object_model.ObjectModel.{ObjectModel}
use Rattle.ocl_core.specs.declared.statement.Act.{Act, out-Act}
use Rattle.ocl_core.specs.declared.statement.Act.TheOpen.{Act-F}
use Rattle.ocl_core.specs.declared.statement.Stmt.{Stmt}
use Rattle.object_state.specs.declared.layout.Layout.{Layout}
use Rattle.object_state.specs.Layouts.{assoc_layout, class_layout, layout_of}
use Rattle.soil_exec.specs.Bodies.{ActHolds, HoldsTo, IsBody}

-- what holds of statements down to each depth
pub all_hold : (m : ObjectModel) (xs : List Stmt) → ((n : ℕ) → All (HoldsTo m n) xs) → IsBody m xs
all_hold m xs h k d l = record { holds = λ n. h n k d l }

-- of an act, by its layer
pub act_as : (m : ObjectModel) (a v : Act) (l : Act-F Act Stmt) → ((n : ℕ) → ActHolds m (HoldsTo m n) (out-Act a)) → a ≡ v → out-Act v ≡ l
    → (n : ℕ) → ActHolds m (HoldsTo m n) l
act_as m a v l h is out n = subst (ActHolds m (HoldsTo m n)) out (subst (λ (z : Act). ActHolds m (HoldsTo m n) (out-Act z)) is (h n))

-- numbers of a model are those of its layout
pub class_known : (m : ObjectModel) (l : Layout) (c : ℕ) → l ≡ layout_of m → c < length m.classes → c < length l.classes
class_known m l c e h =
    let long : length l.classes ≡ length m.classes =
    ap (λ (z : Layout). length z.classes) e ∙ length-map (enumerate_from 0 m.classes) (λ c. class_layout m c.0 c.1.is_abstract) ∙ length-enumerate_from 0 m.classes in
    omega arith

pub assoc_known : (m : ObjectModel) (l : Layout) (a : ℕ) → l ≡ layout_of m → a < length m.assocs → a < length l.assocs
assoc_known m l a e h =
    let long : length l.assocs ≡ length m.assocs = ap (λ (z : Layout). length z.assocs) e ∙ length-map m.assocs assoc_layout in
    omega arith
