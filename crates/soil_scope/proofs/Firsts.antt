-- The token that a tree begins with, step by step.
use Rattle.std.proofs.Common.{◌≡◌, ℕ, zero, suc, ◌<◌, Some, None, refl, subst, arith}
use Rattle.grammar_core.specs.Trees.{ParseTree, Row, leaf, node}
use Rattle.use_nodes.specs.Nodes.{child}
use Rattle.soil_scope.specs.Scenes.{first_in, first_token}

-- how many nodes stand in the way of the first token
abbrev pub depth_in : Row → ℕ
depth_in Row.none = zero
depth_in (Row.token k at row) = zero
depth_in (Row.rule r below row) = suc (depth_in below)

abbrev pub depth : ParseTree → ℕ
depth (leaf k at) = zero
depth (node r row) = suc (depth_in row)

unwrapped : {A : Type 0} (P : A → Type 0) (a b : A) → Some a ≡ Some b → P a → P b
unwrapped P a b e h = let same : a ≡ b = cc in subst P same h

-- the first node below begins as its tree does
pub first_step : (t u : ParseTree) → child 0 t ≡ Some u → first_token u ≡ first_token t
first_step (leaf k at) u e = absurd (cc)
first_step (node r Row.none) u e = absurd (cc)
first_step (node r (Row.token k at row)) u e = unwrapped (λ x. first_token x ≡ leaf k at) (leaf k at) u e refl
first_step (node r (Row.rule n below row)) u e = unwrapped (λ x. first_token x ≡ first_in n below) (node n below) u e refl

pub less_deep : (t u : ParseTree) → child 0 t ≡ Some u → depth u < depth t
less_deep (leaf k at) u e = absurd (cc)
less_deep (node r Row.none) u e = absurd (cc)
less_deep (node r (Row.token k at row)) u e = unwrapped (λ x. depth x < suc zero) (leaf k at) u e (omega arith)
less_deep (node r (Row.rule n below row)) u e = unwrapped (λ x. depth x < suc (suc (depth_in below))) (node n below) u e (omega arith)

-- a tree with nothing below begins with itself
pub first_last : (t : ParseTree) → child 0 t ≡ None → t ≡ first_token t
first_last (leaf k at) e = refl
first_last (node r Row.none) e = refl
first_last (node r (Row.token k at row)) e = absurd (cc)
first_last (node r (Row.rule n below row)) e = absurd (cc)
