-- What the functions of the walk need of what types the parts.
use Rattle.std.specs.Prelude.{◌≡◌, ℕ, ◌+◌, ◌*◌, ◌<◌, ◌≤◌, ◌^◌, IfOk, Result}
use denote.Ref.{Bor, MutBor}
use Rattle.ocl_syntax.specs.declared.tree.Written.{Written}
use Rattle.ocl_rules.specs.declared.fault.TypeFault.{TypeFault}
use Rattle.ocl_rules.specs.declared.typed.Typed.{Typed}
use Rattle.ocl_rules.specs.Forms.{levels, max_levels}
use Rattle.ocl_rules.specs.Typings.{Tells, Typing}
use Rattle.ocl_scope.specs.declared.environment.Environment.{Environment}
use Rattle.ocl_types.specs.declared.setting.Setting.{Setting}
use Rattle.ocl_types.specs.Nodes.{Scene}
use Rattle.ocl_types.specs.Walk.{type_in}

abbrev pub scene : Setting → Scene
scene s = record { model = s.model.now; is_post = s.is_post }

-- the types of parts in a setting
abbrev pub part_in : Setting → Environment → Written → Typing Typed
part_in s = type_in (scene s) s.nesting

-- room for some more values, and for those that so many nested nodes may add
abbrev pub HasRoom : ℕ → ℕ → Environment → Type 0
HasRoom more nesting env = env.size + more + nesting * 256 < 2 ^ 32

-- no more levels of collections than a type may have
abbrev pub IsShallow : Typed → Type 0
IsShallow x = levels x.of_type ≤ max_levels

-- what comes of a part
pub record Comes (given : Typing Typed) (old new : Environment) (r : Result Typed TypeFault) : Type 0 where
  pub value : Tells given r
  pub shallow : IfOk r IsShallow
  pub environment : new ≡ old

-- a function that types parts in which so many nodes may nest
pub record Types (nesting : ℕ) (may : Bor Setting → MutBor Environment → Bor Written → Type 0)
    (does : Bor Setting → MutBor Environment → Bor Written → Result Typed TypeFault → MutBor Environment → Type 0) : Type 0 where
  pub callable : (s : Bor Setting) (env : MutBor Environment) (e : Bor Written) → s.now.nesting ≡ nesting → HasRoom 0 nesting env.now → may s env e
  pub gives : (s : Bor Setting) (env env' : MutBor Environment) (e : Bor Written) (r : Result Typed TypeFault) →
      s.now.nesting ≡ nesting → does s env e r env' → Comes (part_in s.now env.now e.now) env.now env'.now r
