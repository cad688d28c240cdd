-- The statements of the bodies of a program's operations may be carried out.
use Rattle.std.proofs.Common.{◌≡◌, ℕ, zero, suc, All, List, [], ◌∷◌, Option, Some, slice_get, unwrap_or, sym, ap, subst}
use Rattle.std.specs.Option.{ForSome}
use Rattle.std.proofs.lemmas.List.Elements.{All-head, All-tail}
use Rattle.ocl_core.specs.declared.program.OpBody.{OpBody}
use Rattle.ocl_core.specs.declared.program.OpBody.TheVariants as body
use Rattle.ocl_core.specs.declared.program.ProgramParts.{ProgramParts}
use Rattle.ocl_core.specs.declared.statement.Stmt.{Stmt}
use Rattle.ocl_core.specs.Programs.{IsSoundProgram, query_of}
use Rattle.ocl_core.specs.Trees.{IsSound}
use Rattle.ocl_program.specs.Bodies.{IsBodyOf, soil_of}
use Rattle.ocl_program.specs.Programs.{IsProgram}
use Rattle.object_state.proofs.Keyed.{some≢none}
use Rattle.entry_states.specs.declared.frame.Call.{Call}
use Rattle.soil_exec.specs.Calls.{body_of}

abbrev pub HasBodies : ProgramParts → Type 0
HasBodies p = All (λ b. ForSome (soil_of b) (IsBodyOf p.model)) p.bodies

pub bodies_of : (p : ProgramParts) → IsProgram p → HasBodies p
bodies_of p h = h.soil

-- what holds of all bodies, and where there is none, holds of the body of a number
there : (P : OpBody → Type 0) → P body.None → (bs : List OpBody) (n : ℕ) → All P bs → P (unwrap_or (slice_get bs n) body.None)
there P none [] n h = none
there P none (b ∷ bs) zero h = All-head P b bs h
there P none (b ∷ bs) (suc n) h = there P none bs n (All-tail P b bs h)

pub soil_there : (Is : List Stmt → Type 0) (bs : List OpBody) (n : ℕ) → All (λ b. ForSome (soil_of b) Is) bs → ForSome (soil_of (unwrap_or (slice_get bs n) body.None)) Is
soil_there Is bs n h = there (λ b. ForSome (soil_of b) Is) (λ x e. absurd (some≢none x (sym e))) bs n h

module _ (p : ProgramParts) (k : Call) (b : OpBody) (is : slice_get p.bodies k.op ≡ Some b) where
  pub body_is : body_of p k ≡ b
  body_is = ap (λ (u : Option OpBody). unwrap_or u body.None) is

  pub soil_is : HasBodies p → ForSome (soil_of b) (IsBodyOf p.model)
  soil_is h = subst (λ (b : OpBody). ForSome (soil_of b) (IsBodyOf p.model)) body_is (soil_there (IsBodyOf p.model) p.bodies k.op h)

  pub query_is : IsSoundProgram p → ForSome (query_of b) IsSound
  query_is h =
      subst (λ (b : OpBody). ForSome (query_of b) IsSound) body_is
      (there (λ b. ForSome (query_of b) IsSound) (λ x e. absurd (some≢none x (sym e))) p.bodies k.op h.bodies)
