-- Typing one thing after another, from left to right: the first rule that is broken ends it.
use Rattle.std.specs.Prelude.{List, [], ◌∷◌, ◌++◌, Option, Some, None, Ok}
use Rattle.ocl_rules.specs.Typings.{Typing, then_typed}

infixl 10 ◌>>=◌
abbrev pub ◌>>=◌ : {A B : Type 0} → Typing A → (A → Typing B) → Typing B
p >>= next = then_typed p next

infixl 10 ◌>>◌
abbrev pub ◌>>◌ : {A B : Type 0} → Typing A → Typing B → Typing B
p >> q = then_typed p (λ _. q)

abbrev pub pure : {A : Type 0} → A → Typing A
pure a = Ok a

-- what each of some things gives, in their order, behind what is there
abbrev pub each : {A B : Type 0} → (A → Typing B) → List B → List A → Typing (List B)
each f done [] = pure done
each f done (x ∷ xs) = do
  y ← f x
  each f (done ++ y ∷ []) xs

-- what something gives, if it is there
abbrev pub if_there : {A B : Type 0} → (A → Typing B) → Option A → Typing (Option B)
if_there f None = pure None
if_there f (Some x) = do
  y ← f x
  pure (Some y)
