-- What is done one after another on something that changes, until a part of it is refused.
use Rattle.std.specs.Prelude.{◌≡◌, Bool, if◌then◌else◌, List, [], ◌∷◌, Option, Some, None, Result, Ok, Err}

-- a result, or why it was refused, and what the thing is then
abbrev pub Outcome : (S E A : Type 0) → Type 0
Outcome S E A = Result A E × S

abbrev pub Act : (S E A : Type 0) → Type 0
Act S E A = S → Outcome S E A

-- goes on with what is given; the first refusal ends it
abbrev pub then_act : {S E A B : Type 0} → Outcome S E A → (A → Act S E B) → Outcome S E B
then_act (Ok a, s) next = next a s
then_act (Err e, s) next = (Err e, s)

infixl 10 ◌>>=◌
abbrev pub ◌>>=◌ : {S E A B : Type 0} → Act S E A → (A → Act S E B) → Act S E B
p >>= next = λ s. then_act (p s) next

infixl 10 ◌>>◌
abbrev pub ◌>>◌ : {S E A B : Type 0} → Act S E A → Act S E B → Act S E B
p >> q = p >>= (λ _. q)

abbrev pub pure : {S E A : Type 0} → A → Act S E A
pure a = λ s. (Ok a, s)

abbrev pub refuse : {S E A : Type 0} → E → Act S E A
refuse e = λ s. (Err e, s)

-- nothing is done
abbrev pub nothing : {S E : Type 0} → Act S E (Unit {0})
nothing = pure tt

-- refused where something holds
abbrev pub refuse_if : {S E : Type 0} → Bool → E → Act S E (Unit {0})
refuse_if b e = if b then refuse e else nothing

-- what is there, or refused
abbrev pub or_refuse : {S E A : Type 0} → Option A → E → Act S E A
or_refuse (Some a) e = pure a
or_refuse None e = refuse e

-- something is done for each of some things, in their order
abbrev pub each : {S E A : Type 0} → (A → Act S E (Unit {0})) → List A → Act S E (Unit {0})
each f [] = nothing
each f (x ∷ xs) = f x >> each f xs
