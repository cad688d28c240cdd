-- The names of a command's text, and what they stood for.
use Rattle.std.specs.Prelude.{◌≡◌, ℕ, List, [], ◌∷◌, Option, Some, None}
use Rattle.std.specs.List.{flat_map}
use Rattle.use_text.specs.declared.token.Token.{Token}
use Rattle.soil_check.specs.Scopes.{Known, object, variable}
use Rattle.soil_check.specs.Shell.{name_of}
use Rattle.command_cache.specs.declared.meanings.Meaning.{Meaning}
use Rattle.command_cache.specs.declared.meanings.Meaning.TheVariants.{Nothing, Object, Variable}
use Rattle.command_cache.specs.declared.meanings.Named.{Named}

-- what a name stood for
abbrev pub stood : Meaning → Option Known
stood Nothing = None
stood (Object class) = Some (object class)
stood (Variable t) = Some (variable t)

abbrev pub listed : Option (List ℕ) → List (List ℕ)
listed None = []
listed (Some name) = name ∷ []

-- the names of a text, in the order of its tokens
abbrev pub names_in : List ℕ → List Token → List (List ℕ)
names_in text ts = flat_map (λ t. listed (name_of text t)) ts

-- a name stands for what it stood for
abbrev pub IsMeant : (List ℕ → Option Known) → Named → Type 0
IsMeant known n = known n.name ≡ stood n.meaning
