-- What is the same for all statements of a text, and statements that change what later ones see.
use Rattle.std.specs.Prelude.{◌≡◌, ℕ, ⊤, List, [], ◌∷◌, ◌++◌, Result, Ok, Err}
use Rattle.use_text.specs.declared.place.Place.{Place}
use Rattle.grammar_core.specs.Trees.{ParseTree, Row, leaf, node}
use Rattle.use_decls.specs.Names.{LexedText, name_at}
use Rattle.class_model.specs.declared.object_model.ObjectModel.{ObjectModel}
use Rattle.ocl_rules.specs.declared.fault.TypeFault.{TypeFault}
use Rattle.ocl_rules.specs.declared.fault.TypeFault.TheVariants.{Memory, Refused}
use Rattle.ocl_rules.specs.Typings.{Typing}
use Rattle.ocl_shapes.specs.Combining.{◌>>=◌, pure}
use Rattle.soil_scope.specs.declared.setting.Setting.{Setting}
use Rattle.soil_scope.specs.declared.variables.Variables.{Variables}

-- the object model, the text, and the names that it takes from the shell
pub record Scene : Type 0 where
  pub model : ObjectModel
  pub lexed : LexedText
  pub shell : List (List ℕ)

abbrev pub scene : Setting → Scene
scene s = record { model = s.model.now; lexed = s.lexed.now; shell = s.shell.now }

-- the token that a tree begins with
abbrev pub first_in : ℕ → Row → ParseTree
first_in n Row.none = node n Row.none
first_in n (Row.token k at row) = leaf k at
first_in n (Row.rule r below row) = first_in r below

abbrev pub first_token : ParseTree → ParseTree
first_token (leaf k at) = leaf k at
first_token (node n row) = first_in n row

-- where it stands
abbrev pub place_of_tree : Scene → ParseTree → Place
place_of_tree s t = (name_at s.lexed (first_token t)).place

-- things one after another, each among the variables that those before it leave
abbrev pub each_after : {A B : Type 0} → (Variables → A → Typing (B × Variables)) → List B → Variables → List A → Typing (List B × Variables)
each_after f done vs [] = pure (done, vs)
each_after f done vs (x ∷ xs) = do
  y ← f vs x
  each_after f (done ++ y.0 ∷ []) y.1 xs

-- what a call answers, and which variables it leaves, where typing gives this
abbrev pub Leaves : {A : Type 0} → Typing (A × Variables) → Result A TypeFault → Variables → Type 0
Leaves given (Ok a) after = given ≡ Ok (a, after)
Leaves given (Err Memory) after = ⊤
Leaves given (Err (Refused r)) after = given ≡ Err r
