-- What an index of names agrees with.
use Rattle.std.specs.Prelude.{◌≡◌, ℕ, nat_eq, List, true}
use Rattle.std.specs.BTreeMap.{is_at}
use Rattle.std.specs.Cmp.Lexicographic.{pointwise}
use Rattle.std.specs.List.{position}
use Rattle.std.specs.Map.{lookup}
use Rattle.std.specs.Option.{ForSome}
use Rattle.use_orders.specs.Canon.{all_differ}
use Rattle.object_state.specs.State.{text_cmp}
use Rattle.soil_exec.specs.declared.shell.Shell.TheInside.{Inside}

-- each name is found where it stands
abbrev pub AreFound : List (List ℕ) → List (List ℕ × ℕ) → Type 0
AreFound names places = (name : List ℕ) → lookup (is_at (text_cmp name)) places ≡ position (pointwise nat_eq name) names

-- where there is an index; and no two are one
pub record IsFound (s : Inside) : Type 0 where
  pub found : ForSome s.places (λ m. AreFound s.names m.entries)
  pub differ : all_differ text_cmp s.names ≡ true
