-- What `reset` leaves of a state, and the changes that lead there.
use Rattle.std.specs.Prelude.{ℕ, nat_eq, nat_lt, List, [], ◌∷◌, ◌++◌, map, Option, Some, None}
use Rattle.std.specs.List.{filter}
use Rattle.object_state.specs.declared.change.Change.{Change}
use Rattle.object_state.specs.declared.change.Change.TheVariants.{Remove, Unbind, Unlink}
use Rattle.object_state.specs.declared.objects.Object.{Object}
use Rattle.object_state.specs.State.{State}
use Rattle.soil_changes.specs.Destroying.{removal}
use Rattle.soil_changes.specs.Joining.{unlinking}

-- its counters alone
abbrev pub cleared : State → State
cleared s = record s { objects = []; links = []; variables = [] }

-- links go by association and stamp, variables by name, objects by number; the counters stay
abbrev pub unlinked : State → (ℕ × ℕ) × (ℕ × ℕ) → Change
unlinked s e = Unlink (unlinking s e.0.0 e.1.0 e.1.1 e.0.1)

abbrev pub unlinkings : State → List Change
unlinkings s = map (unlinked s) s.links

abbrev pub unbindings : State → List Change
unbindings s = map (λ e. Unbind e.0 e.1) s.variables

abbrev pub removed : State → ℕ × Object → Change
removed s e = Remove (removal s e.0 e.1)

abbrev pub removals : State → List Change
removals s = map (removed s) s.objects

abbrev pub reset_changes : State → List Change
reset_changes s = unlinkings s ++ unbindings s ++ removals s

-- the links of an association
abbrev pub unlinkings_of : State → ℕ → List Change
unlinkings_of s a = map (unlinked s) (filter (λ e. nat_eq e.0.0 a) s.links)

-- the links of the associations below a number
abbrev pub unlinkings_below : State → ℕ → List Change
unlinkings_below s n = map (unlinked s) (filter (λ e. nat_lt e.0.0 n) s.links)

-- what takes a link away, where there is one, and an object
abbrev pub unlinking_if : State → ℕ → ℕ × ℕ → Option ℕ → List Change
unlinking_if s a pair (Some stamp) = Unlink (unlinking s a pair.0 pair.1 stamp) ∷ []
unlinking_if s a pair None = []

abbrev pub removal_if : State → ℕ → Option Object → List Change
removal_if s o (Some x) = Remove (removal s o x) ∷ []
removal_if s o None = []
