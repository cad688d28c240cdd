-- What commands lead to, by how many files may still be opened.
use Rattle.std.proofs.Common.{◌≡◌, ℕ, ◌+◌, ◌-◌, ◌<◌, ◌≤◌, zero, suc, Bool, true, false, nat_lt, ◌||◌, List, length, Option, Some, None, refl, sym, ap, subst, ◌∙◌, append_assoc, arith, if◌then◌else◌}
use Rattle.std.specs.FinMap.{get}
use Rattle.std.proofs.lemmas.Bool.Decides.{nat_tests}
use Rattle.use_io.specs.Shelves.{Files, HasFile, HasLonger, KeepsFiles, LacksFile}
use Rattle.use_text.specs.declared.cut.Cut.{Cut}
use Rattle.use_text.specs.declared.place.Place.{Place}
use Rattle.use_text.specs.Cuts.{cuts}
use Rattle.use_session.specs.declared.session.Turn.{Turn}
use Rattle.use_session.specs.Machine.{Machine, step}
use Rattle.use_shell.specs.Echo.{echoed}
use Rattle.use_shell.specs.Output.{Played, after, behind, command, commands_in, max_file, of_file, opens_in, play, turned, unopened}

pub commands_at : (n : ℕ) (files : Files) (echo : Bool) (m : Machine) (cut : Cut) → commands_in n files echo m cut ≡ command echo (opens_in n files echo) m cut
unfolding commands_in
commands_at zero files echo m cut = refl
commands_at (suc n) files echo m cut = refl

-- a step whose turn is known
pub command_by : (n : ℕ) (files : Files) (echo : Bool) (m : Machine) (cut : Cut) (t : Turn) → (step m cut).turn ≡ t
    → commands_in n files echo m cut ≡ behind (echoed echo cut) (turned (opens_in n files echo) (step m cut) t)
command_by n files echo m cut t is =
    commands_at n files echo m cut ∙ ap (λ u. behind (echoed echo cut) (turned (opens_in n files echo) (step m cut) u)) is

pub behind_after : (e : List ℕ) (p q : Played) → behind e (after p q) ≡ after (behind e p) q
behind_after e p q =
    ap (λ l. record { machine = q.machine; bytes = l; over = q.over; failed = p.failed || q.failed; units = p.units + q.units })
    (sym (append_assoc e p.bytes q.bytes))

pub opens_none : (n : ℕ) (files : Files) (echo : Bool) (m : Machine) (name : List ℕ) (place : Place) → n ≡ 0
    → opens_in n files echo m name place ≡ unopened 3 m place
opens_none n files echo m name place is = ap (λ k. opens_in k files echo m name place) is

opens_suc : (n k : ℕ) (files : Files) (echo : Bool) (m : Machine) (name : List ℕ) (place : Place) → n ≡ suc k
    → opens_in n files echo m name place ≡ of_file (commands_in k files echo) m place (get files name)
opens_suc n k files echo m name place is = ap (λ k. opens_in k files echo m name place) is

-- one may still be opened
pub opens_one : (n : ℕ) (files : Files) (echo : Bool) (m : Machine) (name : List ℕ) (place : Place) (held : Option (List ℕ)) → (n ≡ 0 → ⊥)
    → get files name ≡ held → opens_in n files echo m name place ≡ of_file (commands_in (n - 1) files echo) m place held
opens_one n files echo m name place held some is =
    opens_suc n (n - 1) files echo m name place (omega (arith, some))
    ∙ ap (of_file (commands_in (n - 1) files echo) m place) is

pub file_within : (c : Machine → Cut → Played) (m : Machine) (place : Place) (bytes : List ℕ) → length bytes ≤ max_file
    → of_file c m place (Some bytes) ≡ play c m (cuts bytes)
file_within c m place bytes few = ap (λ t. if t then unopened 2 m place else play c m (cuts bytes)) within
  where
    within : nat_lt max_file (length bytes) ≡ false
    within = grind (arith, nat_tests)

pub file_beyond : (c : Machine → Cut → Played) (m : Machine) (place : Place) (bytes : List ℕ) → max_file < length bytes
    → of_file c m place (Some bytes) ≡ unopened 2 m place
file_beyond c m place bytes many = ap (λ t. if t then unopened 2 m place else play c m (cuts bytes)) beyond
  where
    beyond : nat_lt max_file (length bytes) ≡ true
    beyond = grind (arith, nat_tests)

pub some_same : (a b : Files) → Some a ≡ Some b → a ≡ b
some_same a b is = cc

pub lacks_of : (a : Option Files) (held : Files) (name : List ℕ) → a ≡ Some held → LacksFile a name → get held name ≡ None
lacks_of a held name is h = subst (λ (o : Option Files). LacksFile o name) is h

pub longer_of : (a : Option Files) (held : Files) (name : List ℕ) (limit : ℕ) → a ≡ Some held → HasLonger a name limit → HasLonger (Some held) name limit
longer_of a held name limit is h = subst (λ (o : Option Files). HasLonger o name limit) is h

-- the shelf tells the same files
pub still : (a b : Option Files) (held : Files) → KeepsFiles a b → a ≡ Some held → b ≡ Some held
still None b held keeps is = absurd (cc)
still (Some files) b held keeps is = keeps ∙ is

pub keeps_same : (a : Option Files) → KeepsFiles a a
keeps_same None = tt
keeps_same (Some files) = refl

pub keeps_then : (a b d : Option Files) → KeepsFiles a b → KeepsFiles b d → KeepsFiles a d
keeps_then None b d h k = tt
keeps_then (Some files) None d h k = absurd (cc)
keeps_then (Some files) (Some held) d h k = k ∙ h

pub held_of : (a : Option Files) (held : Files) (name bytes : List ℕ) → a ≡ Some held → HasFile a name bytes → get held name ≡ Some bytes
held_of None held name bytes is h = absurd (cc)
held_of (Some files) held name bytes is h = ap (λ o. get o name) (sym (some_same files held is)) ∙ h
