-- Files by name, one after another.
use Rattle.std.proofs.Common.{◌≡◌, ◌≢◌, ℕ, List, [], ◌∷◌, Vec, String, Global, string_bytes, Some, None, refl, rules, ◌<◌, ◌≤◌, ◌+◌, length, drop, get_or}
use Rattle.std.specs.FinMap.{get, gets, slice_cmp-IsAntisymmetric, nat_cmp-IsAntisymmetric}
use Rattle.std.proofs.lemmas.List.{drop_more}
use Rattle.std.proofs.Math.ListN.{drop_of_length-le}
use Rattle.use_io.specs.Held.{held_by}

pub held_none : (name : List ℕ) → get (held_by []) name ≡ None
held_none name = grind (gets, rules)

pub held_same : (f : String Global × Vec ℕ Global) (files : List (String Global × Vec ℕ Global)) (name : List ℕ)
    → string_bytes f.0 ≡ name → get (held_by (f ∷ files)) name ≡ Some f.1.items
held_same f files name e = grind (gets, rules)

pub held_other : (f : String Global × Vec ℕ Global) (files : List (String Global × Vec ℕ Global)) (name : List ℕ)
    → string_bytes f.0 ≢ name → get (held_by (f ∷ files)) name ≡ get (held_by files) name
held_other f files name e = grind (gets, rules, slice_cmp-IsAntisymmetric nat_cmp-IsAntisymmetric name (string_bytes f.0))

-- the files from one on
pub held_from : (f : String Global × Vec ℕ Global) (files : List (String Global × Vec ℕ Global)) (i : ℕ) (name : List ℕ)
    → i < length files → f ≡ get_or files i f → get (held_by (drop i files)) name ≡ get (held_by (f ∷ drop (i + 1) files)) name
held_from f files i name h e = rw (drop_more files i f h, ← e) refl

pub held_end : (files : List (String Global × Vec ℕ Global)) (i : ℕ) (name : List ℕ) → length files ≤ i → get (held_by (drop i files)) name ≡ None
held_end files i name h = rw (drop_of_length-le files {i = i} h) (held_none name)
