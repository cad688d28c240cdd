-- What was made of the front of a list, and what the rest gives.
use Rattle.std.proofs.Common.{◌≡◌, ℕ, List, [], ◌∷◌, ◌++◌, length, map, Option, Some, None, ap, ◌∙◌, append_assoc, append-nil}
use Rattle.std.specs.List.{cons_option, filter_map, flat_map}
use Rattle.std.proofs.lemmas.List.{length-append}
use Rattle.grammar_core.specs.Trees.{ParseTree}
use Rattle.class_decls.specs.declared.decls.OpDecl.{OpDecl}
use Rattle.use_decls.specs.declared.conds.CondPart.{CondPart}
use Rattle.use_decls.specs.Conds.{behind_heads}

some_step : {B : Type 0} (found : List B) (o : Option B) (rest : List B) → (found ++ cons_option o []) ++ rest ≡ found ++ cons_option o rest
some_step found None rest = ap (λ l. l ++ rest) (append-nil found)
some_step found (Some x) rest = append_assoc found (x ∷ []) rest

pub filter_map_step : {A B : Type 0} (f : A → Option B) (found : List B) (x : A) (xs : List A) →
    (found ++ cons_option (f x) []) ++ filter_map f xs ≡ found ++ filter_map f (x ∷ xs)
filter_map_step f found x xs = some_step found (f x) (filter_map f xs)

pub flat_map_step : {A B : Type 0} (f : A → List B) (found : List B) (x : A) (xs : List A) →
    (found ++ f x) ++ flat_map f xs ≡ found ++ flat_map f (x ∷ xs)
flat_map_step f found x xs = append_assoc found (f x) (flat_map f xs)

pub map_step : {A B : Type 0} (f : A → B) (found : List B) (x : A) (xs : List A) →
    (found ++ f x ∷ []) ++ map f xs ≡ found ++ map f (x ∷ xs)
map_step f found x xs = append_assoc found (f x ∷ []) (map f xs)

-- the conditions of one tree more, where its heads were added to those before
pub behind_step : (heads : ParseTree → List OpDecl) (conds : ℕ → ParseTree → List CondPart) (found : List CondPart) (before now : List OpDecl)
    (x : ParseTree) (xs : List ParseTree) → now ≡ before ++ heads x →
    (found ++ conds (length before) x) ++ behind_heads heads conds (length now) xs ≡ found ++ behind_heads heads conds (length before) (x ∷ xs)
behind_step heads conds found before now x xs e =
    append_assoc found (conds (length before) x) (behind_heads heads conds (length now) xs)
    ∙ ap (λ n. found ++ (conds (length before) x ++ behind_heads heads conds n xs)) (ap length e ∙ length-append before (heads x))
