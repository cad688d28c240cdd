-- What a choice leads to hangs on the kind of the next token alone, so that its cells tell it.
use Rattle.std.proofs.Common.{◌≡◌, ℕ, Bool, true, false, if◌then◌else◌, List, [], ◌∷◌, option_map, Option, Some, None, slice_get, IfSome, is_some, subst, refl, sym, ap, ◌∙◌}
use Rattle.std.proofs.lemmas.Option.{slice_get_within, slice_get-map}
use Rattle.use_text.specs.declared.token.Token.{Token}
use Rattle.grammar_core.specs.declared.table.Branch.{Branch}
use Rattle.grammar_core.specs.declared.table.Table.{Table}
use Rattle.grammar_core.specs.declared.table.Prod.{Prod}
use Rattle.grammar_core.specs.declared.table.Prod.TheVariants.{Tok, Call, Seq, Case, Star}
use Rattle.grammar_core.specs.Choices.{AreByKind, choice}
use Rattle.grammar_core.specs.Derives.{begins, branch_of, is_kind, kinds}

module _ (ks : List ℕ) (at k : ℕ) (next : slice_get ks at ≡ Some k) where
  begins_same : (firsts : List ℕ) → begins (k ∷ []) 0 firsts ≡ begins ks at firsts
  begins_same [] = refl
  begins_same (kind ∷ more) =
      ap (λ (b : Bool). if b then true else begins (k ∷ []) 0 more) (ap (λ (o : Option ℕ). is_kind o kind) (sym next))
      ∙ ap (λ (b : Bool). if is_kind (slice_get ks at) kind then true else b) (begins_same more)

  branch_same : (bs : List Branch) (other : Option ℕ) → branch_of (k ∷ []) 0 bs other ≡ branch_of ks at bs other
  branch_same [] other = refl
  branch_same (b ∷ bs) other =
      ap (λ (t : Bool). if t then Some b.to else branch_of (k ∷ []) 0 bs other) (begins_same b.firsts)
      ∙ ap (λ (o : Option ℕ). if begins ks at b.firsts then Some b.to else o) (branch_same bs other)

  pub choice_same : (x : Prod) → choice (k ∷ []) 0 x ≡ choice ks at x
  choice_same (Tok kind) = refl
  choice_same (Call r) = refl
  choice_same (Seq ps) = refl
  choice_same (Case bs other) = branch_same bs other
  choice_same (Star firsts q) = ap (λ (t : Bool). if t then Some q else None) (begins_same firsts)

-- what a cell tells is what the choice leads to
pub cell_tells : (all : List (List (Option ℕ))) (tokens : List Token) (at p : ℕ) (token : Token) (cells : List (Option ℕ)) (told : Option ℕ)
    → slice_get tokens at ≡ Some token → slice_get all p ≡ Some cells → slice_get cells token.kind ≡ Some told
    → (prods : List Prod) (x : Prod) → AreByKind prods all → slice_get prods p ≡ Some x → told ≡ choice (kinds tokens) at x
cell_tells all tokens at p token cells told e f h prods x by there =
    let next : slice_get (kinds tokens) at ≡ Some token.kind = slice_get-map (λ t. t.kind) tokens at
    ∙ ap (λ (o : Option Token). option_map (λ t. t.kind) o) e in
    let is = by p x cells there f token.kind (slice_get_within cells token.kind told h) in
    let same : told ≡ choice (token.kind ∷ []) 0 x = cc in
    same ∙ choice_same (kinds tokens) at token.kind next x

-- where there is a cell
pub cell_may_tell : (all : List (List (Option ℕ))) (tokens : List Token) (at p : ℕ) (token : Token) (cells : List (Option ℕ)) (o : Option (Option ℕ))
    → slice_get tokens at ≡ Some token → slice_get all p ≡ Some cells → slice_get cells token.kind ≡ o
    → IfSome o (λ told. (prods : List Prod) (x : Prod) → AreByKind prods all → slice_get prods p ≡ Some x → told ≡ choice (kinds tokens) at x)
cell_may_tell all tokens at p token cells None e f h = tt
cell_may_tell all tokens at p token cells (Some told) e f h = cell_tells all tokens at p token cells told e f h

-- the same cells of the same table
pub by_kind_as : (t g : Table) (cells all : List (List (Option ℕ))) → t ≡ g → all ≡ cells → AreByKind t.prods cells → AreByKind g.prods all
by_kind_as t g cells all e f by = subst (λ (u : Table). AreByKind u.prods all) e (subst (λ (l : List (List (Option ℕ))). AreByKind t.prods l) (sym f) by)

pub some_if : (b : Bool) (q : ℕ) (o : Option ℕ) → o ≡ (if b then Some q else None) → is_some o ≡ b
some_if true q o e = ap (λ (x : Option ℕ). is_some x) e
some_if false q o e = ap (λ (x : Option ℕ). is_some x) e
