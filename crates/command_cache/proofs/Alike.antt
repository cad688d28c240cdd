-- A command is checked alike where the names of its text stand for the same.
use Rattle.std.proofs.Common.{◌≡◌, ℕ, ◌+◌, ◌^◌, Bool, true, false, ◌||◌, List, [], ◌∷◌, ◌++◌, All, fold, length, Option, Some, None, is_some, refl, ap, ◌∙◌}
use Rattle.std.specs.Prelude.{if◌then◌else◌, nat_lt}
use Rattle.std.proofs.lemmas.List.Elements.{All-cons, All-head, All-nil, All-push, All-tail}
use Rattle.use_text.specs.declared.token.Token.{Token}
use Rattle.grammar_core.specs.Trees.{ParseTree}
use Rattle.use_syntax.specs.declared.rule.Rule.TheVariants as r
use Rattle.use_nodes.specs.Nodes.{is_rule}
use Rattle.use_decls.specs.Names.{LexedText}
use Rattle.class_model.specs.declared.object_model.ObjectModel.{ObjectModel}
use Rattle.ocl_rules.specs.Typings.{breaks_t, then_typed}
use Rattle.ocl_shapes.specs.Combining.{pure}
use Rattle.soil_scope.specs.Scenes.{place_of_tree}
use Rattle.soil_scope.specs.Shells.{slot_of, with_name}
use Rattle.soil_scope.specs.Variables.{no_values}
use Rattle.soil_scope.specs.declared.variables.Variables.{Variables}
use Rattle.soil_check.specs.declared.checked.Checked.TheVariants as c
use Rattle.soil_check.specs.declared.scope.Bindings.{Bindings}
use Rattle.soil_check.specs.Commands.{command_of, form, form_among, form_at, form_in, form_of, or_else, scene_of}
use Rattle.soil_check.specs.Scopes.{Known}
use Rattle.soil_check.specs.Seen.{bindings_of, result_of, with_binding, with_known, with_shell_name}
use Rattle.soil_check.specs.Shell.{name_of, shell_names, taken_by}
use Rattle.command_cache.specs.Meanings.{listed, names_in}

module _ (known other : List ℕ → Option Known) where
  abbrev pub Agree : List ℕ → Type 0
  Agree name = known name ≡ other name

  -- a name that may be taken
  taken_same : (b : Bool) (names : List (List ℕ)) (o : Option (List ℕ)) → All Agree (listed o) → taken_by known b names o ≡ taken_by other b names o
  taken_same b names None h = refl
  taken_same b names (Some n) h = ap (λ (k : Option Known). if (b || is_some k) then with_name names n else names) (All-head Agree n [] h)

  chosen : (b : Bool) (xs ys : List (List ℕ)) → All Agree xs → All Agree ys → All Agree (if b then xs else ys)
  chosen true xs ys h g = h
  chosen false xs ys h g = g

  taken_agree : (b : Bool) (names : List (List ℕ)) (o : Option (List ℕ)) → All Agree names → All Agree (listed o) → All Agree (taken_by known b names o)
  taken_agree b names None h g = h
  taken_agree b names (Some n) h g =
      chosen (b || is_some (known n)) (with_name names n) names
      (chosen (is_some (slot_of names n)) names (names ++ n ∷ []) h (All-push Agree names n h (All-head Agree n [] g))) h

  -- of the names of a first token and of others
  first_agree : (o : Option (List ℕ)) (ns : List (List ℕ)) → All Agree (listed o ++ ns) → All Agree (listed o)
  first_agree None ns h = All-nil Agree
  first_agree (Some n) ns h = All-cons Agree n [] (All-head Agree n ns h) (All-nil Agree)

  rest_agree : (o : Option (List ℕ)) (ns : List (List ℕ)) → All Agree (listed o ++ ns) → All Agree ns
  rest_agree None ns h = h
  rest_agree (Some n) ns h = All-tail Agree n ns h

  -- the names that are taken
  module _ (b : Bool) (text : List ℕ) where
    names_same : (ts : List Token) (names : List (List ℕ)) → All Agree (names_in text ts)
        → fold (λ names t. taken_by known b names (name_of text t)) names ts ≡ fold (λ names t. taken_by other b names (name_of text t)) names ts
    names_same [] names h = refl
    names_same (t ∷ ts) names h =
        names_same ts (taken_by known b names (name_of text t)) (rest_agree (name_of text t) (names_in text ts) h)
        ∙ ap (λ (ns : List (List ℕ)). fold (λ names t. taken_by other b names (name_of text t)) ns ts)
        (taken_same b names (name_of text t) (first_agree (name_of text t) (names_in text ts) h))

    names_agree : (ts : List Token) (names : List (List ℕ)) → All Agree names → All Agree (names_in text ts)
        → All Agree (fold (λ names t. taken_by known b names (name_of text t)) names ts)
    names_agree [] names g h = g
    names_agree (t ∷ ts) names g h =
        names_agree ts (taken_by known b names (name_of text t))
        (taken_agree b names (name_of text t) g (first_agree (name_of text t) (names_in text ts) h)) (rest_agree (name_of text t) (names_in text ts) h)

  -- the values that are seen
  values_same : (ns : List (List ℕ)) (vs : Variables) → All Agree ns → fold (with_shell_name known) vs ns ≡ fold (with_shell_name other) vs ns
  values_same [] vs h = refl
  values_same (n ∷ ns) vs h =
      values_same ns (with_shell_name known vs n) (All-tail Agree n ns h)
      ∙ ap (λ (k : Option Known). fold (with_shell_name other) (with_known vs n k) ns) (All-head Agree n ns h)

  module _ (m : ObjectModel) (l : LexedText) (frame : Option Bindings) (agree : All Agree (names_in l.text l.tokens)) where
    among_same : (ns : List (List ℕ)) (t : ParseTree) → All Agree ns
        → form_among (scene_of m l ns) known frame t ≡ form_among (scene_of m l ns) other frame t
    among_same ns t h =
        let s = scene_of m l ns in
        ap (λ (vs : Variables). then_typed (if nat_lt (length ns + length (bindings_of frame)) (2 ^ 31) then pure (fold with_binding vs (bindings_of frame))
        else breaks_t 16 (place_of_tree s t)) (λ vs. form s vs (result_of frame) t)) (values_same ns no_values h)

    form_same : (t : ParseTree) → form_in m known frame l t ≡ form_in m other frame l t
    unfolding form_in
    form_same t =
        let b = is_rule r.Block t in
        among_same (shell_names known b l) t (names_agree b l.text l.tokens [] (All-nil Agree) agree)
        ∙ ap (λ (ns : List (List ℕ)). form_among (scene_of m l ns) other frame t) (names_same b l.text l.tokens [] agree)

    pub command_same : (t : ParseTree) → command_of m known frame l t ≡ command_of m other frame l t
    command_same t = λ i. or_else (form_of t) (λ f. form_same (form_at f) i) (pure c.Empty)
