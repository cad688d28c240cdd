-- What is read of things by name, where one name gets others, or none.
use Rattle.std.proofs.Common.{◌≡◌, ℕ, Bool, true, false, cond, List, [], Option, Some, None, unwrap_or, refl, sym, ap, ◌∙◌}
use Rattle.std.specs.BTreeMap.{BTreeMap, UpdatesBy, get}
use Rattle.std.specs.Cmp.Lexicographic.{texts_ties}
use Rattle.class_decls.specs.Texts.{same_text}
use Rattle.class_rules.specs.Groups.{listed}
use Rattle.class_rules.proofs.PlacedClasses.{text_cmp}

put_list : {A : Type 0} (b : Bool) (row : List A) (o : Option (List A)) → unwrap_or (cond b (Some row) o) [] ≡ cond b row (unwrap_or o [])
put_list true row o = refl
put_list false row o = refl

left_list : {A : Type 0} (b : Bool) (o : Option (List A)) → unwrap_or (cond b None o) [] ≡ cond b [] (unwrap_or o [])
left_list true o = refl
left_list false o = refl

module _ {A : Type 0} (old new : BTreeMap (List ℕ) (List A)) (name : List ℕ) where
  pub listed_put : (row : List A) → UpdatesBy text_cmp (text_cmp name) old new (Some row) → (t : List ℕ) →
      listed new t ≡ cond (same_text name t) row (listed old t)
  listed_put row updates t =
      ap (λ o. unwrap_or o []) (updates.0 t ∙ ap (λ b. cond b (Some row) (get text_cmp old t)) (sym (texts_ties name t)))
      ∙ put_list (same_text name t) row (get text_cmp old t)

  pub listed_left : UpdatesBy text_cmp (text_cmp name) old new None → (t : List ℕ) → listed new t ≡ cond (same_text name t) [] (listed old t)
  listed_left updates t =
      ap (λ o. unwrap_or o []) (updates.0 t ∙ ap (λ b. cond b None (get text_cmp old t)) (sym (texts_ties name t)))
      ∙ left_list (same_text name t) (get text_cmp old t)
