-- Entries whose keys are read.
use Rattle.std.proofs.Common.{◌≡◌, Bool, List, [], ◌∷◌, map, refl, sym, ap, ◌∙◌, Ordering}
use Rattle.std.specs.BTreeMap.{insert_entry}
use Rattle.std.specs.Map.{lookup, remove_entry}
use Rattle.object_state.proofs.Keyed.{by_order, by_test}

module _ {A B X : Type 0} (f : A → B) where
  abbrev pub read : List (A × X) → List (B × X)
  read es = map (λ e. (f e.0, e.1)) es

  pub read_insert : (R : A → A → Ordering) (S : B → B → Ordering) → ((x y : A) → R x y ≡ S (f x) (f y)) → (es : List (A × X)) (k : A) (v : X)
      → read (insert_entry R es k v) ≡ insert_entry S (read es) (f k) v
  read_insert R S same [] k v = refl
  read_insert R S same (e ∷ es) k v =
      by_order (R k e.0)
      (λ l. rw l (rw (sym (same k e.0) ∙ l) refl))
      (λ t. rw t (rw (sym (same k e.0) ∙ t) refl))
      (λ g. rw g (rw (sym (same k e.0) ∙ g) (ap (λ l. (f e.0, e.1) ∷ l) (read_insert R S same es k v))))

  pub read_remove : (test : A → Bool) (test' : B → Bool) → ((x : A) → test x ≡ test' (f x)) → (es : List (A × X))
      → read (remove_entry test es) ≡ remove_entry test' (read es)
  read_remove test test' same [] = refl
  read_remove test test' same (e ∷ es) =
      by_test (test e.0)
      (λ y. rw y (rw (sym (same e.0) ∙ y) refl))
      (λ n. rw n (rw (sym (same e.0) ∙ n) (ap (λ l. (f e.0, e.1) ∷ l) (read_remove test test' same es))))

  pub read_lookup : (test : A → Bool) (test' : B → Bool) → ((x : A) → test x ≡ test' (f x)) → (es : List (A × X)) → lookup test es ≡ lookup test' (read es)
  read_lookup test test' same [] = refl
  read_lookup test test' same (e ∷ es) =
      by_test (test e.0)
      (λ y. rw y (rw (sym (same e.0) ∙ y) refl))
      (λ n. rw n (rw (sym (same e.0) ∙ n) (read_lookup test test' same es)))
