-- What comes of typing: something holds of what is typed, or else of the place of the refusal.
use Rattle.std.proofs.Common.{List, [], ◌∷◌, ◌++◌, Option, Some, None, Bool, true, false, cond}
use Rattle.std.specs.Prelude.{Ok, Err}
use Rattle.std.specs.List.{AllByRecursion}
use Rattle.std.specs.Option.{IfSome}
use Rattle.use_text.specs.declared.place.Place.{Place}
use Rattle.ocl_rules.specs.Typings.{Typing}
use Rattle.ocl_shapes.specs.Combining.{◌>>=◌, each, if_there}

abbrev pub Comes : {A : Type 0} → (Place → Type 0) → (A → Type 0) → Typing A → Type 0
Comes At G (Ok a) = G a
Comes At G (Err r) = At r.place

module _ (At : Place → Type 0) where
  pub binds : {A B : Type 0} (G : A → Type 0) (H : B → Type 0) (t : Typing A) (f : A → Typing B) → Comes At G t →
      ((a : A) → G a → Comes At H (f a)) → Comes At H (t >>= f)
  binds G H (Ok a) f h k = k a h
  binds G H (Err r) f h k = h

  pub chosen : {A : Type 0} (G : A → Type 0) (b : Bool) (x y : Typing A) → Comes At G x → Comes At G y → Comes At G (cond b x y)
  chosen G true x y h k = h
  chosen G false x y h k = k

  pub every_push : {B : Type 0} (G : B → Type 0) (xs : List B) (x : B) → AllByRecursion G xs → G x → AllByRecursion G (xs ++ x ∷ [])
  every_push G [] x h p = (p, tt)
  every_push G (y ∷ xs) x h p = (h.0, every_push G xs x h.1 p)

  pub each_comes : {A B : Type 0} (In : A → Type 0) (G : B → Type 0) (f : A → Typing B) → ((a : A) → In a → Comes At G (f a)) →
      (done : List B) (xs : List A) → AllByRecursion G done → AllByRecursion In xs → Comes At (AllByRecursion G) (each f done xs)
  each_comes In G f h done [] d k = d
  each_comes In G f h done (x ∷ xs) d k =
      binds G (AllByRecursion G) (f x) (λ y. each f (done ++ y ∷ []) xs) (h x k.0)
      (λ y g. each_comes In G f h (done ++ y ∷ []) xs (every_push G done y d g) k.1)

  pub if_there_comes : {A B : Type 0} (In : A → Type 0) (G : B → Type 0) (f : A → Typing B) → ((a : A) → In a → Comes At G (f a)) →
      (o : Option A) → IfSome o In → Comes At (λ o. IfSome o G) (if_there f o)
  if_there_comes In G f h None k = tt
  if_there_comes In G f h (Some x) k = binds G (λ o. IfSome o G) (f x) (λ y. Ok (Some y)) (h x k) (λ y g. g)

  pub widened : {A : Type 0} (G H : A → Type 0) (t : Typing A) → ((a : A) → G a → H a) → Comes At G t → Comes At H t
  widened G H (Ok a) w h = w a h
  widened G H (Err r) w h = h

pub moved : {A : Type 0} (At To : Place → Type 0) (G : A → Type 0) (t : Typing A) → ((p : Place) → At p → To p) → Comes At G t → Comes To G t
moved At To G (Ok a) w h = h
moved At To G (Err r) w h = w r.place h
