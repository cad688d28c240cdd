-- Refusals of a whole expression stand in it.
use Rattle.std.proofs.Common.{ℕ, zero, suc, Bool, true, false, List, [], ◌∷◌, Contains, Some, None}
use Rattle.std.specs.Prelude.{⊤, Ok, Err, IfErr}
use Rattle.std.specs.List.{AllByRecursion}
use Rattle.std.specs.Option.{IfSome}
use Rattle.use_text.specs.declared.place.Place.{Place}
use Rattle.class_model.specs.declared.object_model.ObjectModel.{ObjectModel}
use Rattle.ocl_syntax.specs.declared.tree.Argument.TheOpen.{Written-F}
use Rattle.ocl_syntax.specs.declared.tree.Written.{Written, out-Written}
use Rattle.ocl_syntax.specs.Places.{first_place, place}
use Rattle.ocl_rules.specs.declared.typed.Typed.{Typed}
use Rattle.ocl_rules.specs.Forms.{level_rule}
use Rattle.ocl_rules.specs.Typings.{Typing}
use Rattle.ocl_scope.specs.declared.environment.Environment.{Environment}
use Rattle.ocl_shapes.specs.Shapes.{Layer, name_alone, plain_name}
use Rattle.ocl_types.specs.Nodes.{Scene, node}
use Rattle.ocl_types.specs.Walk.{leveled, max_nesting, type_expr, type_in}
use Rattle.ocl_syntax.specs.Standing.{StandsIn, own_places}
use Rattle.ocl_syntax.specs.Within.{parts_of}
use Rattle.ocl_laws.proofs.Comes.{Comes, binds, moved}
use Rattle.ocl_laws.proofs.Refusals.{AnyType, AnyTyped, rules}
use Rattle.ocl_syntax.proofs.PlacesStand.{every_first, every_place, inside}
use Rattle.ocl_laws.proofs.Standing.{layer_in, own_stand, parts_stand}
use Rattle.ocl_laws.proofs.Walk.{node_kept}

every_moved : {X : Type 0} (P Q : X → Type 0) → ((x : X) → P x → Q x) → (xs : List X) → AllByRecursion P xs → AllByRecursion Q xs
every_moved P Q f [] h = tt
every_moved P Q f (x ∷ xs) h = (f x h.0, every_moved P Q f xs h.1)

-- a name alone stands at a place of its form
alone_at : (Q : Place → Type 0) (l : Layer) → AllByRecursion Q (own_places l) → IfSome (name_alone l) (λ n. Q n.place)
alone_at Q (Written-F.Named name None false None) h = h.0
alone_at Q (Written-F.Named name None false (Some arguments)) h = tt
alone_at Q (Written-F.Named name None true arguments) h = tt
alone_at Q (Written-F.Named name (Some literal) is_before arguments) h = tt
alone_at Q (Written-F.TooDeep place) h = tt
alone_at Q (Written-F.Literal place value) h = tt
alone_at Q (Written-F.OnlyLiteral place name) h = tt
alone_at Q (Written-F.Collection place kind parts) h = tt
alone_at Q (Written-F.If place c a b) h = tt
alone_at Q (Written-F.Let place name t value body) h = tt
alone_at Q (Written-F.Unary place op a) h = tt
alone_at Q (Written-F.Binary place op a b) h = tt
alone_at Q (Written-F.Dot source name is_before arguments) h = tt
alone_at Q (Written-F.Arrow source name arguments) h = tt
alone_at Q (Written-F.Group place inner) h = tt

module _ (e : Written) where
  abbrev In : Place → Type 0
  In p = StandsIn p e

  abbrev Part : Written → Type 0
  Part part = Contains (parts_of (out-Written e)) part

  first_in : (part : Written) → Part part → In (first_place part)
  first_in part h = inside e part h (every_first part)

  plain_in : (part : Written) → Part part → IfSome (plain_name part) (λ n. In n.place)
  plain_in part h =
      alone_at In (out-Written part)
      (every_moved (λ p. StandsIn p part) In (λ p k. inside e part h k) (own_places (out-Written part)) (own_stand part))

  node_stands : (s : Scene) (type_of : Environment → Written → Typing Typed) →
      ((env : Environment) (part : Written) → Comes (λ p. StandsIn p part) (λ x. ⊤) (type_of env part)) → (env : Environment) →
      Comes In (λ x. ⊤) (node s type_of env (out-Written e))
  node_stands s type_of h env =
      node_kept s In Part (λ env. ⊤) AnyType AnyTyped (rules s.model s.is_post In) first_in plain_in type_of
      (λ env _ part k. moved (λ p. StandsIn p part) In (λ x. ⊤) (type_of env part) (λ p q. inside e part k q) (h env part)) env tt (out-Written e)
      (layer_in In Part (out-Written e) (own_stand e) (parts_stand e))

  leveled_stands : (s : Scene) (type_of : Environment → Written → Typing Typed) →
      ((env : Environment) (part : Written) → Comes (λ p. StandsIn p part) (λ x. ⊤) (type_of env part)) → (env : Environment) →
      Comes In (λ x. ⊤) (leveled s type_of env e)
  unfolding leveled
  leveled_stands s type_of h env =
      binds In (λ x. ⊤) (λ x. ⊤) (node s type_of env (out-Written e)) (λ x. level_rule (place e) x) (node_stands s type_of h env)
      (λ x _. (rules s.model s.is_post In).leveled env (place e) x (every_place e) tt)

stands : (s : Scene) (n : ℕ) (env : Environment) (e : Written) → Comes (λ p. StandsIn p e) (λ x. ⊤) (type_in s n env e)
unfolding type_in
stands s zero env e = every_place e
stands s (suc n) env e = leveled_stands e s (type_in s n) (λ env part. stands s n env part) env

if_refused : {A : Type 0} (At : Place → Type 0) (t : Typing A) → Comes At (λ x. ⊤) t → IfErr t (λ r. At r.place)
if_refused At (Ok a) h = tt
if_refused At (Err r) h = h

pub refusals : (m : ObjectModel) (is_post : Bool) (env : Environment) (e : Written) → IfErr (type_expr m is_post env e) (λ r. StandsIn r.place e)
refusals m is_post env e =
    if_refused (λ p. StandsIn p e) (type_expr m is_post env e) (stands (record { model = m; is_post = is_post }) max_nesting env e)

-- wherever the places that stand in an expression are, its refusal is
moved_refusal : {A : Type 0} (At To : Place → Type 0) → ((p : Place) → At p → To p) → (t : Typing A) → IfErr t (λ r. At r.place) → IfErr t (λ r. To r.place)
moved_refusal At To f (Ok a) h = tt
moved_refusal At To f (Err r) h = f r.place h

pub refused_among : (To : Place → Type 0) (m : ObjectModel) (is_post : Bool) (env : Environment) (e : Written) → ((p : Place) → StandsIn p e → To p) →
    IfErr (type_expr m is_post env e) (λ r. To r.place)
refused_among To m is_post env e f = moved_refusal (λ p. StandsIn p e) To f (type_expr m is_post env e) (refusals m is_post env e)
