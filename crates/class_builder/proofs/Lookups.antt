-- What names stand for, list by list.
use Rattle.std.proofs.Common.{◌≡◌, ℕ, ◌+◌, ◌<◌, Bool, true, false, cond, List, [], ◌∷◌, ◌++◌, length, get_or, take, map, codes, string_bytes, Option, Some, None, refl, sym, ap, ◌∙◌}
use Rattle.std.specs.HashMap.{HashMap, IsEmpty, get_by_text}
use Rattle.std.specs.declared.string.String.{String}
use Rattle.std.specs.List.{enumerate_from}
use Rattle.std.specs.Map.{lookup}
use Rattle.std.specs.Option.{option_or}
use Rattle.std.specs.Str.{bytes_eq}
use Rattle.class_decls.specs.Texts.{same_text}
use Rattle.class_model.specs.declared.types.OclType.{OclType}
use Rattle.class_model.specs.declared.types.OclType.TheVariants as T
use Rattle.class_builder.specs.Models.{plain_names}
use Rattle.class_builder.proofs.Steps.{each_more}

found_or : {V : Type 0} (b : Bool) (v : V) (o p : Option V) → cond b (Some v) (option_or o p) ≡ option_or (cond b (Some v) o) p
found_or true v o p = refl
found_or false v o p = refl

pub lookup-append : {K V : Type 0} (test : K → Bool) (xs ys : List (K × V)) → lookup test (xs ++ ys) ≡ option_or (lookup test xs) (lookup test ys)
lookup-append test [] ys = refl
lookup-append test (x ∷ xs) ys = ap (λ o. cond (test x.0) (Some x.1) o) (lookup-append test xs ys) ∙ found_or (test x.0) x.1 (lookup test xs) (lookup test ys)

or_both : {V : Type 0} (o p q : Option V) → option_or (option_or o p) q ≡ option_or o (option_or p q)
or_both None p q = refl
or_both (Some x) p q = refl

-- one name more, after what names stood for before
pub named_more : {A V : Type 0} (test : List ℕ → Bool) (before : Option V) (f : ℕ × A → List ℕ × V) (xs : List A) (i : ℕ) (x : A) → i < length xs → x
    ≡ get_or xs i x →
    option_or (option_or before (lookup test (map f (enumerate_from 0 (take i xs))))) (cond (test (f (i, x)).0) (Some (f (i, x)).1) None)
    ≡ option_or before (lookup test (map f (enumerate_from 0 (take (i + 1) xs))))
named_more test before f xs i x h e =
    or_both before (lookup test (map f (enumerate_from 0 (take i xs)))) (cond (test (f (i, x)).0) (Some (f (i, x)).1) None)
    ∙ ap (option_or before)
    (sym (lookup-append test (map f (enumerate_from 0 (take i xs))) (f (i, x) ∷ [])) ∙ ap (lookup test) (sym (each_more f xs i x h e)))

chain : {V : Type 0} (o : Option V) (b1 b2 b3 b4 b5 : Bool) (v1 v2 v3 v4 v5 : V) →
    option_or (option_or (option_or (option_or (option_or o (cond b1 (Some v1) None)) (cond b2 (Some v2) None)) (cond b3 (Some v3) None))
    (cond b4 (Some v4) None)) (cond b5 (Some v5) None)
    ≡ option_or o (cond b1 (Some v1) (cond b2 (Some v2) (cond b3 (Some v3) (cond b4 (Some v4) (cond b5 (Some v5) None)))))
chain (Some x) b1 b2 b3 b4 b5 v1 v2 v3 v4 v5 = refl
chain None true b2 b3 b4 b5 v1 v2 v3 v4 v5 = refl
chain None false true b3 b4 b5 v1 v2 v3 v4 v5 = refl
chain None false false true b4 b5 v1 v2 v3 v4 v5 = refl
chain None false false false true b5 v1 v2 v3 v4 v5 = refl
chain None false false false false b5 v1 v2 v3 v4 v5 = refl

-- the plain types, one after another
pub plain_is : (o : Option OclType) (t : List ℕ) →
    option_or (option_or (option_or (option_or (option_or o
    (cond (same_text (codes "Boolean") t) (Some T.Bool) None)) (cond (same_text (codes "Integer") t) (Some T.Int) None))
    (cond (same_text (codes "String") t) (Some T.Str) None))
    (cond (same_text (codes "OclAny") t) (Some T.Any) None)) (cond (same_text (codes "OclVoid") t) (Some T.Void) None)
    ≡ option_or o (lookup (λ name. same_text name t) plain_names)
plain_is o t = chain o (same_text (codes "Boolean") t) (same_text (codes "Integer") t) (same_text (codes "String") t) (same_text (codes "OclAny") t)
    (same_text (codes "OclVoid") t) T.Bool T.Int T.Str T.Any T.Void

pub empty_none : {A V S : Type 0} (m : HashMap (String A) V S) → IsEmpty m → (t : List ℕ) → get_by_text m t ≡ None
empty_none m e t = ap (lookup (λ k. bytes_eq t (string_bytes k))) e

pub names_joined : {V : Type 0} (test : List ℕ → Bool) (p e c : List (List ℕ × V)) →
    option_or (option_or (option_or None (lookup test p)) (lookup test e)) (lookup test c) ≡ lookup test ((p ++ e) ++ c)
names_joined test p e c = sym (lookup-append test (p ++ e) c ∙ ap (λ o. option_or o (lookup test c)) (lookup-append test p e))
