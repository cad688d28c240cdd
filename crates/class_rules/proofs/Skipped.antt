-- Rules that no class breaks.
use Rattle.std.proofs.Common.{◌≡◌, ℕ, ◌+◌, true, false, nat_lt, List, [], ◌∷◌, length, map, Option, Some, None, refl, ap, ◌∙◌}
use Rattle.std.specs.List.{list_all}
use Rattle.std.specs.Option.{option_map_or, option_or}
use Rattle.use_orders.specs.Canon.{all_differ}
use Rattle.class_decls.specs.Texts.{first_numbered}
use Rattle.class_decls.specs.declared.decls.AssocDecl.{AssocDecl}
use Rattle.class_decls.specs.declared.decls.ClassDecl.{ClassDecl}
use Rattle.class_decls.specs.declared.decls.Decls.{Decls}
use Rattle.class_decls.proofs.TextSets.{text_cmp}
use Rattle.class_rules.specs.declared.by_class.ClassRule.TheVariants as r
use Rattle.class_rules.specs.Ancestors.{above, ancestors, number_at, parent_numbers}
use Rattle.class_rules.specs.ClassRules.{broken_by, first_broken, named_if}
use Rattle.class_rules.specs.Features.{attrs_of, has_role_clash, roles_of}
use Rattle.class_rules.specs.Operations.{is_ambiguous}
use Rattle.class_rules.proofs.Different.{differ_above, no_repeat}
use Rattle.class_rules.proofs.Single.{not_ambiguous}

pub nothing_given : {A B : Type 0} (f : ℕ → A → Option B) → ((i : ℕ) (x : A) → f i x ≡ None) → (n : ℕ) (xs : List A) → first_numbered f n xs ≡ None
nothing_given f h n [] = refl
nothing_given f h n (x ∷ xs) = ap (λ o. option_or o (first_numbered f (n + 1) xs)) (h n x) ∙ nothing_given f h (n + 1) xs

no_roles : (classes : List ClassDecl) → roles_of [] classes ≡ []
no_roles [] = refl
no_roles (c ∷ cs) = no_roles cs

pub no_role_clash : (assocs : List AssocDecl) → assocs ≡ [] → (classes : List ClassDecl) → has_role_clash assocs classes ≡ false
no_role_clash assocs e classes =
    ap (λ l. has_role_clash l classes) e ∙ rw (no_roles classes) refl

pub no_clash : (ds : Decls) → ds.assocs ≡ [] → first_broken r.RoleClashes ds ≡ None
no_clash ds e =
    nothing_given (broken_by r.RoleClashes ds) (λ i c. ap (λ b. named_if b c) (no_role_clash ds.assocs e (above ds i))) 0 ds.classes

pub no_attribute_twice : (ds : Decls) → all_differ text_cmp (attrs_of ds.classes) ≡ true → first_broken r.AttributeMetTwice ds ≡ None
no_attribute_twice ds h =
    nothing_given (broken_by r.AttributeMetTwice ds)
    (λ i c. ap (λ b. named_if b c) (no_repeat (attrs_of (above ds i)) (differ_above (λ d. map (λ a. a.name.text) d.attrs) ds h i))) 0 ds.classes

not_at : (ds : Decls) → list_all (λ row. nat_lt (length row) 2) (parent_numbers ds) ≡ true → (o : Option ℕ)
    → is_ambiguous ds (option_map_or (ancestors (parent_numbers ds)) o []) ≡ false
not_at ds h None = refl
not_at ds h (Some c) = not_ambiguous ds h c

pub none_ambiguous_at_all : (ds : Decls) → list_all (λ row. nat_lt (length row) 2) (parent_numbers ds) ≡ true → first_broken r.OperationAmbiguous ds ≡ None
none_ambiguous_at_all ds h =
    nothing_given (broken_by r.OperationAmbiguous ds) (λ i c. ap (λ b. named_if b c) (not_at ds h (number_at ds i))) 0 ds.classes
