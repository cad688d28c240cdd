-- Where contexts name no heads, none is sought.
use Rattle.std.proofs.Common.{◌≡◌, List, [], ◌∷◌, Some, None, if◌then◌else◌, refl, ap, ap₂, ◌∙◌}
use Rattle.std.specs.Option.{option_and_then, option_or}
use Rattle.class_decls.specs.Names.{head_in}
use Rattle.class_decls.specs.Texts.{first_given}
use Rattle.class_decls.specs.declared.decls.CondDecl.{CondDecl}
use Rattle.class_decls.specs.declared.decls.CondKind.{CondKind}
use Rattle.class_decls.specs.declared.decls.CondKind.TheVariants.{Inv, Pre, Post}
use Rattle.class_decls.specs.declared.decls.OpOf.TheVariants.{Here, Named}
use Rattle.class_decls.specs.declared.decls.Decls.{Decls}
use Rattle.class_rules.specs.Operations.{declares_head, undeclared_head}

none_in : (kind : CondKind) → head_in [] kind ≡ None
none_in Inv = refl
none_in (Pre (Here name)) = refl
none_in (Pre (Named at)) = refl
none_in (Post (Here name)) = refl
none_in (Post (Named at)) = refl

pub none_sought : (ds : Decls) (conds : List CondDecl) → ds.context_heads ≡ [] → first_given (undeclared_head ds) conds ≡ None
none_sought ds [] e = refl
none_sought ds (c ∷ cs) e =
    ap₂ option_or
    (ap (option_and_then (λ head. if declares_head ds c.class.text head then None else Some head.name.place)) (ap (λ hs. head_in hs c.kind) e ∙ none_in c.kind))
    (none_sought ds cs e)
