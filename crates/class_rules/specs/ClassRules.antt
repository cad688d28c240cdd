-- The rules that are judged class by class.
use Rattle.std.specs.Prelude.{ℕ, Bool, ◌||◌, if◌then◌else◌, nat_lt, length, Option, Some, None, find}
use Rattle.std.specs.Option.{option_map}
use Rattle.use_text.specs.declared.place.Place.{Place}
use Rattle.class_decls.specs.declared.decls.ClassDecl.{ClassDecl}
use Rattle.class_decls.specs.declared.decls.Decls.{Decls}
use Rattle.class_decls.specs.declared.decls.OpDecl.{OpDecl}
use Rattle.class_decls.specs.Texts.{first_numbered, repeats}
use Rattle.class_rules.specs.declared.by_class.ClassRule.{ClassRule}
use Rattle.class_rules.specs.declared.by_class.ClassRule.TheVariants as r
use Rattle.class_rules.specs.declared.clash.Clash.TheVariants as k
use Rattle.class_rules.specs.Ancestors.{above, ancestor_numbers, properly_above}
use Rattle.class_rules.specs.Features.{attrs_of, has_role_clash, ops_of}
use Rattle.class_rules.specs.Operations.{clashes_above, contract_count, is_ambiguous}

-- the place of the name of a class that passes
abbrev pub named_if : Bool → ClassDecl → Option Place
named_if b c = if b then Some c.name.place else None

-- the place of the first operation of a class that passes a test
abbrev pub first_op : (OpDecl → Bool) → ClassDecl → Option Place
first_op test c = option_map (λ op. op.name.place) (find test c.ops)

-- where a class that stands at a place breaks a rule
abbrev pub broken_by : ClassRule → Decls → ℕ → ClassDecl → Option Place
-- M5: it has two attributes of one name
broken_by r.AttributeMetTwice ds i c = named_if (repeats (attrs_of (above ds i))) c
-- M6: it has a role that is named as another role or an attribute
broken_by r.RoleClashes ds i c = named_if (has_role_clash ds.assocs (above ds i)) c
-- M8: an operation has another signature than one that it overrides
broken_by r.SignatureChanges ds i c = first_op (clashes_above k.Signature (properly_above ds i)) c
-- M9: it has an operation no declaration of which overrides all others
broken_by r.OperationAmbiguous ds i c = named_if (is_ambiguous ds (ancestor_numbers ds i)) c
-- M10: a query overrides statements, or the contrary
broken_by r.BodiesMixed ds i c = first_op (clashes_above k.Bodies (properly_above ds i)) c
-- M14: it has more than 64 attributes or operations
broken_by r.TooManyFeatures ds i c = named_if (nat_lt 64 (length (attrs_of (above ds i))) || nat_lt 64 (length (ops_of (above ds i)))) c
-- M17: an operation has more than 16 parameters or 64 contracts
broken_by r.TooManyContracts ds i c = first_op (λ op. nat_lt 16 (length op.params) || nat_lt 64 (contract_count ds (above ds i) op)) c

-- the first place at which a class breaks a rule
abbrev pub first_broken : ClassRule → Decls → Option Place
first_broken rule ds = first_numbered (broken_by rule ds) 0 ds.classes
