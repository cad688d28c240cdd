-- Operations and contracts, found by name.
use denote.Ref.{Bor}
use Rattle.std.proofs.Common.{◌≡◌, ℕ, zero, suc, ◌+◌, ◌<◌, Bool, true, false, ◌&&◌, ◌||◌, cond, List, [], ◌∷◌, ◌++◌, length, get_or, map, take, slice_get, count_by, Some, None, refl, sym, ap, ap₂, ◌∙◌, arith}
use Rattle.std.specs.BTreeMap.{BTreeMap}
use Rattle.std.specs.List.{flat_map, list_any}
use Rattle.std.specs.Option.{option_and_then, option_map_or}
use Rattle.std.proofs.lemmas.List.Elements.{filter-append}
use Rattle.std.proofs.lemmas.List.Folds.{flat_map-map, list_any-append}
use Rattle.std.proofs.lemmas.List.Sums.{sum_by-cons}
use Rattle.class_decls.specs.Texts.{has_text, same_text}
use Rattle.class_decls.specs.declared.decls.ClassDecl.{ClassDecl}
use Rattle.class_decls.specs.declared.decls.CondDecl.{CondDecl}
use Rattle.class_decls.specs.declared.decls.Decls.{Decls}
use Rattle.class_decls.specs.declared.decls.OpDecl.{OpDecl}
use Rattle.class_decls.proofs.Numbered.{take-more}
use Rattle.class_decls.proofs.TextSets.{any-map, count_alike}
use Rattle.class_rules.specs.ClassOps.{AreOpsOf, IsOpsOf}
use Rattle.class_rules.specs.Groups.{listed}
use Rattle.class_rules.specs.Numbering.{class_at}
use Rattle.class_rules.specs.Operations.{clash, clashes_above, contract_classes, contract_count, declares_head, is_contract_of, ops_named, same_signature}
use Rattle.class_rules.specs.declared.clash.Clash.{Clash}

-- one operation more
pub named_next : (t : List ℕ) (ops : List OpDecl) (i : ℕ) (op : OpDecl) → i < length ops → op ≡ get_or ops i op →
    ops_named t (take (i + 1) ops) ≡ ops_named t (take i ops) ++ cond (same_text op.name.text t) (op ∷ []) []
named_next t ops i op h e = ap (ops_named t) (take-more ops i op h e) ∙ filter-append (λ o. same_text o.name.text t) (take i ops) (op ∷ [])

any_kept : (b : Bool) (f : OpDecl → Bool) (op : OpDecl) (rest : List OpDecl) (r : Bool) → list_any f rest ≡ r → list_any f (cond b (op ∷ rest) rest) ≡ ((b && f op) || r)
any_kept true f op rest r e = ap (λ b. f op || b) e
any_kept false f op rest r e = e

any_named : (f : OpDecl → Bool) (t : List ℕ) (ops : List OpDecl) → list_any f (ops_named t ops) ≡ list_any (λ op. same_text op.name.text t && f op) ops
any_named f t [] = refl
any_named f t (op ∷ ops) =
    any_kept (same_text op.name.text t) f op (ops_named t ops) (list_any (λ o. same_text o.name.text t && f o) ops) (any_named f t ops)

any_above : (f : OpDecl → Bool) (t : List ℕ) (classes : List ClassDecl) →
    list_any f (flat_map (λ c. ops_named t c.ops) classes) ≡ list_any (λ c. list_any (λ op. same_text op.name.text t && f op) c.ops) classes
any_above f t [] = refl
any_above f t (c ∷ cs) =
    list_any-append f (ops_named t c.ops) (flat_map (λ d. ops_named t d.ops) cs) ∙ ap₂ (λ a b. a || b) (any_named f t c.ops) (any_above f t cs)

-- an operation clashes with one of those of its name exactly if it clashes with one of all
pub clashes_named : (kind : Clash) (classes : List (Bor ClassDecl)) (groups : BTreeMap (List ℕ) (List (Bor OpDecl))) →
    ((t : List ℕ) → map (λ op. op.now) (listed groups t) ≡ flat_map (λ c. ops_named t c.now.ops) classes) → (op : OpDecl) →
    list_any (λ other. clash kind op other.now) (listed groups op.name.text) ≡ clashes_above kind (map (λ c. c.now) classes) op
clashes_named kind classes groups h op =
    sym (any-map (clash kind op) (λ o. o.now) (listed groups op.name.text))
    ∙ ap (list_any (clash kind op)) (h op.name.text ∙ sym (flat_map-map (λ c. ops_named op.name.text c.ops) (λ c. c.now) classes))
    ∙ any_above (clash kind op) op.name.text (map (λ c. c.now) classes)

-- the operations of one class more
pub ops_more : (all : List (BTreeMap (List ℕ) (List (Bor OpDecl)))) (cs : List ClassDecl) (groups : BTreeMap (List ℕ) (List (Bor OpDecl))) (c : ClassDecl) →
    AreOpsOf all cs → IsOpsOf groups c → AreOpsOf (all ++ groups ∷ []) (cs ++ c ∷ [])
ops_more [] [] groups c h e = (e, tt)
ops_more [] (d ∷ cs) groups c h e = absurd h
ops_more (g ∷ all) [] groups c h e = absurd h
ops_more (g ∷ all) (d ∷ cs) groups c h e = (h.0, ops_more all cs groups c h.1 e)

-- a class declares a head exactly if one of its operations of that name has its types
pub head_named : (all : List (BTreeMap (List ℕ) (List (Bor OpDecl)))) (cs : List ClassDecl) → AreOpsOf all cs → (head : OpDecl) (i : ℕ) →
    option_map_or (λ groups. list_any (λ op. same_signature op.now head) (listed groups head.name.text)) (slice_get all i) false
    ≡ option_map_or (λ c. list_any (λ op. same_text op.name.text head.name.text && same_signature op head) c.ops) (slice_get cs i) false
head_named [] [] h head i = refl
head_named [] (c ∷ cs) h head i = absurd h
head_named (g ∷ all) [] h head i = absurd h
head_named (g ∷ all) (c ∷ cs) h head zero =
    sym (any-map (λ op. same_signature op head) (λ op. op.now) (listed g head.name.text))
    ∙ ap (list_any (λ op. same_signature op head)) (h.0 head.name.text) ∙ any_named (λ op. same_signature op head) head.name.text c.ops
head_named (g ∷ all) (c ∷ cs) h head (suc i) = head_named all cs h.1 head i

module _ (ds : Decls) (all : List (BTreeMap (List ℕ) (List (Bor OpDecl)))) (h : AreOpsOf all ds.classes) (class : List ℕ) (head : OpDecl) (place : ℕ)
    (at : class_at ds class ≡ Some place) where
  abbrev declares : ClassDecl → Bool
  declares c = list_any (λ op. same_text op.name.text head.name.text && same_signature op head) c.ops

  abbrev has_types : BTreeMap (List ℕ) (List (Bor OpDecl)) → Bool
  has_types groups = list_any (λ op. same_signature op.now head) (listed groups head.name.text)

  -- of a class that stands at a place
  by_place : option_map_or has_types (slice_get all place) false ≡ declares_head ds class head
  by_place = head_named all ds.classes h head place ∙ sym (ap (λ o. option_map_or declares (option_and_then (slice_get ds.classes) o) false) at)

  pub head_found : (groups : BTreeMap (List ℕ) (List (Bor OpDecl))) → slice_get all place ≡ Some groups → has_types groups ≡ declares_head ds class head
  head_found groups e = sym (ap (λ o. option_map_or has_types o false) e) ∙ by_place

  pub head_missing : slice_get all place ≡ None → false ≡ declares_head ds class head
  head_missing e = sym (ap (λ o. option_map_or has_types o false) e) ∙ by_place

count_kept : (p : List ℕ → Bool) (b : Bool) (t : List ℕ) (rest : List (List ℕ)) (n : ℕ) → count_by p rest ≡ n →
    count_by p (cond b (t ∷ []) [] ++ rest) ≡ cond (b && p t) 1 0 + n
count_kept p true t rest n e = sum_by-cons (λ y. cond (p y) 1 0) t rest ∙ ap (λ m. cond (p t) 1 0 + m) e
count_kept p false t rest n e =
    let z : n ≡ 0 + n = omega arith in
    e ∙ z

count_contracts : (p : List ℕ → Bool) (ds : Decls) (t : List ℕ) (conds : List CondDecl) →
    count_by p (flat_map (λ c. cond (is_contract_of ds t c) (c.class.text ∷ []) []) conds) ≡ count_by (λ c. is_contract_of ds t c && p c.class.text) conds
count_contracts p ds t [] = refl
count_contracts p ds t (c ∷ cs) =
    count_kept p (is_contract_of ds t c) c.class.text (flat_map (λ d. cond (is_contract_of ds t d) (d.class.text ∷ []) []) cs) (count_by
    (λ d. is_contract_of ds t d && p d.class.text) cs) (count_contracts p ds t cs)
    ∙ sym (sum_by-cons (λ d. cond (is_contract_of ds t d && p d.class.text) 1 0) c cs)

-- the contracts of an operation are those in the contexts of the classes of its declarations
pub contracts_named : (ds : Decls) (classes : List (Bor ClassDecl)) (names : List (List ℕ)) →
    ((t : List ℕ) → has_text names t ≡ has_text (map (λ c. c.now.name.text) classes) t) → (op : OpDecl) →
    count_by (has_text names) (contract_classes ds op.name.text) ≡ contract_count ds (map (λ c. c.now) classes) op
contracts_named ds classes names h op =
    count_contracts (has_text names) ds op.name.text ds.conds
    ∙ count_alike (λ c. is_contract_of ds op.name.text c && has_text names c.class.text)
    (λ c. is_contract_of ds op.name.text c && list_any (λ d. same_text d.name.text c.class.text) (map (λ d. d.now) classes))
    (λ c. ap (λ b. is_contract_of ds op.name.text c && b)
    (h c.class.text ∙ any-map (λ y. same_text y c.class.text) (λ d. d.now.name.text) classes
    ∙ sym (any-map (λ d. same_text d.name.text c.class.text) (λ d. d.now) classes))) ds.conds
