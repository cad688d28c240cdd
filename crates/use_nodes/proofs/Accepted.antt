-- The productions of the language give each rule the parts that it requires: a test of the whole table, computed.
use Rattle.std.proofs.Common.{◌≡◌, ◌<◌, ℕ, zero, suc, ◌||◌, if◌then◌else◌, Bool, true, false, nat_lt, List, [], ◌∷◌, filter, length, Option, Some, None, is_some, slice_get, refl, subst, arith}
use Rattle.std.proofs.lemmas.Bool.{ltb-true}
use Rattle.grammar_core.specs.declared.table.Table.{Table}
use Rattle.grammar_core.specs.Trees.{ParseTree, leaf, node, Row}
use Rattle.grammar_core.specs.Derives.{Outcome, Gives}
use Rattle.use_text.specs.declared.token.TokenKind.{TokenKind}
use Rattle.use_syntax.specs.declared.rule.Rule.{Rule}
use Rattle.use_syntax.specs.Language.{token_prods, call_prods, type_prods, expression_prods, statement_prods, command_prods, model_prods, all_prods, bodies, language}
use Rattle.use_syntax.specs.Numbers.{number_of_rule}
use Rattle.use_syntax.proofs.Ranked.{both, both_left, both_right}
use Rattle.use_nodes.specs.declared.parts.Select.{Select}
use Rattle.use_nodes.specs.declared.parts.Select.TheVariants as s
use Rattle.use_nodes.specs.Nodes.{is_token, next_to, selects}
use Rattle.use_nodes.proofs.Required.{Need, nth, after, some_of, is_met, are_met, needs, all_rules, rule_there}
use Rattle.use_nodes.proofs.Sure.{Sure, sure, nothing_sure, sure_at, sure_sound, HoldsOf, has_one, has_followed, is_filled, both_of}

-- the sort of tree that a need is for
abbrev pub sort_of : Need → ParseTree → Bool
sort_of (nth i) t = false
sort_of (after kind) t = is_token kind t
sort_of (some_of select) t = selects select t

pub selects_token : (select : Select) (k at : ℕ) → selects select (leaf k 0) ≡ selects select (leaf k at)
selects_token (s.Rule rule) k at = refl
selects_token s.Rules k at = refl
selects_token s.Steps k at = refl
selects_token (s.Token kind) k at = refl
selects_token s.Tokens k at = refl
selects_token (s.Except kind) k at = refl

pub selects_rule : (select : Select) (n : ℕ) (row : Row) → selects select (node n Row.none) ≡ selects select (node n row)
selects_rule (s.Rule rule) n row = refl
selects_rule s.Rules n row = refl
selects_rule s.Steps n row = refl
selects_rule (s.Token kind) n row = refl
selects_rule s.Tokens n row = refl
selects_rule (s.Except kind) n row = refl

pub sort_of_token : (need : Need) (k at : ℕ) → sort_of need (leaf k 0) ≡ sort_of need (leaf k at)
sort_of_token (nth i) k at = refl
sort_of_token (after kind) k at = refl
sort_of_token (some_of select) k at = selects_token select k at

pub sort_of_rule : (need : Need) (n : ℕ) (row : Row) → sort_of need (node n Row.none) ≡ sort_of need (node n row)
sort_of_rule (nth i) n row = refl
sort_of_rule (after kind) n row = refl
sort_of_rule (some_of select) n row = selects_rule select n row

-- what is sure meets the need
abbrev pub is_enough : Need → Sure → Bool
is_enough (nth i) (sure l h f) = nat_lt i l
is_enough (after kind) (sure l h f) = f
is_enough (some_of select) (sure l h f) = h

some_within : (ts : List ParseTree) (i : ℕ) → i < length ts → is_some (slice_get ts i) ≡ true
some_within [] i low = absurd (omega (arith, low))
some_within (t ∷ ts) zero low = refl
some_within (t ∷ ts) (suc i) low = some_within ts i (omega (arith, low))

some_next : (kind : TokenKind) (ts : List ParseTree) → has_followed (is_token kind) ts ≡ true → is_some (next_to kind ts) ≡ true
some_next kind [] e = absurd (cc)
some_next kind (t ∷ ts) e = here (is_token kind t) e (some_next kind ts)
  where
    first : (us : List ParseTree) → (is_filled us || has_followed (is_token kind) us) ≡ true → is_some (slice_get us 0) ≡ true
    first [] h = absurd (cc)
    first (u ∷ us) h = refl

    here : (b : Bool) → ((both b (is_filled ts)) || has_followed (is_token kind) ts) ≡ true
        → (has_followed (is_token kind) ts ≡ true → is_some (next_to kind ts) ≡ true) → is_some (if b then slice_get ts 0 else next_to kind ts) ≡ true
    here true h later = first ts h
    here false h later = later h

pub some_sought : (sort : ParseTree → Bool) (ts : List ParseTree) → has_one sort ts ≡ true → is_some (slice_get (filter sort ts) 0) ≡ true
some_sought sort [] e = absurd (cc)
some_sought sort (t ∷ ts) e = here (sort t) e (some_sought sort ts)
  where
    here : (b : Bool) → (b || has_one sort ts) ≡ true → (has_one sort ts ≡ true → is_some (slice_get (filter sort ts) 0) ≡ true)
        → is_some (slice_get (if b then t ∷ filter sort ts else filter sort ts) 0) ≡ true
    here true h later = refl
    here false h later = later h

pub enough_met : (need : Need) (given : Sure) (ts : List ParseTree) → HoldsOf (sort_of need) given ts → is_enough need given ≡ true → is_met need ts ≡ true
enough_met (nth i) (sure l h f) ts a e = let low : i < l = ltb-true i l e in let long = a.long in some_within ts i (omega (arith, low, long))
enough_met (after kind) (sure l h f) ts a e = some_next kind ts (a.followed e)
enough_met (some_of select) (sure l h f) ts a e = some_sought (selects select) ts (a.one e)

-- of the production of a rule
abbrev pub sure_rule : (ParseTree → Bool) → Table → Option ℕ → Sure
sure_rule sort g None = nothing_sure
sure_rule sort g (Some p) = sure_at sort g 6 p

abbrev accepts : Table → List Need → ℕ → Bool
accepts g [] n = true
accepts g (need ∷ more) n = both (is_enough need (sure_rule (sort_of need) g (slice_get g.rules n))) (accepts g more n)

abbrev accepts_all : Table → List Rule → Bool
accepts_all g [] = true
accepts_all g (rule ∷ rules) = both (accepts g (needs rule) (number_of_rule rule)) (accepts_all g rules)

all_accepted : accepts_all language all_rules ≡ true
unfolding token_prods call_prods type_prods expression_prods statement_prods command_prods model_prods all_prods bodies language
all_accepted = refl

accepted_at : (g : Table) (rules : List Rule) → accepts_all g rules ≡ true → (i : ℕ) (rule : Rule)
    → slice_get rules i ≡ Some rule → accepts g (needs rule) (number_of_rule rule) ≡ true
accepted_at g [] e i rule at = absurd (cc)
accepted_at g (x ∷ xs) e zero rule at = let same : x ≡ rule = cc in
    subst (λ (y : Rule). accepts g (needs y) (number_of_rule y) ≡ true) same (both_left (accepts g (needs x) (number_of_rule x)) (accepts_all g xs) e)
accepted_at g (x ∷ xs) e (suc i) rule at = accepted_at g xs (both_right (accepts g (needs x) (number_of_rule x)) (accepts_all g xs) e) i rule at

accepted_met : (g : Table) (ks : List ℕ) (more : List Need) (n p level at to : ℕ) (trees : List ParseTree)
    → slice_get g.rules n ≡ Some p → Gives g ks p level at (Outcome.ends to trees) → accepts g more n ≡ true → are_met more trees ≡ true
accepted_met g ks [] n p level at to trees is of e = refl
accepted_met g ks (need ∷ more) n p level at to trees is of e =
    let enough : is_enough need (sure_at (sort_of need) g 6 p) ≡ true =
    subst (λ (o : Option ℕ). is_enough need (sure_rule (sort_of need) g o) ≡ true) is
    (both_left (is_enough need (sure_rule (sort_of need) g (slice_get g.rules n))) (accepts g more n) e) in
    let holds = sure_sound (sort_of need) g (sort_of_token need) (sort_of_rule need) ks 6 p level at (Outcome.ends to trees) of in
    both_of (is_met need trees) (are_met more trees) (enough_met need (sure_at (sort_of need) g 6 p) trees holds enough)
    (accepted_met g ks more n p level at to trees is of
    (both_right (is_enough need (sure_rule (sort_of need) g (slice_get g.rules n))) (accepts g more n) e))

-- what the production of a rule gives has the parts that the rule requires
pub rule_met : (ks : List ℕ) (rule : Rule) (p level at to : ℕ) (trees : List ParseTree)
    → slice_get language.rules (number_of_rule rule) ≡ Some p → Gives language ks p level at (Outcome.ends to trees) → are_met (needs rule) trees ≡ true
rule_met ks rule p level at to trees is of =
    accepted_met language ks (needs rule) (number_of_rule rule) p level at to trees is of
    (accepted_at language all_rules all_accepted (number_of_rule rule) rule (rule_there rule))
