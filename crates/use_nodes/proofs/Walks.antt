-- What holds of each node that a rule's production gives holds of each node of a tree, and of a tree that a text is read as.
use Rattle.std.proofs.Common.{◌≡◌, ◌<◌, ℕ, List, [], ◌∷◌, ◌++◌, length, Some, Ok, Err, slice_get, ap, subst, arith}
use Rattle.use_text.specs.declared.token.Token.{Token}
use Rattle.use_text.specs.Tokens.{Tokens, tokens}
use Rattle.grammar_core.specs.declared.table.Prod.{Prod}
use Rattle.grammar_core.specs.declared.table.Prod.TheVariants.{Call}
use Rattle.grammar_core.specs.Trees.{ParseTree, leaf, node, onto, Row, row_of}
use Rattle.grammar_core.specs.Derives.{Outcome, Verdict, derived, stuck, deep, kinds, Holds, before, below_rule, Stops, Derives, Gives, GivesProd, GivesAll, GivesTimes}
use Rattle.grammar_core.specs.Parses.{verdict}
use Rattle.grammar_core.proofs.Fits.{rule_at-to}
use Rattle.grammar_core.proofs.Verdicts.{computed_holds}
use Rattle.use_syntax.specs.declared.rule.Rule.{Rule}
use Rattle.use_syntax.specs.declared.rule.Rule.TheVariants as r
use Rattle.use_syntax.specs.Language.{language}
use Rattle.use_syntax.specs.Numbers.{number_of_rule}
use Rattle.use_syntax.specs.Reading.{Reading, parsed, judged, read_tokens, read_lexed, read_model, read_command}
use Rattle.use_syntax.proofs.Fitness.{is_fit, rules_there}
use Rattle.use_nodes.specs.Nodes.{EachNode}

-- the tree of what was read is such
abbrev pub ReadHas : (ParseTree → Type 0) → Reading → Type 0
ReadHas P given = (ts : List Token) (tree : ParseTree) → given ≡ parsed ts tree → EachNode P (onto tree Row.none)

module _ (P : ParseTree → Type 0) (of_node : (ks : List ℕ) (n p level at to : ℕ) (trees : List ParseTree)
    → slice_get language.rules n ≡ Some p → Gives language ks p level at (Outcome.ends to trees) → P (node n (row_of trees))) where
  each_append : (ts us : List ParseTree) → EachNode P (row_of ts) → EachNode P (row_of us) → EachNode P (row_of (ts ++ us))
  each_append [] us h k = k
  each_append (leaf n at ∷ ts) us h k = each_append ts us h k
  each_append (node n row ∷ ts) us h k = (h.0, h.1, each_append ts us h.2 k)

  -- the trees of an outcome are such
  abbrev AreSuch : Outcome → Type 0
  AreSuch (Outcome.ends to trees) = EachNode P (row_of trees)
  AreSuch (Outcome.stuck at) = Unit {0}
  AreSuch (Outcome.deep at) = Unit {0}

  each_before : (trees : List ParseTree) (a : Outcome) → EachNode P (row_of trees) → AreSuch a → AreSuch (before trees a)
  each_before trees (Outcome.ends to more) h k = each_append trees more h k
  each_before trees (Outcome.stuck at) h k = tt
  each_before trees (Outcome.deep at) h k = tt

  each_stop : (a : Outcome) → Stops a → AreSuch a
  each_stop (Outcome.ends to trees) s = absurd s
  each_stop (Outcome.stuck at) s = tt
  each_stop (Outcome.deep at) s = tt

  module _ (ks : List ℕ) where
    each_below : (n p level at : ℕ) (a : Outcome) → slice_get language.rules n ≡ Some p → Gives language ks p level at a → AreSuch a → AreSuch (below_rule n a)
    each_below n p level at (Outcome.ends to trees) e of h = (of_node ks n p level at to trees e of, h, tt)
    each_below n p level at (Outcome.stuck x) e of h = tt
    each_below n p level at (Outcome.deep x) e of h = tt

    mutual
      each : (p level at : ℕ) (a : Outcome) → Gives language ks p level at a → AreSuch a
      each _ _ _ _ (Gives.production p level at x a e of) = each_prod x level at a of

      each_prod : (x : Prod) (level at : ℕ) (a : Outcome) → GivesProd language ks x level at a → AreSuch a
      each_prod _ _ _ _ (GivesProd.token k level at e) = tt
      each_prod _ _ _ _ (GivesProd.no_token k level at e) = tt
      each_prod _ _ _ _ (GivesProd.rule n rule level inner at a e f of) =
          each_below n rule.to inner at a (rule_at-to language n rule e) of (each rule.to inner at a of)
      each_prod _ _ _ _ (GivesProd.too_deep n rule level at e f) = tt
      each_prod _ _ _ _ (GivesProd.parts ps level at a all) = each_all ps level at a all
      each_prod _ _ _ _ (GivesProd.branch bs other q level at a e of) = each q level at a of
      each_prod _ _ _ _ (GivesProd.no_branch bs other level at e) = tt
      each_prod _ _ _ _ (GivesProd.times firsts q level at a all) = each_times firsts q level at a all

      each_all : (ps : List ℕ) (level at : ℕ) (a : Outcome) → GivesAll language ks ps level at a → AreSuch a
      each_all _ _ _ _ (GivesAll.all_done level at) = tt
      each_all _ _ _ _ (GivesAll.then p ps level at to trees a of all) =
          each_before trees a (each p level at (Outcome.ends to trees) of) (each_all ps level to a all)
      each_all _ _ _ _ (GivesAll.stop p ps level at a of s) = each_stop a s

      each_times : (firsts : List ℕ) (q level at : ℕ) (a : Outcome) → GivesTimes language ks firsts q level at a → AreSuch a
      each_times _ _ _ _ _ (GivesTimes.no_more firsts q level at e) = tt
      each_times _ _ _ _ _ (GivesTimes.once_more firsts q level at to trees a e of all) =
          each_before trees a (each q level at (Outcome.ends to trees) of) (each_times firsts q level to a all)
      each_times _ _ _ _ _ (GivesTimes.stop_in firsts q level at a e of s) = each_stop a s

    pub derived_has : (start : Rule) (tree : ParseTree) → Derives language ks (number_of_rule start) tree → EachNode P (onto tree Row.none)
    derived_has start tree of = each_prod (Call (number_of_rule start)) 0 0 (Outcome.ends (length ks) (tree ∷ [])) of

  module _ (start : Rule) (there : number_of_rule start < length language.rules) where
    judged_has : (ts : List Token) (v : Verdict) → Holds language (kinds ts) (number_of_rule start) v → ReadHas P (judged ts v)
    judged_has ts (derived t) h us tree e = let same : t ≡ tree = cc in
        subst (λ (x : ParseTree). EachNode P (onto x Row.none)) same (derived_has (kinds ts) start t h)
    judged_has ts (stuck at) h us tree e = absurd (cc)
    judged_has ts (deep at) h us tree e = absurd (cc)

    read_has : (found : Tokens) → ReadHas P (read_lexed (number_of_rule start) found)
    unfolding read_tokens
    read_has (Ok ts) us tree e =
        judged_has ts (verdict language (kinds ts) (number_of_rule start)) (computed_holds language (kinds ts) is_fit (number_of_rule start) there) us tree e
    read_has (Err x) us tree e = absurd (cc)

  pub model_has : (text : List ℕ) → ReadHas P (read_model text)
  model_has text = read_has r.File (omega (arith, rules_there)) (tokens 1 text)

  pub command_has : (first_line : ℕ) (text : List ℕ) → ReadHas P (read_command first_line text)
  command_has first_line text = read_has r.Command (omega (arith, rules_there)) (tokens first_line text)

-- the tokens of what was read, and that its tree is derived from them
pub record IsDerived (start : Rule) (found : Tokens) (ts : List Token) (tree : ParseTree) : Type 0 where
  pub tokens : found ≡ Ok ts
  pub derived : Derives language (kinds ts) (number_of_rule start) tree

module _ (start : Rule) (there : number_of_rule start < length language.rules) where
  judged_derived : (us : List Token) (v : Verdict) → Holds language (kinds us) (number_of_rule start) v → (ts : List Token) (tree : ParseTree)
      → judged us v ≡ parsed ts tree → IsDerived start (Ok us) ts tree
  judged_derived us (derived t) h ts tree e =
      let same : us ≡ ts = cc in
      let it : t ≡ tree = cc in
      record {
        tokens = ap Ok same;
        derived = subst (λ (l : List Token). Derives language (kinds l) (number_of_rule start) tree) same
            (subst (λ (x : ParseTree). Derives language (kinds us) (number_of_rule start) x) it h);
      }
  judged_derived us (stuck at) h ts tree e = absurd (cc)
  judged_derived us (deep at) h ts tree e = absurd (cc)

  read_derived : (found : Tokens) (ts : List Token) (tree : ParseTree) → read_lexed (number_of_rule start) found ≡ parsed ts tree → IsDerived start found ts tree
  unfolding read_tokens
  read_derived (Ok us) ts tree e =
      judged_derived us (verdict language (kinds us) (number_of_rule start)) (computed_holds language (kinds us) is_fit (number_of_rule start) there) ts tree e
  read_derived (Err x) ts tree e = absurd (cc)

pub model_derived : (text : List ℕ) (ts : List Token) (tree : ParseTree) → read_model text ≡ parsed ts tree → IsDerived r.File (tokens 1 text) ts tree
model_derived text = read_derived r.File (omega (arith, rules_there)) (tokens 1 text)

pub command_derived : (first_line : ℕ) (text : List ℕ) (ts : List Token) (tree : ParseTree) → read_command first_line text ≡ parsed ts tree
    → IsDerived r.Command (tokens first_line text) ts tree
command_derived first_line text = read_derived r.Command (omega (arith, rules_there)) (tokens first_line text)
