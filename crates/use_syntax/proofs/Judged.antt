-- What the parser tells of a verdict, as a reading.
use Rattle.std.proofs.Common.{◌≡◌, ℕ, List, Result, Ok, Err, sym, ap, subst}
use Rattle.use_text.specs.declared.code.Family.TheVariants.{S}
use Rattle.use_text.specs.declared.token.Token.{Token}
use Rattle.use_text.specs.Codes.{code_of}
use Rattle.use_text.specs.Refusals.{refusal_at}
use Rattle.grammar_core.specs.declared.node.Node.{Node}
use Rattle.grammar_core.specs.declared.table.Table.{Table}
use Rattle.grammar_core.specs.declared.fault.ParseFault.{ParseFault}
use Rattle.grammar_core.specs.declared.fault.ParseFault.TheVariants.{Stuck, Deep}
use Rattle.grammar_core.specs.Arena.{root_tree}
use Rattle.grammar_core.specs.Derives.{Verdict, derived, stuck, deep, kinds}
use Rattle.grammar_core.specs.Parses.{Tells, verdict}
use Rattle.grammar_core.specs.Trees.{ParseTree}
use Rattle.use_syntax.specs.Reading.{parsed, refused, judged, place_in, read_tokens}
use Rattle.use_syntax.specs.Language.{language}

told_tree : (ts : List Token) (nodes : List Node) (v : Verdict) → Tells (Ok nodes) v → judged ts v ≡ parsed ts (root_tree nodes)
told_tree ts nodes (derived tree) h = ap (λ (t : ParseTree). parsed ts t) (sym h)
told_tree ts nodes (stuck at) h = absurd h
told_tree ts nodes (deep at) h = absurd h

told_stuck : (ts : List Token) (x : ℕ) (v : Verdict) → Tells (Err (Stuck x)) v → judged ts v ≡ refused (refusal_at (code_of S 1) (place_in ts x))
told_stuck ts x (derived tree) h = absurd h
told_stuck ts x (stuck at) h = ap (λ (n : ℕ). refused (refusal_at (code_of S 1) (place_in ts n))) (sym h)
told_stuck ts x (deep at) h = absurd h

told_deep : (ts : List Token) (x : ℕ) (v : Verdict) → Tells (Err (Deep x)) v → judged ts v ≡ refused (refusal_at (code_of S 2) (place_in ts x))
told_deep ts x (derived tree) h = absurd h
told_deep ts x (stuck at) h = absurd h
told_deep ts x (deep at) h = ap (λ (n : ℕ). refused (refusal_at (code_of S 2) (place_in ts n))) (sym h)

-- what the parser told of the language's table, by names that are equal to these
module _ (g : Table) (ts same : List Token) (start n : ℕ) (is : g ≡ language) (alike : same ≡ ts) (of : n ≡ start) where
  of_language : (r : Result (List Node) ParseFault) → Tells r (verdict g (kinds same) n) → Tells r (verdict language (kinds ts) start)
  of_language r h = subst (λ (t : Table). Tells r (verdict t (kinds ts) start)) is (subst (λ (l : List Token). Tells r (verdict g (kinds l) start)) alike (subst
      (λ (k : ℕ). Tells r (verdict g (kinds same) k)) of h))

  pub read_tree : (nodes : List Node) → Tells (Ok nodes) (verdict g (kinds same) n) → read_tokens start ts ≡ parsed ts (root_tree nodes)
  unfolding read_tokens
  read_tree nodes h = told_tree ts nodes (verdict language (kinds ts) start) (of_language (Ok nodes) h)

  pub read_stuck : (x : ℕ) → Tells (Err (Stuck x)) (verdict g (kinds same) n) → read_tokens start ts ≡ refused (refusal_at (code_of S 1) (place_in ts x))
  unfolding read_tokens
  read_stuck x h = told_stuck ts x (verdict language (kinds ts) start) (of_language (Err (Stuck x)) h)

  pub read_deep : (x : ℕ) → Tells (Err (Deep x)) (verdict g (kinds same) n) → read_tokens start ts ≡ refused (refusal_at (code_of S 2) (place_in ts x))
  unfolding read_tokens
  read_deep x h = told_deep ts x (verdict language (kinds ts) start) (of_language (Err (Deep x)) h)
