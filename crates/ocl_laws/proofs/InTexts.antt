-- Expressions of a text that was read are refused at its tokens.
use Rattle.std.proofs.Common.{◌≡◌, ℕ, Bool, List}
use Rattle.grammar_core.specs.Trees.{ParseTree, node, onto, Row}
use Rattle.use_syntax.specs.Reading.{Reading}
use Rattle.use_nodes.specs.Nodes.{EachNode}
use Rattle.use_decls.specs.Names.{LexedText}
use Rattle.class_model.specs.declared.object_model.ObjectModel.{ObjectModel}
use Rattle.ocl_scope.specs.declared.environment.Environment.{Environment}
use Rattle.ocl_syntax.specs.Expressions.{written}
use Rattle.ocl_syntax.specs.InTexts.{HasTokenPlaces, IsPlaceInText, ReadHasTokenPlaces}
use Rattle.ocl_laws.specs.Refused.{IsRefusedInText, ReadIsRefusedInText}
use Rattle.ocl_laws.proofs.PlacesStand.{refused_among}

each_weaker : (P Q : ParseTree → Type 0) → ((t : ParseTree) → P t → Q t) → (row : Row) → EachNode P row → EachNode Q row
each_weaker P Q f Row.none h = tt
each_weaker P Q f (Row.token k at row) h = each_weaker P Q f row h
each_weaker P Q f (Row.rule r below row) h = (f (node r below) h.0, each_weaker P Q f below h.1, each_weaker P Q f row h.2)

module _ (m : ObjectModel) (is_post : Bool) (env : Environment) where
  refused_at : (l : LexedText) (t : ParseTree) → HasTokenPlaces l t → IsRefusedInText m is_post env l t
  refused_at l t h is = refused_among (λ p. IsPlaceInText l.tokens p) m is_post env (written l t) (h is)

  pub refused_in_text : (text : List ℕ) (given : Reading) → ReadHasTokenPlaces text given → ReadIsRefusedInText m is_post env text given
  refused_in_text text given h ts tree e =
      let l : LexedText = record { text = text; tokens = ts } in
      each_weaker (HasTokenPlaces l) (IsRefusedInText m is_post env l) (refused_at l) (onto tree Row.none) (h ts tree e)
