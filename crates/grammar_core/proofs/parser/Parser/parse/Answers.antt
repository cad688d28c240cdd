use Rattle.std.proofs.Common.{◌≡◌, length, List, Err, sym, ◌∙◌}
use Rattle.std.proofs.lemmas.List.{length-map}
use Rattle.use_text.specs.declared.token.Token.{Token}
use Rattle.grammar_core.specs.Arena.{read_trees}
use Rattle.grammar_core.specs.Derives.{kinds}
use Rattle.grammar_core.proofs.Yield.{err_within}
use Rattle.grammar_core.specs.declared.fault.ParseFault.TheVariants.{Stuck}
use Rattle.grammar_core.specs.Parses.{verdict}
use Rattle.grammar_core.proofs.Verdicts.{computed_holds, parsed_err, parsed_front, parsed_tree}
use Rattle.grammar_core.proofs.parser.Parser.parse.Goals as goal

as_long : (tokens : List Token) → length (kinds tokens) ≡ length tokens
as_long tokens = length-map tokens (λ t. t.kind)

pub returns-in-Ok : goal.returns-in-Ok
returns-in-Ok c =
    let m = c.in-Ok.ensures in
    let p = parsed_tree c.args.g.now (kinds c.args.tokens.now) c.table.ensures.fit c.args.start c.requires.rule c.in-Ok.to
    (read_trees c.run.new.work.built) c.take_tree.result m (c.if-to-tokens.true ∙ sym (as_long c.args.tokens.now)) c.take_tree.ensures in
    record {
      ok = p.ok;
      err = p.err;
      within = err_within c.args.g.now (kinds c.args.tokens.now) c.args.start (length c.args.tokens.now) c.take_tree.result (sym
          (as_long c.args.tokens.now)) p.err;
      verdict = p.only (verdict c.args.g.now (kinds c.args.tokens.now) c.args.start) (computed_holds c.args.g.now
          (kinds c.args.tokens.now) c.table.ensures.fit c.args.start c.requires.rule);
      only = p.only;
    }

pub returns-in-Ok-2 : goal.returns-in-Ok-2
returns-in-Ok-2 c =
    let m = c.in-Ok.ensures in
    let p = parsed_front c.args.g.now (kinds c.args.tokens.now) c.table.ensures.fit c.args.start c.requires.rule c.in-Ok.to (read_trees c.run.new.work.built) m
    (λ e. c.if-to-tokens.false (e ∙ as_long c.args.tokens.now)) in
    record {
      ok = p.ok;
      err = p.err;
      within = err_within c.args.g.now (kinds c.args.tokens.now) c.args.start (length c.args.tokens.now) (Err (Stuck c.in-Ok.to))
          (sym (as_long c.args.tokens.now)) p.err;
      verdict = p.only (verdict c.args.g.now (kinds c.args.tokens.now) c.args.start) (computed_holds c.args.g.now
          (kinds c.args.tokens.now) c.table.ensures.fit c.args.start c.requires.rule);
      only = p.only;
    }

pub returns-in-Err : goal.returns-in-Err
returns-in-Err c =
    let m = c.in-Err.ensures in
    let p = parsed_err c.args.g.now (kinds c.args.tokens.now) c.table.ensures.fit c.args.start c.requires.rule c.in-Err.e (read_trees c.run.new.work.built) m in
    record {
      ok = p.ok;
      err = p.err;
      within = err_within c.args.g.now (kinds c.args.tokens.now) c.args.start (length c.args.tokens.now) (Err c.in-Err.e) (sym
          (as_long c.args.tokens.now)) p.err;
      verdict = p.only (verdict c.args.g.now (kinds c.args.tokens.now) c.args.start) (computed_holds c.args.g.now
          (kinds c.args.tokens.now) c.table.ensures.fit c.args.start c.requires.rule);
      only = p.only;
    }
