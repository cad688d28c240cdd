use Rattle.std.proofs.Common.{◌≡◌, ◌∙◌, ◌&&◌, List, ℕ, Some, None, cond, sym, ap}
use Rattle.std.specs.HashMap.{get_by_text}
use Rattle.std.proofs.lemmas.Result.{on_ok_weaker}
use Rattle.class_decls.specs.Texts.{same_text}
use Rattle.class_model.specs.Indexes.{one_more}
use Rattle.class_model.proofs.OnlyLiterals.{once_more, more_none}
use Rattle.class_model.proofs.literals.add_literal_if.Goals as goal

pub returns : goal.returns
returns c =
    on_ok_weaker c.put.result
    (λ (put : (t : List ℕ) → get_by_text c.put.new.map t ≡ cond (same_text c.args.name.now t) (Some c.first_only-value.result)
    (get_by_text c.args.map.now t)). λ t.
    once_more c.args.map.now c.args.name.now c.args.literal c.put.new.map
    (λ q. put q ∙ ap (λ v. cond (same_text c.args.name.now q) (Some v) (get_by_text c.args.map.now q)) c.first_only-value.ensures) t
    ∙ ap (λ b. one_more (get_by_text c.args.map.now t) (cond (b && same_text c.args.name.now t) (Some c.args.literal) None)) (sym c.if-not-holds.false))
    c.put.ensures

pub returns-then-not-holds : goal.returns-then-not-holds
returns-then-not-holds c = λ t.
    sym (more_none (get_by_text c.args.map.now t))
    ∙ ap (λ b. one_more (get_by_text c.args.map.now t) (cond (b && same_text c.args.name.now t) (Some c.args.literal) None)) (sym c.if-not-holds.true)
