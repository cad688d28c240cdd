use Rattle.std.proofs.Common.{sym, ◌∙◌}
use Rattle.std.proofs.lemmas.Result.{on_ok_weaker}
use Rattle.class_model.proofs.Named.{added, kept}
use Rattle.class_model.proofs.by_name.add_first.Goals as goal

pub returns : goal.returns
returns g c = on_ok_weaker c.put.result (added c.args.map.now c.args.name.now c.args.value c.put.new.map
    (sym c.contains_key.ensures ∙ c.if-contains_key.false)) c.put.ensures

pub returns-then-contains_key : goal.returns-then-contains_key
returns-then-contains_key g c = kept c.args.map.now c.args.name.now c.args.value (sym c.contains_key.ensures ∙ c.if-contains_key.true)
