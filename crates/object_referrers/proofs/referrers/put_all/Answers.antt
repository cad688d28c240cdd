use Rattle.std.proofs.Common.{◌∷◌, [], ◌++◌, ap, sym, ◌∙◌, append_assoc}
use Rattle.object_referrers.proofs.Told.{told_more, told_next}
use Rattle.object_referrers.proofs.referrers.put_all.Goals as goal

pub keys-preserved : goal.keys-preserved
keys-preserved g c = record {
  whole = c.keys.invariant.whole ∙ ap (λ l. c.keys.yielded ++ l) c.in-Some.ensures.steps.0 ∙ sym (append_assoc c.keys.yielded (c.in-Some.key ∷ []) _);
  stay = λ q h. told_more g.met.K.Ord.total c.in-Some.key c.keys.index.keys c.insert.new.self.keys c.in_ok-insert.ensures.updates.0 q (c.keys.invariant.stay q h);
  put = told_next g.met.K.Ord.total c.in-Some.key c.keys.index.keys c.insert.new.self.keys c.in_ok-insert.ensures.updates.0 c.keys.yielded c.keys.invariant.put;
}
