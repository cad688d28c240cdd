use Rattle.std.proofs.Common.{drop}
use Rattle.use_session.proofs.Noted.{OnSoFar}
use Rattle.use_session.proofs.noting.note_all.Given as goal

abbrev pub invariant-changes : goal.invariant-changes
invariant-changes l = OnSoFar l.model l.fn.structure l.changes l.structure (drop l.change-index l.changes)
