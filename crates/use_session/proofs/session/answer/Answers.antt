use Rattle.std.proofs.Common.{sym, ◌∙◌}
use Rattle.use_session.specs.Kept.{machine_of}
use Rattle.use_session.proofs.Opened.{opens, reads}
use Rattle.use_session.proofs.SameProgram.{moves_on}
use Rattle.use_session.proofs.session.answer.Goals as goal

pub returns-then-is_open-clause-answer : goal.returns-then-is_open-clause-answer
returns-then-is_open-clause-answer g c =
    opens (machine_of c.args.machine.now) c.args.cut.now c.args.out.now.items c.args.steps.now c.open_file.result c.args.machine.now c.open_file.new.out.items
    c.args.steps.now (sym c.is_open.ensures ∙ c.if-is_open.true) c.open_file.ensures

pub returns-else-is_open-clause-answer : goal.returns-else-is_open-clause-answer
returns-else-is_open-clause-answer g c =
    reads (machine_of c.args.machine.now) c.args.cut.now c.args.out.now.items c.args.steps.now c.answer_kept.result c.answer_kept.new.machine
    c.answer_kept.new.out.items c.answer_kept.new.steps (sym c.is_open.ensures ∙ c.if-is_open.false) c.answer_kept.ensures.answer

pub returns-else-is_open-clause-commands : goal.returns-else-is_open-clause-commands
returns-else-is_open-clause-commands g c =
    moves_on c.args.machine.now c.answer_kept.new.machine c.args.cut.now c.answer_kept.new.commands c.args.out.now.items c.args.steps.now c.answer_kept.result
    c.answer_kept.new.out.items c.answer_kept.new.steps (reads (machine_of c.args.machine.now) c.args.cut.now c.args.out.now.items c.args.steps.now c.answer_kept.result
    c.answer_kept.new.machine c.answer_kept.new.out.items c.answer_kept.new.steps (sym c.is_open.ensures ∙ c.if-is_open.false) c.answer_kept.ensures.answer)
    c.answer_kept.ensures.commands
