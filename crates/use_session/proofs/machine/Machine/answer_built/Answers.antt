use Rattle.std.proofs.Common.{List, ℕ, subst, sym}
use Rattle.ocl_core.specs.declared.expression.Expr.{Expr}
use Rattle.ocl_core.specs.declared.statement.Stmt.{Stmt}
use Rattle.soil_check.specs.declared.checked.Checked.{Checked}
use Rattle.use_session.specs.Answering.{Answers}
use Rattle.use_session.specs.Kept.{machine_of}
use Rattle.use_session.specs.Machine.{carried_out, enter, execute, query, reset, silent}
use Rattle.use_session.proofs.Told.{uncounted}
use Rattle.use_session.proofs.machine.Machine.answer_built.Goals as goal

pub returns-in-Query : goal.returns-in-Query
returns-in-Query g c =
    let k = c.args.self.now in
    let told = subst (λ (shell : List (List ℕ)). Answers (query (machine_of k) c.args.at.second c.in-Query.expr c.in-Query.of_type shell) c.args.out.now.items
    c.args.steps.now c.query.result k c.query.new.out.items c.query.new.steps) c.as_slice.ensures c.query.ensures in
    subst (λ (command : Checked). Answers (carried_out (machine_of k) c.args.line c.args.at c.args.word command) c.args.out.now.items c.args.steps.now c.query.result k c.query.new.out.items
    c.query.new.steps) (sym c.in-Query.is) told

pub returns-in-Reset : goal.returns-in-Reset
returns-in-Reset g c =
    let k = c.args.self.now in
    let bytes = c.args.out.now.items in
    let told = uncounted (silent (reset (machine_of k))) bytes c.reset.result c.reset.new.self bytes c.args.steps.now (c.reset.ensures bytes) in
    subst (λ (command : Checked). Answers (carried_out (machine_of k) c.args.line c.args.at c.args.word command) bytes c.args.steps.now c.reset.result c.reset.new.self bytes c.args.steps.now)
    (sym c.in-Reset.is) told

pub returns-in-Statements : goal.returns-in-Statements
returns-in-Statements g c =
    let k = c.args.self.now in
    let told = subst (λ (z : List Stmt × List (List ℕ)). Answers (execute (machine_of k) c.args.line z.0 z.1) c.args.out.now.items c.args.steps.now c.carry_out_among.result
    c.carry_out_among.new.self c.carry_out_among.new.out.items c.carry_out_among.new.steps)
    (λ i. (c.as_slice-in-Statements.ensures i, c.as_slice-in-Statements-2.ensures i)) c.carry_out_among.ensures in
    subst (λ (command : Checked). Answers (carried_out (machine_of k) c.args.line c.args.at c.args.word command) c.args.out.now.items c.args.steps.now c.carry_out_among.result
    c.carry_out_among.new.self c.carry_out_among.new.out.items c.carry_out_among.new.steps) (sym c.in-Statements.is) told

pub returns-in-Enter : goal.returns-in-Enter
returns-in-Enter g c =
    let k = c.args.self.now in
    let told = subst (λ (z : List Expr × List (List ℕ)). Answers (enter (machine_of k) c.args.word c.in-Enter.receiver c.in-Enter.op z.0 z.1) c.args.out.now.items
    c.args.steps.now c.enter_among.result c.enter_among.new.self c.enter_among.new.out.items c.enter_among.new.steps)
    (λ i. (c.as_slice-in-Enter.ensures i, c.as_slice-in-Enter-2.ensures i)) c.enter_among.ensures in
    subst (λ (command : Checked). Answers (carried_out (machine_of k) c.args.line c.args.at c.args.word command) c.args.out.now.items c.args.steps.now c.enter_among.result
    c.enter_among.new.self c.enter_among.new.out.items c.enter_among.new.steps) (sym c.in-Enter.is) told
