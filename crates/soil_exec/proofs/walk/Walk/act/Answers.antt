use Rattle.std.proofs.Common.{rules, ◌≡◌, ℕ, All, List, sym, subst, ap, ◌∙◌}
use Rattle.ocl_core.specs.declared.statement.Act.{out-Act, the_lemmas}
use Rattle.ocl_core.specs.declared.statement.Act.TheOpen.{Act-F}
use Rattle.ocl_core.specs.declared.statement.Act.TheVariants as A
use Rattle.ocl_core.specs.declared.expression.Expr.{Expr}
use Rattle.ocl_core.specs.Trees.{IsSound}
use Rattle.soil_exec.specs.Bodies.{IsBody}
use Rattle.soil_exec.specs.Kept.{stand}
use Rattle.soil_exec.specs.Parts.{called_in, inside_in}
use Rattle.soil_exec.specs.Statements.{act}
use Rattle.soil_exec.proofs.Layers.{gives_as}
use Rattle.soil_exec.proofs.Sound.{act_as, all_hold, assoc_known, class_known}
use Rattle.soil_exec.proofs.walk.Walk.act.Goals as goal

pub new_object-requires-clause-class : goal.new_object-requires-clause-class
new_object-requires-clause-class g c =
    (act_as c.args.self.now.setting.program.now.model _ _ (Act-F.New c.in-New.class c.in-New.name c.in-New.target) c.requires.sound c.in-New.is (search (rules, the_lemmas)) 0).0

pub new_object-requires-clause-name : goal.new_object-requires-clause-name
new_object-requires-clause-name g c =
    (act_as c.args.self.now.setting.program.now.model _ _ (Act-F.New c.in-New.class c.in-New.name c.in-New.target) c.requires.sound c.in-New.is (search (rules, the_lemmas)) 0).1

pub new_object-requires-clause-target : goal.new_object-requires-clause-target
new_object-requires-clause-target g c =
    (act_as c.args.self.now.setting.program.now.model _ _ (Act-F.New c.in-New.class c.in-New.name c.in-New.target) c.requires.sound c.in-New.is (search (rules, the_lemmas)) 0).2

pub create-requires-clause-class : goal.create-requires-clause-class
create-requires-clause-class g c =
    class_known c.args.self.now.setting.program.now.model _ c.in-Create.class c.requires.of_model
    (act_as c.args.self.now.setting.program.now.model _ _ (Act-F.Create c.in-Create.names c.in-Create.class) c.requires.sound c.in-Create.is (search (rules, the_lemmas)) 0)

pub destroy-requires-clause-trees : goal.destroy-requires-clause-trees
destroy-requires-clause-trees g c =
    subst (All IsSound) (sym c.as_slice-in-Destroy.ensures)
    (act_as c.args.self.now.setting.program.now.model _ _ (Act-F.Destroy c.in-Destroy.es) c.requires.sound c.in-Destroy.is (search (rules, the_lemmas)) 0)

pub insert-requires-clause-assoc : goal.insert-requires-clause-assoc
insert-requires-clause-assoc g c =
    assoc_known c.args.self.now.setting.program.now.model _ c.in-Insert.assoc c.requires.of_model
    ((act_as c.args.self.now.setting.program.now.model _ _ (Act-F.Insert c.in-Insert.assoc c.in-Insert.first c.in-Insert.second) c.requires.sound c.in-Insert.is (search (rules, the_lemmas)) 0).0)

pub insert-requires-clause-first : goal.insert-requires-clause-first
insert-requires-clause-first g c =
    (act_as c.args.self.now.setting.program.now.model _ _ (Act-F.Insert c.in-Insert.assoc c.in-Insert.first c.in-Insert.second) c.requires.sound c.in-Insert.is (search (rules, the_lemmas)) 0).1

pub insert-requires-clause-second : goal.insert-requires-clause-second
insert-requires-clause-second g c =
    (act_as c.args.self.now.setting.program.now.model _ _ (Act-F.Insert c.in-Insert.assoc c.in-Insert.first c.in-Insert.second) c.requires.sound c.in-Insert.is (search (rules, the_lemmas)) 0).2

pub delete-requires-clause-first : goal.delete-requires-clause-first
delete-requires-clause-first g c =
    (act_as c.args.self.now.setting.program.now.model _ _ (Act-F.Delete c.in-Delete.assoc c.in-Delete.first c.in-Delete.second) c.requires.sound c.in-Delete.is (search (rules, the_lemmas)) 0).1

pub delete-requires-clause-second : goal.delete-requires-clause-second
delete-requires-clause-second g c =
    (act_as c.args.self.now.setting.program.now.model _ _ (Act-F.Delete c.in-Delete.assoc c.in-Delete.first c.in-Delete.second) c.requires.sound c.in-Delete.is (search (rules, the_lemmas)) 0).2

pub assign-requires-clause-target : goal.assign-requires-clause-target
assign-requires-clause-target g c =
    (act_as c.args.self.now.setting.program.now.model _ _ (Act-F.Assign c.in-Assign.target c.in-Assign.value) c.requires.sound c.in-Assign.is (search (rules, the_lemmas)) 0).0

pub assign-requires-clause-tree : goal.assign-requires-clause-tree
assign-requires-clause-tree g c =
    (act_as c.args.self.now.setting.program.now.model _ _ (Act-F.Assign c.in-Assign.target c.in-Assign.value) c.requires.sound c.in-Assign.is (search (rules, the_lemmas)) 0).1

pub branch-self-requires-clause-tree : goal.branch-self-requires-clause-tree
branch-self-requires-clause-tree g c =
    (act_as c.args.self.now.setting.program.now.model _ _ (Act-F.If c.in-If.test c.in-If.one c.in-If.other) c.requires.sound c.in-If.is (search (rules, the_lemmas)) 0).0

pub branch-self-requires-clause-one : goal.branch-self-requires-clause-one
branch-self-requires-clause-one g c =
    let m = c.args.self.now.setting.program.now.model in
    subst (IsBody m) (sym c.as_slice-in-If.ensures)
    (all_hold m c.in-If.one (λ n. (act_as m _ _ (Act-F.If c.in-If.test c.in-If.one c.in-If.other) c.requires.sound c.in-If.is (search (rules, the_lemmas)) n).1))

pub branch-self-requires-clause-other : goal.branch-self-requires-clause-other
branch-self-requires-clause-other g c =
    let m = c.args.self.now.setting.program.now.model in
    subst (IsBody m) (sym c.as_slice-in-If-2.ensures)
    (all_hold m c.in-If.other (λ n. (act_as m _ _ (Act-F.If c.in-If.test c.in-If.one c.in-If.other) c.requires.sound c.in-If.is (search (rules, the_lemmas)) n).2))

pub for_each-requires-clause-tree : goal.for_each-requires-clause-tree
for_each-requires-clause-tree g c =
    (act_as c.args.self.now.setting.program.now.model _ _ (Act-F.For c.in-For.each c.in-For.body) c.requires.sound c.in-For.is (search (rules, the_lemmas)) 0).0

pub for_each-requires-clause-body : goal.for_each-requires-clause-body
for_each-requires-clause-body g c =
    let m = c.args.self.now.setting.program.now.model in
    subst (IsBody m) (sym c.as_slice-in-For.ensures)
    (all_hold m c.in-For.body (λ n. (act_as m _ _ (Act-F.For c.in-For.each c.in-For.body) c.requires.sound c.in-For.is (search (rules, the_lemmas)) n).1))

pub while_true-requires-clause-tree : goal.while_true-requires-clause-tree
while_true-requires-clause-tree g c =
    (act_as c.args.self.now.setting.program.now.model _ _ (Act-F.While c.in-While.test c.in-While.body) c.requires.sound c.in-While.is (search (rules, the_lemmas)) 0).0

pub while_true-requires-clause-body : goal.while_true-requires-clause-body
while_true-requires-clause-body g c =
    let m = c.args.self.now.setting.program.now.model in
    subst (IsBody m) (sym c.as_slice-in-While.ensures)
    (all_hold m c.in-While.body (λ n. (act_as m _ _ (Act-F.While c.in-While.test c.in-While.body) c.requires.sound c.in-While.is (search (rules, the_lemmas)) n).1))

pub returns-in-Create-clause-gives : goal.returns-in-Create-clause-gives
unfolding act
returns-in-Create-clause-gives g c =
    let n = g.V.Evaluator.count c.args.steps.now in
    let out : out-Act (A.Create c.in-Create.names c.in-Create.class) ≡ Act-F.Create c.in-Create.names c.in-Create.class = search (rules, the_lemmas) in
    gives_as c.args.self.now.setting.program.now (inside_in c.args.self.now.setting) (called_in c.args.self.now.setting) c.args.place _ _ (Act-F.Create c.as_slice.result.now c.in-Create.class)
    (stand c.args.machine.now n) (stand c.create.new.self n) c.create.result c.in-Create.is (out ∙ ap (λ (names : List (List ℕ)). Act-F.Create names c.in-Create.class)
    (sym c.as_slice.ensures)) (c.create.ensures.gives n)

pub returns-in-Insert-clause-gives : goal.returns-in-Insert-clause-gives
unfolding act
returns-in-Insert-clause-gives g c =
    gives_as c.args.self.now.setting.program.now (inside_in c.args.self.now.setting) (called_in c.args.self.now.setting) c.args.place _ _
    (Act-F.Insert c.in-Insert.assoc c.in-Insert.first c.in-Insert.second) (stand c.args.machine.now (g.V.Evaluator.count c.args.steps.now))
    (stand c.insert.new.self (g.V.Evaluator.count c.insert.new.steps)) c.insert.result c.in-Insert.is (search (rules, the_lemmas)) c.insert.ensures.gives

pub returns-in-Delete-clause-gives : goal.returns-in-Delete-clause-gives
unfolding act
returns-in-Delete-clause-gives g c =
    gives_as c.args.self.now.setting.program.now (inside_in c.args.self.now.setting) (called_in c.args.self.now.setting) c.args.place _ _
    (Act-F.Delete c.in-Delete.assoc c.in-Delete.first c.in-Delete.second) (stand c.args.machine.now (g.V.Evaluator.count c.args.steps.now))
    (stand c.delete.new.self (g.V.Evaluator.count c.delete.new.steps)) c.delete.result c.in-Delete.is (search (rules, the_lemmas)) c.delete.ensures.gives

pub call-requires-clause-op : goal.call-requires-clause-op
call-requires-clause-op g c =
    (act_as c.args.self.now.setting.program.now.model _ _ (Act-F.Call c.in-Call.receiver c.in-Call.op c.in-Call.args c.in-Call.target) c.requires.sound c.in-Call.is
    (search (rules, the_lemmas)) 0).0

pub call-requires-clause-receiver : goal.call-requires-clause-receiver
call-requires-clause-receiver g c =
    (act_as c.args.self.now.setting.program.now.model _ _ (Act-F.Call c.in-Call.receiver c.in-Call.op c.in-Call.args c.in-Call.target) c.requires.sound c.in-Call.is
    (search (rules, the_lemmas)) 0).1

pub call-requires-clause-args : goal.call-requires-clause-args
call-requires-clause-args g c =
    subst (All IsSound) (sym c.as_slice-in-Call.ensures)
    (act_as c.args.self.now.setting.program.now.model _ _ (Act-F.Call c.in-Call.receiver c.in-Call.op c.in-Call.args c.in-Call.target) c.requires.sound c.in-Call.is
    (search (rules, the_lemmas)) 0).2

pub call-requires-clause-target : goal.call-requires-clause-target
call-requires-clause-target g c =
    (act_as c.args.self.now.setting.program.now.model _ _ (Act-F.Call c.in-Call.receiver c.in-Call.op c.in-Call.args c.in-Call.target) c.requires.sound c.in-Call.is
    (search (rules, the_lemmas)) 0).3

pub returns-in-Call-clause-gives : goal.returns-in-Call-clause-gives
unfolding act
returns-in-Call-clause-gives g c =
    let s = c.args.self.now.setting in
    let layer = λ (args : List Expr). Act-F.Call c.in-Call.receiver c.in-Call.op args c.in-Call.target in
    let out : out-Act (A.Call c.in-Call.receiver c.in-Call.op c.in-Call.args c.in-Call.target) ≡ layer c.in-Call.args = search (rules, the_lemmas) in
    gives_as s.program.now (inside_in s) (called_in s) c.args.place _ _ (layer c.as_slice-in-Call.result.now) (stand c.args.machine.now (g.V.Evaluator.count c.args.steps.now))
    (stand c.call.new.machine (g.V.Evaluator.count c.call.new.steps)) c.call.result c.in-Call.is (out ∙ ap layer (sym c.as_slice-in-Call.ensures)) c.call.ensures.gives
