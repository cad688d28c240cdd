use Rattle.std.proofs.Common.{rules, ◌≡◌, ℕ, List, Option, Err, ap, subst, ◌∙◌}
use Rattle.class_model.specs.Parts.{class_name}
use Rattle.class_model.specs.declared.object_model.ObjectModel.{ObjectModel}
use Rattle.ocl_values.specs.declared.value.Value.{Value}
use Rattle.ocl_values.specs.declared.value.Value.TheVariants.{Obj}
use Rattle.soil_changes.specs.Acts.{◌>>=◌}
use Rattle.soil_changes.specs.Creating.{create_new}
use Rattle.soil_exec.specs.Kept.{Gives, stand}
use Rattle.soil_exec.specs.Machine.{changing}
use Rattle.soil_exec.specs.Statements.{next_object}
use Rattle.soil_exec.specs.Targets.{check_holder_if, put_if}
use Rattle.soil_exec.specs.Values.{value_if}
use Rattle.soil_exec.proofs.Sound.{class_known}
use Rattle.soil_exec.proofs.Then.{fails_as, goes_on}
use Rattle.soil_exec.proofs.machine.Machine.new_object.Goals as goal

pub returns-in_err-check_holder_if-clause-gives : goal.returns-in_err-check_holder_if-clause-gives
returns-in_err-check_holder_if-clause-gives g c =
    let p = c.args.setting.now.program.now in
    let at = c.args.place in
    let e = c.in_err-check_holder_if.field-0.0 in
    let r = c.from_residual-in_err-check_holder_if.result in
    let is : r ≡ Err e = search rules in
    let make = λ (object : Value) (given : Option Value) (o : ℕ). changing at (create_new c.args.class (class_name p.model c.args.class) given)
    >>= (λ u. put_if at c.args.target.now object (Obj o)) in
    let rest = λ (object : Value) (given : Option Value). check_holder_if at c.args.target.now object >>= (λ u. next_object >>= make object given) in
    goes_on _ (λ object. value_if p at c.args.name.now >>= rest object) _ _ r _ c.in_ok-holder.ensures.gives
    (goes_on _ (rest c.in_ok-holder.holder) _ _ r _ c.in_ok-given.ensures.gives
    (fails_as _ (λ u. next_object >>= make c.in_ok-holder.holder c.in_ok-given.given) e _ r is
    (c.in_err-check_holder_if.ensures (g.V.Evaluator.count c.value_if.new.steps))))

pub create_new-requires-clause-class : goal.create_new-requires-clause-class
create_new-requires-clause-class g c =
    class_known c.args.setting.now.program.now.model c.value_if.new.self.transaction.layout c.args.class
    (c.in_ok-given.ensures.follows.layout ∙ c.in_ok-holder.ensures.follows.layout ∙ c.requires.of_model) c.requires.class

pub returns-in_err-create_new-clause-gives : goal.returns-in_err-create_new-clause-gives
returns-in_err-create_new-clause-gives g c =
    let p = c.args.setting.now.program.now in
    let at = c.args.place in
    let n = g.V.Evaluator.count c.value_if.new.steps in
    let e = c.in_err-create_new.field-0.0 in
    let r = c.from_residual-in_err-create_new.result in
    let is : r ≡ Err e = search rules in
    let word : c.class_name-word.result.now ≡ class_name p.model c.args.class =
    c.class_name-word.ensures ∙ ap (λ (m : ObjectModel). class_name m c.args.class) c.model.ensures in
    let make = λ (object : Value) (given : Option Value) (o : ℕ). changing at (create_new c.args.class (class_name p.model c.args.class) given)
    >>= (λ u. put_if at c.args.target.now object (Obj o)) in
    let rest = λ (object : Value) (given : Option Value). check_holder_if at c.args.target.now object >>= (λ u. next_object >>= make object given) in
    goes_on _ (λ object. value_if p at c.args.name.now >>= rest object) _ _ r _ c.in_ok-holder.ensures.gives
    (goes_on _ (rest c.in_ok-holder.holder) _ _ r _ c.in_ok-given.ensures.gives
    (goes_on _ (λ u. next_object >>= make c.in_ok-holder.holder c.in_ok-given.given) _ _ r _ (c.in_ok-check_holder_if.ensures n)
    (fails_as _ (λ u. put_if at c.args.target.now c.in_ok-holder.holder (Obj c.value_if.new.self.transaction.state.next_object)) e _ r is
    (subst (λ (w : List ℕ). Gives (changing at (create_new c.args.class w c.in_ok-given.given) (stand c.value_if.new.self n)) (Err e) (stand c.create_new.new.self n))
    word (c.in_err-create_new.ensures.gives n)))))
