use Rattle.std.proofs.Common.{◌≡◌, ◌-◌, refl, sym, ap, ◌∙◌, arith, drop, get_or}
use Rattle.ocl_values.specs.declared.value.Kind.TheVariants.{Set}
use Rattle.class_decls.proofs.Backward.{drop_all, drop_before}
use Rattle.class_rules.proofs.PlacedClasses.{default_alike}
use Rattle.class_model.specs.declared.types.OclType.TheVariants as T
use Rattle.class_builder.specs.Models.{nested}
use Rattle.class_builder.proofs.type_names.nested.Goals as goal

pub kinds-init : goal.kinds-init
kinds-init c = (rw drop_all refl, omega arith)

pub kinds-preserved : goal.kinds-preserved
kinds-preserved c =
    let kinds = c.args.kinds.now in
    let x = get_or kinds (c.kinds.i - 1) Set in (
      ap (T.Coll x) (c.in_ok-new.ensures ∙ c.kinds.invariant.0)
          ∙ ap (λ l. nested l c.args.of_type)
          (sym (drop_before kinds c.kinds.i x c.kinds-test.true c.kinds.invariant.1
          (default_alike kinds (c.kinds.i - 1) Set x (let t = c.kinds-test.true in let u = c.kinds.invariant.1 in omega arith)))),
      let u = c.kinds.invariant.1 in omega arith,
    )
