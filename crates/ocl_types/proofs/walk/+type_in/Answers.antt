use Rattle.std.proofs.Common.{◌≡◌, refl, arith}
use Rattle.ocl_types.specs.Parts.{scene}
use Rattle.ocl_types.specs.Walk.{type_in}
use Rattle.ocl_types.proofs.Depth.{deeper}
use Rattle.ocl_types.proofs.walk.+type_in.Goals as goal

pub returns-then-setting-eq0-clause-value : goal.returns-then-setting-eq0-clause-value
unfolding type_in
returns-then-setting-eq0-clause-value t c =
    let none : c.args.setting.now.nesting ≡ 0 = omega arith in
    rw (c.breaks_t.ensures, c.place.ensures, none) refl

pub returns-clause-value : goal.returns-clause-value
unfolding type_in
returns-clause-value t c =
    rw (deeper (λ n. type_in (scene c.args.setting.now) n c.args.env.now c.args.written.now) c.args.setting.now.nesting (omega arith))
    c.leveled.ensures.value
