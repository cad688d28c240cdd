use Rattle.std.proofs.Common.{◌≡◌, ◌&&◌, not, false, None, cond, sym, ap, ◌∙◌, take}
use Rattle.std.specs.HashMap.{get_by_text}
use Rattle.std.specs.Option.{option_map_or}
use Rattle.class_decls.proofs.Numbered.{all_taken}
use Rattle.class_decls.specs.Texts.{same_text}
use Rattle.class_model.specs.Features.{class_at, declares, numbers_of}
use Rattle.class_model.specs.Indexes.{above}
use Rattle.class_model.proofs.Chosen.{class_is, overriding, overriding_more, overriding_none}
use Rattle.class_model.proofs.Listed.{numbers_more}
use Rattle.class_model.proofs.Named.{same_is}
use Rattle.class_model.proofs.operations.keep_overriding.Goals as goal

pub ops-init : goal.ops-init
ops-init c = λ t. overriding_none (above c.args.rows.now) c.args.ops.now (get_by_text c.args.map.now t)

pub ops-preserved : goal.ops-preserved
ops-preserved c = λ t.
    let r = above c.args.rows.now in
    let ops = c.args.ops.now in
    let op = c.op-item.result in
    let i = c.ops.op-index in
    let h = r c.args.class op.class in
    let s = same_text op.name t in
    let os = numbers_of (declares (r c.args.class) t) (take i ops) in
    let o = get_by_text c.args.map.now t in
    let found = get_by_text c.ops.map op.name in
    c.remove_if.ensures t
    ∙ rw (c.as_str.ensures, c.is_missed-holds.ensures, c.ops.invariant t)
    (ap (λ k. cond ((h && option_map_or (λ b. not (r (class_at ops b) k)) found false) && s) None (overriding r ops os o))
    (sym (class_is ops i op c.ops-test.true c.op-item.is))
    ∙ overriding_more r ops os o h s i found (λ e. ap (get_by_text c.ops.map) (same_is op.name t e) ∙ c.ops.invariant t)
    ∙ ap (λ l. overriding r ops l o) (sym (numbers_more (declares (r c.args.class) t) ops i op c.ops-test.true c.op-item.is)))

pub returns : goal.returns
returns c = λ t. rw (all_taken c.args.ops.now c.ops.op-index c.ops-test.false) at (c.ops.invariant t)
