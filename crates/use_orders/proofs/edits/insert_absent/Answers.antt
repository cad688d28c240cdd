use Rattle.std.proofs.Common.{IfOk, ◌≡◌, subst, sym}
use Rattle.use_orders.specs.Canon.{set_of}
use Rattle.use_orders.proofs.Placed.{set_found, set_put}
use Rattle.use_orders.proofs.edits.insert_absent.Goals as goal

pub returns-in-Ok : goal.returns-in-Ok
returns-in-Ok g c =
    let set = subst (λ l. set_of g.T.Ord.cmp l ≡ l) (sym c.deref.ensures.value) c.requires.set in
    rw (sym c.deref.ensures.value) (set_found g.met.T.Ord.total c.requires.exact c.deref.result.now c.args.x c.binary_search.result c.in-Ok.field-0 set
    c.binary_search.ensures.bound c.binary_search.ensures.position c.in-Ok.is)

pub returns-in-Err : goal.returns-in-Err
returns-in-Err g c =
    let set = subst (λ l. set_of g.T.Ord.cmp l ≡ l) (sym c.deref.ensures.value) c.requires.set in
    subst (λ l. IfOk c.put_at.result (λ v. v.items ≡ l)) (rw (sym c.deref.ensures.value) (set_put g.met.T.Ord.total c.requires.exact c.deref.result.now c.args.x
    c.binary_search.result c.in-Err.n set c.binary_search.ensures.bound c.binary_search.ensures.position c.in-Err.is)) c.put_at.ensures
