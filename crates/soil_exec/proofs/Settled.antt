-- What a machine is after an act on its transaction.
use Rattle.std.proofs.Common.{◌≡◌, ℕ, ◌+◌, ◌≤◌, ◌++◌, true, List, length, take, drop, Result, Ok, Err, refl, sym, ap, ◌∙◌, subst, arith}
use Rattle.std.specs.Prelude.{OnOk}
use Rattle.std.proofs.lemmas.List.{drop_at, length-append}
use Rattle.use_orders.specs.Canon.{all_differ}
use Rattle.use_text.specs.declared.code.Code.{Code}
use Rattle.use_text.specs.declared.place.Place.{Place}
use Rattle.object_state.specs.declared.change.Change.{Change}
use Rattle.object_state.specs.declared.layout.Layout.{Layout}
use Rattle.object_state.specs.State.{State, text_cmp}
use Rattle.soil_changes.specs.Acts.{Outcome}
use Rattle.soil_changes.specs.Progress.{Changing, Gives, Lead, Progress}
use Rattle.soil_changes.specs.declared.fault.ChangeFault.{ChangeFault}
use Rattle.soil_changes.specs.declared.fault.ChangeFault.TheVariants.{Memory, Refused}
use Rattle.soil_exec.specs.declared.machine.Machine.{Machine as Kept}
use Rattle.soil_changes.specs.Adding.{Adds, OnlyAdds}
use Rattle.soil_exec.specs.Acted.{IsLed, WasDone}
use Rattle.soil_exec.specs.Faults.{fault_at}
use Rattle.soil_exec.specs.Kept.{Comes, IsCurrent, stand}
use Rattle.soil_exec.specs.Machine.{changing, placed}
use Rattle.soil_exec.specs.Refreshing.{refreshed_all}
use Rattle.soil_exec.proofs.Fresh.{behind, led_on, names_bound, still_bound}

-- names are bound anew that changes were about
abbrev pub anew : ℕ → Kept → Kept
anew since k = record k { env = refreshed_all k.shell k.transaction.state k.env (drop since k.transaction.changes) }

module _ (act : Changing (Unit {0})) (before : Kept) (since steps : ℕ) (place : Place) where
  abbrev after : Progress → Kept
  after q = record before { transaction = q }

  done : (q : Progress) → OnlyAdds act → act before.transaction ≡ (Ok tt, q) → since ≡ length before.transaction.changes → IsLed before.transaction → IsCurrent before
      → IsLed q → all_differ text_cmp before.shell ≡ true → Comes (changing place act (stand before steps)) before (anew since (after q)) steps (Ok tt)
  done q only h at led current later differ =
      let p = before.transaction in
      let adds : Adds p q = subst (λ (o : Outcome Progress Code (Unit {0})). Adds p o.1) h (only p) in
      let leads : Lead p.layout p.start (p.changes ++ adds.more) q.state =
      subst (λ (z : Layout × State × List Change). Lead z.0 z.1 z.2 q.state) (λ i. (adds.layout i, adds.start i, adds.changes i)) later.lead in
      let on = led_on p.layout p.changes adds.more p.start p.state q.state led.lead leads in
      let new : drop since q.changes ≡ adds.more = ap (drop since) adds.changes ∙ drop_at p.changes adds.more since (sym at) in
      let long = names_bound p.state before.shell before.env current in
      record {
        gives = ap (placed place (stand before steps)) h
            ∙ (λ i. (Ok tt, record (stand before steps) { progress = q; locals = sym (behind before.shell q.state (drop since q.changes) before.env long) i }));
        follows = record {
          current = ap (λ (cs : List Change). take (length before.shell) (refreshed_all before.shell q.state before.env cs)) new
              ∙ still_bound q.state p.layout before.shell adds.more p.state before.env differ led.valid on current;
          layout = adds.layout;
          shell = refl;
          depth = adds.depth;
        };
      }

  pub settled : (now new : Kept) → WasDone act before now since (Ok tt) → IsLed now.transaction → all_differ text_cmp now.shell ≡ true → new ≡ anew since now
      → Comes (changing place act (stand before steps)) before new steps (Ok tt)
  settled now new d later differ e =
      subst (λ (k : Kept). Comes (changing place act (stand before steps)) before k steps (Ok tt)) (sym (e ∙ ap (anew since) d.rest))
      (done now.transaction d.adds d.gives d.counted d.led d.current later (ap (λ (k : Kept). all_differ text_cmp k.shell) (sym d.rest) ∙ differ))

  pub unsettled : (now : Kept) (f : ChangeFault) → WasDone act before now since (Err f)
      → Comes (changing place act (stand before steps)) before now steps (Err (fault_at place f))
  unsettled now Memory d = record { gives = tt; follows = tt }
  unsettled now (Refused code) d = record {
    gives = ap (placed place (stand before steps)) d.gives ∙ (λ i. (Err (fault_at place (Refused code)), stand (sym d.rest i) steps));
    follows = tt;
  }

-- an act that was done has not taken changes away
pub may_settle : (act : Changing (Unit {0})) (p q : Progress) (done : Result (Unit {0}) ChangeFault) (since : ℕ) → OnlyAdds act → Gives (act p) done q
    → since ≡ length p.changes → OnOk done (since ≤ length q.changes)
may_settle act p q (Ok u) since only h at =
    let adds : Adds p q = subst (λ (o : Outcome Progress Code (Unit {0})). Adds p o.1) h (only p) in
    let long : length q.changes ≡ length p.changes + length adds.more = ap length adds.changes ∙ length-append p.changes adds.more in
    omega arith
may_settle act p q (Err f) since only h at = tt

pub on_ok : {A E P : Type 0} (r : Result A E) → P → OnOk r P
on_ok (Ok a) p = p
on_ok (Err e) p = tt
