-- The frame of a call: it is entered before a body and left behind it.
use Rattle.std.proofs.Common.{◌≡◌, ℕ, suc, List, [], ◌∷◌, length, drop, Result, Ok, Err, sym, ap, subst, ◌∙◌, arith}
use Rattle.std.specs.Prelude.{IfOk, OnOk}
use Rattle.ocl_values.specs.declared.value.Value.{Value}
use Rattle.ocl_core.specs.declared.program.ProgramParts.{ProgramParts}
use Rattle.object_state.specs.declared.layout.Layout.{Layout}
use Rattle.object_state.specs.Looks.{look}
use Rattle.object_state.specs.State.{State}
use Rattle.entry_states.specs.declared.frame.Call.{Call}
use Rattle.entry_states.specs.declared.frame.Frame.{Frame}
use Rattle.entry_states.specs.Frames.{Grown, entered, left, opened}
use Rattle.entry_states.specs.Noting.{AreNoted}
use Rattle.entry_states.specs.Overlays.{Picture}
use Rattle.entry_states.proofs.Keeps.{left_grown, left_keeps}
use Rattle.entry_states.proofs.Noted.{grown_on}
use Rattle.contract_frames.specs.Entering.{IsCall}
use Rattle.contract_frames.specs.Judging.{picture}
use Rattle.soil_changes.specs.Acts.{Outcome}
use Rattle.soil_changes.specs.Adding.{Adds}
use Rattle.soil_changes.specs.Progress.{Progress, diagram_of}
use Rattle.soil_exec.specs.declared.fault.ExecFault.{ExecFault}
use Rattle.soil_exec.specs.declared.machine.Machine.{Machine as Kept}
use Rattle.soil_exec.specs.Acted.{HasTop, IsEntered, Returns, TopEntered}
use Rattle.soil_exec.specs.Kept.{Follows, Gives, stand}
use Rattle.soil_exec.specs.Machine.{Machine}

-- one frame more below, and one less
left_length : (fs : List Frame) (n : ℕ) → length fs ≡ suc n → length (left fs) ≡ n
left_length [] n h = absurd (omega arith)
left_length (f ∷ []) n h = omega arith
left_length (f ∷ g ∷ gs) n h = omega arith

below : (fs gs : List Frame) (f : Frame) → Grown (f ∷ fs) gs → Grown fs (drop 1 gs)
below fs [] f h = absurd h
below fs (g ∷ gs) f h = h.1

-- what was noted above a frame that came is noted below it, once it is left
left_noted : (l : Layout) (s t : State) (k : Call) (fs gs : List Frame) → AreNoted l s t (opened k ∷ fs) gs → AreNoted l s t fs (left gs)
left_noted l s t k fs gs h = record {
  same = left_keeps gs (look l t) ∙ ap (drop 1) h.same;
  grown = grown_on fs (drop 1 gs) (left gs) (below fs gs (opened k) h.grown) (left_grown gs);
}

pub framed_adds : (k : Call) (p q : Progress) → Adds (record p { frames = opened k ∷ p.frames }) q → Adds p (record q { frames = left q.frames })
framed_adds k p q h = record {
  layout = h.layout;
  start = h.start;
  more = h.more;
  changes = h.changes;
  state = h.state;
  depth = left_length q.frames (length p.frames) h.depth;
  noted = λ v c. left_noted p.layout p.state q.state k p.frames q.frames (h.noted v c);
}

-- the top call and the picture at its entry
first_of : (e : Call × Picture) → List (Call × Picture) → Call × Picture
first_of e [] = e
first_of e (f ∷ fs) = f

top_entered : (k : Call) (q now : Picture) (es : List (Call × Picture)) (fs : List Frame) → entered fs now ≡ (k, q) ∷ es → TopEntered k q fs now
unfolding first_of
top_entered k q now es [] h = cc
top_entered k q now es (f ∷ fs) h = (ap (λ l. (first_of (k, q) l).0) h, ap (λ l. (first_of (k, q) l).1) h)

pub is_entered : (k : Call) (p q : Progress) → q.layout ≡ p.layout → AreNoted p.layout p.state q.state (opened k ∷ p.frames) q.frames → IsEntered k p q
is_entered k p q e h =
    top_entered k (picture (diagram_of p)) (picture (diagram_of q)) (entered p.frames (picture (diagram_of p))) q.frames
    (ap (λ (l : Layout). entered q.frames (look l q.state)) e ∙ h.same)

pub has_top : (pr : ProgramParts) (k : Call) (now q : Picture) (fs : List Frame) → IsCall pr k → TopEntered k q fs now → HasTop pr fs
has_top pr k now q [] c h = absurd h
has_top pr k now q (f ∷ fs) c h = record { open_call = tt; call = subst (IsCall pr) (sym h.0) c }

-- a machine in which a call is entered, and one that is left
abbrev pub with_call : Call → Kept → Kept
with_call k m = record m { transaction = record m.transaction { frames = opened k ∷ m.transaction.frames } }

abbrev pub without_call : Kept → Kept
without_call m = record m { transaction = record m.transaction { frames = left m.transaction.frames } }

pub entered_there : (k : Call) (old inner new : Kept) → inner ≡ with_call k old → Returns inner new → IsEntered k old.transaction new.transaction
entered_there k old inner new e h =
    let r = subst (λ (x : Kept). Returns x new) e h in
    is_entered k old.transaction new.transaction r.follows.layout r.noted

pub call_follows : (k : Call) (old inner new last : Kept) → inner ≡ with_call k old → last ≡ without_call new → Returns inner new → Follows old last
call_follows k old inner new last e f h =
    let r = subst (λ (x : Kept). Returns x new) e h in
    subst (λ (x : Kept). Follows old x) (sym f) (record {
      current = r.follows.current;
      layout = r.follows.layout;
      shell = r.follows.shell;
      depth = left_length new.transaction.frames (length old.transaction.frames) r.follows.depth;
    })

-- what holds where one was done holds where another was that gives the same
pub on_same : (P : Type 0) (r s : Result Value ExecFault) → IfOk s (λ v. r ≡ Ok v) → OnOk r P → OnOk s P
on_same P r (Ok v) e h = subst (λ (x : Result Value ExecFault). OnOk x P) e h
on_same P r (Err x) e h = tt

pub if_same : (P : Value → Type 0) (r s : Result Value ExecFault) → IfOk s (λ v. r ≡ Ok v) → IfOk r P → IfOk s P
if_same P r (Ok v) e h = subst (λ (x : Result Value ExecFault). IfOk x P) e h
if_same P r (Err x) e h = tt

pub on_ok_then : (P Q : Type 0) (r : Result Value ExecFault) → (P → Q) → OnOk r P → OnOk r Q
on_ok_then P Q (Ok v) f h = f h
on_ok_then P Q (Err x) f h = tt

pub on_ok_both : (P Q R : Type 0) (r : Result Value ExecFault) → (P → Q → R) → OnOk r P → OnOk r Q → OnOk r R
on_ok_both P Q R (Ok v) f h k = f h k
on_ok_both P Q R (Err x) f h k = tt

-- what an execution adds
pub told_adds : (p : Progress) (o : Outcome Machine ExecFault Value) (r : Result Value ExecFault) (k : Kept) (n : ℕ) → Adds p o.1.progress → Gives o r (stand k n)
    → OnOk r (Adds p k.transaction)
told_adds p o (Ok v) k n h e = subst (λ (x : Outcome Machine ExecFault Value). Adds p x.1.progress) e h
told_adds p o (Err x) k n h e = tt
