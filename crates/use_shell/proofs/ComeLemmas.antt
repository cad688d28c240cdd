-- How far a player has come.
use Rattle.std.proofs.Common.{◌≡◌, ℕ, ◌+◌, Bool, true, false, ◌||◌, List, [], ◌++◌, Option, Result, Ok, Err, sym, ap, ◌∙◌, subst, append_assoc, append-nil, arith, inl, inr, ⊎_elim}
use Rattle.use_session.specs.Answering.{machine_in}
use Rattle.use_session.specs.Machine.{Machine, Step}
use Rattle.use_shell.specs.declared.player.Player.{Player}
use Rattle.use_shell.specs.declared.stop.Stop.{Stop}
use Rattle.use_shell.specs.declared.stop.Stop.TheVariants.{Memory}
use Rattle.use_shell.specs.Output.{Played, after, behind, nothing, stepped}
use Rattle.use_shell.specs.Endings.{AppendsFront}
use Rattle.use_shell.specs.Plays.{HasCome, IsStopped, Plays, Puts}
use Rattle.use_shell.proofs.MoveLemmas.{appends_then, appends_nothing, front_after, front_of_none, front_longer}
use Rattle.use_shell.proofs.PlayLemmas.{or_assoc, or_false, or_true}

pub puts_then : (a b d : Option (List ℕ)) (x y z xs ys : List ℕ) → Puts a b x y xs → Puts b d y z ys → Puts a d x z (xs ++ ys)
puts_then a b d x y z xs ys h k = record {
  put = h.put ++ k.put;
  written = appends_then a b d h.put k.put h.written k.written;
  whole = sym (append_assoc x xs ys) ∙ ap (λ l. l ++ ys) h.whole ∙ append_assoc h.put y ys ∙ ap (λ l. h.put ++ l) k.whole
      ∙ sym (append_assoc h.put k.put z);
}

pub puts_nothing : (a : Option (List ℕ)) (x : List ℕ) → Puts a a x x []
puts_nothing a x = record { put = []; written = appends_nothing a; whole = append-nil x }

-- bytes that wait behind others
pub puts_waiting : (a : Option (List ℕ)) (x y bytes : List ℕ) → y ≡ x ++ bytes → Puts a a x y bytes
puts_waiting a x y bytes is = record { put = []; written = appends_nothing a; whole = sym is }

pub puts_front : (a b d : Option (List ℕ)) (x y xs ys : List ℕ) → Puts a b x y xs → AppendsFront b d (y ++ ys) → AppendsFront a d (x ++ (xs ++ ys))
puts_front a b d x y xs ys h k =
    let same : h.put ++ (y ++ ys) ≡ x ++ (xs ++ ys) = sym (append_assoc h.put y ys) ∙ ap (λ l. l ++ ys) (sym h.whole) ∙ append_assoc x xs ys in
    subst (AppendsFront a d) same (front_after a b d h.put (y ++ ys) h.written k)

pub come_nothing : (m : Machine) (p : Player) (a : Option (List ℕ)) (u v : ℕ) → (machine_in p.session) ≡ m → v ≡ u → HasCome (nothing m) p p a a u v
come_nothing m p a u v same counted = record {
  machine = same;
  failed = sym (or_false p.failed);
  puts = puts_nothing a p.waiting.items;
  units = omega (arith, counted);
}

pub come_then : (p q : Played) (was mid now : Player) (a b d : Option (List ℕ)) (u v w : ℕ) → HasCome p was mid a b u v → HasCome q mid now b d v w
    → HasCome (after p q) was now a d u w
come_then p q was mid now a b d u v w h k = record {
  machine = k.machine;
  failed = k.failed ∙ ap (λ t. t || q.failed) h.failed ∙ sym (or_assoc was.failed p.failed q.failed);
  puts = puts_then a b d was.waiting.items mid.waiting.items now.waiting.items p.bytes q.bytes h.puts k.puts;
  units = omega (arith, h.units, k.units);
}

pub stopped_then : (p q : Played) (was mid : Player) (a b d : Option (List ℕ)) (u v w : ℕ) (stop : Stop) → HasCome p was mid a b u v
    → IsStopped q mid.waiting.items b d v w stop → IsStopped (after p q) was.waiting.items a d u w stop
stopped_then p q was mid a b d u v w stop h k = record {
  front = puts_front a b d was.waiting.items mid.waiting.items p.bytes q.bytes h.puts k.front;
  units = ⊎_elim (λ m. inl m) (λ le. inr (omega (arith, h.units, le))) k.units;
}

pub plays_then : (p q : Played) (was mid now : Player) (a b d : Option (List ℕ)) (u v w : ℕ) (r : Result Bool Stop) → HasCome p was mid a b u v
    → Plays q mid now b d v w r → Plays (after p q) was now a d u w r
plays_then p q was mid now a b d u v w (Ok over) h k = (come_then p q was mid now a b d u v w h k.0, k.1)
plays_then p q was mid now a b d u v w (Err stop) h k = stopped_then p q was mid a b d u v w stop h k

-- what waited was written, or some of it
pub come_on : (p : Played) (was mid now : Player) (a b d : Option (List ℕ)) (u v w : ℕ) → HasCome p was mid a b u v
    → Puts b d mid.waiting.items now.waiting.items [] → now.session ≡ mid.session → now.failed ≡ mid.failed → w ≡ v → HasCome p was now a d u w
come_on p was mid now a b d u v w h k session failed counted = record {
  machine = ap machine_in session ∙ h.machine;
  failed = failed ∙ h.failed;
  puts = subst (Puts a d was.waiting.items now.waiting.items) (append-nil p.bytes)
      (puts_then a b d was.waiting.items mid.waiting.items now.waiting.items p.bytes [] h.puts k);
  units = omega (arith, h.units, counted);
}

pub stopped_on : (p : Played) (was mid : Player) (a b d : Option (List ℕ)) (u v w : ℕ) (stop : Stop) → HasCome p was mid a b u v
    → AppendsFront b d mid.waiting.items → w ≡ v → IsStopped p was.waiting.items a d u w stop
stopped_on p was mid a b d u v w stop h k counted =
    let none : AppendsFront b d (mid.waiting.items ++ []) = subst (AppendsFront b d) (sym (append-nil mid.waiting.items)) k in
    let front = puts_front a b d was.waiting.items mid.waiting.items p.bytes [] h.puts none in
    record {
      front = subst (λ l. AppendsFront a d (was.waiting.items ++ l)) (append-nil p.bytes) front;
      units = inr (omega (arith, h.units, counted));
    }

-- more commands would have written more
pub stopped_more : (p q : Played) (x : List ℕ) (a d : Option (List ℕ)) (u w : ℕ) (stop : Stop) → IsStopped p x a d u w stop
    → IsStopped (after p q) x a d u w stop
stopped_more p q x a d u w stop h = record {
  front = subst (AppendsFront a d) (append_assoc x p.bytes q.bytes) (front_longer a d (x ++ p.bytes) q.bytes h.front);
  units = ⊎_elim (λ m. inl m) (λ le. inr (omega (arith, le))) h.units;
}

-- it stopped before anything was played
pub stopped_early : (p : Played) (x : List ℕ) (a d : Option (List ℕ)) (u w : ℕ) (stop : Stop) → AppendsFront a d x → w ≡ u → IsStopped p x a d u w stop
stopped_early p x a d u w stop h counted = record { front = front_longer a d x p.bytes h; units = inr (omega (arith, counted)) }

pub stopped_wanting : (p : Played) (x : List ℕ) (a : Option (List ℕ)) (u w : ℕ) (stop : Stop) → stop ≡ Memory → IsStopped p x a a u w stop
stopped_wanting p x a u w stop h = record { front = front_of_none a (x ++ p.bytes); units = inl h }

-- a step whose answer waits
pub come_by_step : (e : List ℕ) (s : Step) (over : Bool) (was now : Player) (a : Option (List ℕ)) (u v : ℕ) → (machine_in now.session) ≡ s.machine
    → now.failed ≡ was.failed → now.waiting.items ≡ was.waiting.items ++ (e ++ s.bytes) → v ≡ u + s.units
    → HasCome (behind e (stepped s over false)) was now a a u v
come_by_step e s over was now a u v machine failed waiting counted = record {
  machine = machine;
  failed = failed ∙ sym (or_false was.failed);
  puts = puts_waiting a was.waiting.items now.waiting.items (e ++ s.bytes) waiting;
  units = counted;
}

-- a refused one
pub come_by_refusal : (p : Played) (was now : Player) (a : Option (List ℕ)) (u v : ℕ) → p.failed ≡ true → (machine_in now.session) ≡ p.machine
    → now.failed ≡ true → now.waiting.items ≡ was.waiting.items ++ p.bytes → v ≡ u + p.units → HasCome p was now a a u v
come_by_refusal p was now a u v fails machine failed waiting counted = record {
  machine = machine;
  failed = failed ∙ sym (ap (λ t. was.failed || t) fails ∙ or_true was.failed);
  puts = puts_waiting a was.waiting.items now.waiting.items p.bytes waiting;
  units = counted;
}
