-- Commands, files and pieces of input that are played one after another.
use Rattle.std.proofs.Common.{◌≡◌, ℕ, zero, suc, take, drop, take-add, ◌+◌, ◌-◌, ◌≤◌, Bool, true, false, List, [], ◌∷◌, ◌++◌, length, Option, Some, Result, Ok, Err, IfOk, OnOk, OnErr, IsOkUnless, refl, sym, ap, ◌∙◌, subst, append_assoc, append-nil, arith, inl, inr, ⊎_elim}
use Rattle.std.proofs.lemmas.List.{take-append-drop}
use Rattle.std.specs.FinMap.{get}
use Rattle.use_io.specs.Shelves.{Files}
use Rattle.use_text.specs.declared.cut.Cut.{Cut}
use Rattle.use_text.specs.declared.place.Place.{Place}
use Rattle.use_text.specs.Cuts.{StaysEnded, cuts, ended}
use Rattle.use_text.specs.Keeping.{Cutting, StandsFor}
use Rattle.use_session.specs.Answering.{machine_in}
use Rattle.use_session.specs.declared.session.Turn.TheVariants.{CheckFailed, Fetch, Quiet, Quit, Refused}
use Rattle.use_session.specs.Machine.{Machine, step}
use Rattle.use_text.specs.declared.code.Code.{Code}
use Rattle.use_shell.specs.declared.player.Player.{Player}
use Rattle.use_shell.specs.declared.stop.Stop.{Stop}
use Rattle.use_shell.specs.declared.stop.Stop.TheVariants.{Memory}
use Rattle.use_shell.specs.Echo.{echoed}
use Rattle.use_shell.specs.Output.{Played, after, behind, commands_in, max_file, nothing, opens_in, play, stepped, unopened}
use Rattle.use_shell.specs.Endings.{AppendsFront}
use Rattle.use_shell.specs.Plays.{HasCome, HasPlayed, IsOnTheWay, IsStopped, Plays, PlaysAndEnds, Puts}
use Rattle.use_shell.proofs.MoveLemmas.{front_longer}
use Rattle.use_shell.proofs.PlayLemmas.{after_assoc, followed_on, followed_over, nothing_before, play_front, play_on, play_one, play_over, play_units}
use Rattle.use_shell.proofs.ComeLemmas.{come_by_refusal, come_by_step, come_nothing, come_on, come_then, plays_then, stopped_more, stopped_on, stopped_then, stopped_wanting}
use Rattle.use_shell.proofs.CommandLemmas.{behind_after, command_by, file_within, opens_one}

pub plays_by : (p q : Played) (was now : Player) (a b : Option (List ℕ)) (u v : ℕ) (r : Result Bool Stop) → p ≡ q → Plays q was now a b u v r
    → Plays p was now a b u v r
plays_by p q was now a b u v r is h = subst (λ (o : Played). Plays o was now a b u v r) (sym is) h

-- a step that is not followed by anything
module _ (n : ℕ) (files : Files) (echo : Bool) (m : Machine) (cut : Cut) (was now : Player) (a : Option (List ℕ)) (u v : ℕ)
    (machine : (machine_in now.session) ≡ (step m cut).machine) (waiting : now.waiting.items ≡ was.waiting.items ++ (echoed echo cut ++ (step m cut).bytes))
    (counted : v ≡ u + (step m cut).units) where
  pub quiet_plays : (step m cut).turn ≡ Quiet → now.failed ≡ was.failed → Plays (commands_in n files echo m cut) was now a a u v (Ok false)
  quiet_plays turn failed = plays_by (commands_in n files echo m cut) (behind (echoed echo cut) (stepped (step m cut) false false)) was now a a u v (Ok false)
      (command_by n files echo m cut Quiet turn)
      (come_by_step (echoed echo cut) (step m cut) false was now a u v machine failed waiting counted, refl)

  pub check_plays : (step m cut).turn ≡ CheckFailed → now.failed ≡ true → Plays (commands_in n files echo m cut) was now a a u v (Ok false)
  check_plays turn failed = plays_by (commands_in n files echo m cut) (behind (echoed echo cut) (stepped (step m cut) false true)) was now a a u v (Ok false)
      (command_by n files echo m cut CheckFailed turn)
      (come_by_refusal (behind (echoed echo cut) (stepped (step m cut) false true)) was now a u v refl machine failed waiting counted, refl)

  pub quit_plays : (step m cut).turn ≡ Quit → now.failed ≡ was.failed → Plays (commands_in n files echo m cut) was now a a u v (Ok true)
  quit_plays turn failed = plays_by (commands_in n files echo m cut) (behind (echoed echo cut) (stepped (step m cut) true false)) was now a a u v (Ok true)
      (command_by n files echo m cut Quit turn)
      (come_by_step (echoed echo cut) (step m cut) true was now a u v machine failed waiting counted, refl)

  pub refused_plays : (code : Code) → (step m cut).turn ≡ Refused code → now.failed ≡ true → Plays (commands_in n files echo m cut) was now a a u v (Ok false)
  refused_plays code turn failed = plays_by (commands_in n files echo m cut) (behind (echoed echo cut) (stepped (step m cut) false true)) was now a a u v (Ok false)
      (command_by n files echo m cut (Refused code) turn)
      (come_by_refusal (behind (echoed echo cut) (stepped (step m cut) false true)) was now a u v refl machine failed waiting counted, refl)

-- a step that opens a file
pub fetch_plays : (n : ℕ) (files : Files) (echo : Bool) (m : Machine) (cut : Cut) (name same : List ℕ) (place : Place) (was mid now : Player)
    (a b : Option (List ℕ)) (u v w : ℕ) (r : Result Bool Stop) → (machine_in mid.session) ≡ (step m cut).machine
    → mid.waiting.items ≡ was.waiting.items ++ (echoed echo cut ++ (step m cut).bytes) → v ≡ u + (step m cut).units → mid.failed ≡ was.failed
    → (step m cut).turn ≡ Fetch name place → same ≡ name → Plays (opens_in n files echo (machine_in mid.session) same place) mid now a b v w r
    → Plays (commands_in n files echo m cut) was now a b u w r
fetch_plays n files echo m cut name same place was mid now a b u v w r machine waiting counted failed turn is h =
    let first = behind (echoed echo cut) (stepped (step m cut) false false) in
    let come = come_by_step (echoed echo cut) (step m cut) false was mid a u v machine failed waiting counted in
    let opens = opens_in n files echo (step m cut).machine name place in
    let all : commands_in n files echo m cut ≡ after first opens = command_by n files echo m cut (Fetch name place) turn
    ∙ behind_after (echoed echo cut) (stepped (step m cut) false false) opens in
    let rest : Plays opens mid now a b v w r = subst (λ (o : Played). Plays o mid now a b v w r)
    (ap (λ k. opens_in n files echo k same place) machine ∙ ap (λ l. opens_in n files echo (step m cut).machine l place) is) h in
    plays_by (commands_in n files echo m cut) (after first opens) was now a b u w r all (plays_then first opens was mid now a a b u v w r come rest)

-- a file that is not opened
pub unopened_plays : (number : ℕ) (m : Machine) (place : Place) (was now : Player) (a : Option (List ℕ)) (u v : ℕ) (r : Result Bool Stop)
    → (machine_in was.session) ≡ m → v ≡ u → now.session ≡ was.session → IfOk r (λ over. over ≡ false) → OnOk r (now.failed ≡ true)
    → OnOk r (now.waiting.items ≡ was.waiting.items ++ (unopened number m place).bytes) → IsOkUnless r Memory
    → Plays (unopened number m place) was now a a u v r
unopened_plays number m place was now a u v (Ok over) machine counted session goes failed waiting memory =
    (come_by_refusal (unopened number m place) was now a u v refl (ap machine_in session ∙ machine) failed waiting (omega (arith, counted)), goes)
unopened_plays number m place was now a u v (Err stop) machine counted session goes failed waiting memory =
    stopped_wanting (unopened number m place) was.waiting.items a u v stop memory

-- what waited was written first
pub plays_behind : (p : Played) (was mid now : Player) (a b d : Option (List ℕ)) (u v w : ℕ) (r : Result Bool Stop)
    → Puts a b was.waiting.items mid.waiting.items [] → mid.session ≡ was.session → mid.failed ≡ was.failed → v ≡ u → Plays p mid now b d v w r
    → Plays p was now a d u w r
plays_behind p was mid now a b d u v w r puts session failed counted h =
    let m = (machine_in was.session) in
    let still = come_on (nothing m) was was mid a a b u u v (come_nothing m was a u u refl refl) puts session failed counted in
    plays_by p (after (nothing m) p) was now a d u w r (nothing_before m p) (plays_then (nothing m) p was mid now a b d u v w r still h)

-- a file that is opened
pub opened_plays : (n k : ℕ) (files : Files) (echo inner : Bool) (name : List ℕ) (place : Place) (bytes held : List ℕ) (was mid now : Player)
    (a b d : Option (List ℕ)) (u v w : ℕ) (r : Result Bool Stop) → (n ≡ 0 → ⊥) → get files name ≡ Some bytes → length bytes ≤ max_file → k ≡ n - 1
    → inner ≡ echo → held ≡ bytes → Puts a b was.waiting.items mid.waiting.items [] → mid.session ≡ was.session → mid.failed ≡ was.failed → v ≡ u
    → Plays (play (commands_in k files inner) (machine_in mid.session) (cuts held)) mid now b d v w r
    → Plays (opens_in n files echo (machine_in was.session) name place) was now a d u w r
opened_plays n k files echo inner name place bytes held was mid now a b d u v w r some has few less same_echo same puts session failed counted h =
    let c = commands_in (n - 1) files echo in
    let p = play c (machine_in was.session) (cuts bytes) in
    let is : play (commands_in k files inner) (machine_in mid.session) (cuts held) ≡ p =
    ap (λ i. play (commands_in i files inner) (machine_in mid.session) (cuts held)) less
    ∙ ap (λ e. play (commands_in (n - 1) files e) (machine_in mid.session) (cuts held)) same_echo
    ∙ ap (λ l. play c (machine_in mid.session) (cuts l)) same
    ∙ ap (λ s. play c (machine_in s) (cuts bytes)) session in
    let opens : opens_in n files echo (machine_in was.session) name place ≡ p = opens_one n files echo (machine_in was.session) name place (Some bytes) some has
    ∙ file_within c (machine_in was.session) place bytes few in
    plays_by (opens_in n files echo (machine_in was.session) name place) p was now a d u w r opens
    (plays_behind p was mid now a b d u v w r puts session failed counted (subst (λ (o : Played). Plays o mid now b d v w r) is h))

module _ (c : Machine → Cut → Played) where
  -- commands that wait
  pub on_the_way : (m : Machine) (xs : List Cut) (p : Player) (a : Option (List ℕ)) (u : ℕ) → (machine_in p.session) ≡ m
      → IsOnTheWay (play c m xs) (play c (machine_in p.session) xs) p p a a u u
  on_the_way m xs p a u same = record {
    done = nothing m;
    whole = ap (λ k. play c k xs) (sym same) ∙ nothing_before m (play c (machine_in p.session) xs);
    come = come_nothing m p a u u same refl;
  }

  module _ (all : Played) (x : Cut) (xs waiting : List Cut) (was mid now : Player) (a b d : Option (List ℕ)) (u v w : ℕ) (is : waiting ≡ x ∷ xs)
      (way : IsOnTheWay all (play c (machine_in mid.session) waiting) was mid a b u v) where
    -- the next one ended the run, or stopped it
    pub way_over : Plays (c (machine_in mid.session) x) mid now b d v w (Ok true) → Plays all was now a d u w (Ok true)
    way_over h =
        let rest : play c (machine_in mid.session) waiting ≡ c (machine_in mid.session) x = ap (play c (machine_in mid.session)) is
        ∙ followed_over (c (machine_in mid.session) x) (λ next. play c next xs) (sym h.1) in
        plays_by all (after way.done (c (machine_in mid.session) x)) was now a d u w (Ok true) (way.whole ∙ ap (after way.done) rest)
        (plays_then way.done (c (machine_in mid.session) x) was mid now a b d u v w (Ok true) way.come h)

    -- the run goes on behind it
    pub way_on : Plays (c (machine_in mid.session) x) mid now b d v w (Ok false) → IsOnTheWay all (play c (machine_in now.session) xs) was now a d u w
    way_on h =
        let p = c (machine_in mid.session) x in
        let rest : play c (machine_in mid.session) waiting ≡ after p (play c p.machine xs) = ap (play c (machine_in mid.session)) is
        ∙ followed_on p (λ next. play c next xs) (sym h.1) in
        record {
          done = after way.done p;
          whole = way.whole ∙ ap (after way.done) rest ∙ after_assoc way.done p (play c p.machine xs)
              ∙ ap (λ k. after (after way.done p) (play c k xs)) (sym h.0.machine);
          come = come_then way.done p was mid now a b d u v w way.come h.0;
        }

    pub way_stopped : (stop : Stop) → IsStopped (c (machine_in mid.session) x) mid.waiting.items b d v w stop → IsStopped all was.waiting.items a d u w stop
    way_stopped stop h =
        let p = c (machine_in mid.session) x in
        let first : IsStopped (after way.done p) was.waiting.items a d u w stop = stopped_then way.done p was mid a b d u v w stop way.come h in
        by_over p.over refl first
      where
        by_over : (t : Bool) → (c (machine_in mid.session) x).over ≡ t → IsStopped (after way.done (c (machine_in mid.session) x)) was.waiting.items a d u w stop
            → IsStopped all was.waiting.items a d u w stop
        by_over true over k =
            subst (λ (o : Played). IsStopped o was.waiting.items a d u w stop)
            (sym (way.whole ∙ ap (after way.done) (ap (play c (machine_in mid.session)) is ∙ followed_over (c (machine_in mid.session) x) (λ next. play c next xs) over))) k
        by_over false over k =
            let p = c (machine_in mid.session) x in
            let whole : all ≡ after (after way.done p) (play c p.machine xs) = way.whole
            ∙ ap (after way.done) (ap (play c (machine_in mid.session)) is ∙ followed_on p (λ next. play c next xs) over)
            ∙ after_assoc way.done p (play c p.machine xs) in
            subst (λ (o : Played). IsStopped o was.waiting.items a d u w stop) (sym whole)
            (stopped_more (after way.done p) (play c p.machine xs) was.waiting.items a d u w stop k)

  -- what waited was written on the way
  pub way_written : (all rest left : Played) (was mid now : Player) (a b d : Option (List ℕ)) (u v w : ℕ) → rest ≡ left → IsOnTheWay all rest was mid a b u v
      → Puts b d mid.waiting.items now.waiting.items [] → now.session ≡ mid.session → now.failed ≡ mid.failed → w ≡ v → IsOnTheWay all left was now a d u w
  way_written all rest left was mid now a b d u v w same way puts session failed counted = record {
    done = way.done;
    whole = way.whole ∙ ap (after way.done) same;
    come = come_on way.done was mid now a b d u v w way.come puts session failed counted;
  }

  pub way_unwritten : (all rest : Played) (was mid : Player) (a b d : Option (List ℕ)) (u v w : ℕ) (stop : Stop) → IsOnTheWay all rest was mid a b u v
      → AppendsFront b d mid.waiting.items → w ≡ v → IsStopped all was.waiting.items a d u w stop
  way_unwritten all rest was mid a b d u v w stop way front counted =
      subst (λ (o : Played). IsStopped o was.waiting.items a d u w stop) (sym way.whole)
      (stopped_more way.done rest was.waiting.items a d u w stop (stopped_on way.done was mid a b d u v w stop way.come front counted))

  -- none is left
  pub way_end : (all : Played) (waiting : List Cut) (was now : Player) (a b : Option (List ℕ)) (u v : ℕ) → waiting ≡ []
      → IsOnTheWay all (play c (machine_in now.session) waiting) was now a b u v → Plays all was now a b u v (Ok false)
  way_end all waiting was now a b u v none way =
      let m = (machine_in now.session) in
      let whole : all ≡ after way.done (nothing m) = way.whole ∙ ap (λ l. after way.done (play c m l)) none in
      plays_by all (after way.done (nothing m)) was now a b u v (Ok false) whole
      (come_then way.done (nothing m) was now now a b b u v v way.come (come_nothing m now b v v refl refl), refl)

  -- a part of an input that was played before a piece
  module _ (m : Machine) (bytes : List ℕ) (was mid : Player) (cutter : Cutting) (a b : Option (List ℕ)) (u v : ℕ)
      (h : HasPlayed c m bytes was mid cutter a b u v) where
    all_of : (all more : List Cut) → all ≡ ended bytes ++ more → play c m all ≡ after (play c m (ended bytes)) (play c (machine_in mid.session) more)
    all_of all more is = ap (play c m) is ∙ play_on c m (ended bytes) more h.goes_on
        ∙ ap (λ k. after (play c m (ended bytes)) (play c k more)) (sym h.come.machine)

    pub played_then : (now : Player) (d : Option (List ℕ)) (w : ℕ) (r : Result Bool Stop) (all more : List Cut) → all ≡ ended bytes ++ more
        → Plays (play c (machine_in mid.session) more) mid now b d v w r → Plays (play c m all) was now a d u w r
    played_then now d w r all more is k =
        plays_by (play c m all) (after (play c m (ended bytes)) (play c (machine_in mid.session) more)) was now a d u w r (all_of all more is)
        (plays_then (play c m (ended bytes)) (play c (machine_in mid.session) more) was mid now a b d u v w r h.come k)

    pub come_all : (now : Player) (d : Option (List ℕ)) (w : ℕ) (all more : List Cut) → all ≡ ended bytes ++ more
        → HasCome (play c (machine_in mid.session) more) mid now b d v w → HasCome (play c m all) was now a d u w
    come_all now d w all more is k =
        subst (λ (o : Played). HasCome o was now a d u w) (sym (all_of all more is))
        (come_then (play c m (ended bytes)) (play c (machine_in mid.session) more) was mid now a b d u v w h.come k)

    pub stopped_all : (d : Option (List ℕ)) (w : ℕ) (stop : Stop) (all more : List Cut) → all ≡ ended bytes ++ more
        → IsStopped (play c (machine_in mid.session) more) mid.waiting.items b d v w stop → IsStopped (play c m all) was.waiting.items a d u w stop
    stopped_all d w stop all more is k =
        subst (λ (o : Played). IsStopped o was.waiting.items a d u w stop) (sym (all_of all more is))
        (stopped_then (play c m (ended bytes)) (play c (machine_in mid.session) more) was mid a b d u v w stop h.come k)

    pub played_on : (now : Player) (d : Option (List ℕ)) (w : ℕ) (piece : List ℕ) (more : List Cut) (cut : Cutting)
        → ended (bytes ++ piece) ≡ ended bytes ++ more → StandsFor cut (bytes ++ piece) → Plays (play c (machine_in mid.session) more) mid now b d v w (Ok false)
        → HasPlayed c m (bytes ++ piece) was now cut a d u w
    played_on now d w piece more cut is stands k =
        let all = played_then now d w (Ok false) (ended (bytes ++ piece)) more is k in
        record { stands = stands; goes_on = sym all.1; come = all.0 }

  pub has_begun : (m : Machine) (bytes : List ℕ) (p : Player) (cutter : Cutting) (a : Option (List ℕ)) (u : ℕ) → bytes ≡ [] → StandsFor cutter []
      → (machine_in p.session) ≡ m → HasPlayed c m bytes p p cutter a a u u
  has_begun m bytes p cutter a u none stands same =
      subst (λ l. HasPlayed c m l p p cutter a a u u) (sym none)
      (record { stands = stands; goes_on = refl; come = come_nothing m p a u u same refl })

  -- commands behind a front change nothing of how it ended, or was stopped
  pub over_front : (m : Machine) (xs ys : List Cut) (was now : Player) (a b : Option (List ℕ)) (u v : ℕ) → Plays (play c m xs) was now a b u v (Ok true)
      → Plays (play c m (xs ++ ys)) was now a b u v (Ok true)
  over_front m xs ys was now a b u v h = plays_by (play c m (xs ++ ys)) (play c m xs) was now a b u v (Ok true) (play_over c m xs ys (sym h.1)) h

  pub stopped_front : (m : Machine) (xs ys : List Cut) (x : List ℕ) (a b : Option (List ℕ)) (u v : ℕ) (stop : Stop)
      → IsStopped (play c m xs) x a b u v stop → IsStopped (play c m (xs ++ ys)) x a b u v stop
  stopped_front m xs ys x a b u v stop h =
      let more = play_front c m xs ys in
      record {
        front = subst (AppendsFront a b) (append_assoc x (play c m xs).bytes more.0 ∙ ap (λ l. x ++ l) (sym more.1))
            (front_longer a b (x ++ (play c m xs).bytes) more.0 h.front);
        units = ⊎_elim (λ m. inl m) (λ le. inr (omega (arith, le, play_units c m xs ys))) h.units;
      }

  -- the last command, if there is one
  pub one_plays : (m : Machine) (x : Cut) (more : List Cut) (was now : Player) (a b : Option (List ℕ)) (u v : ℕ) (r : Result Bool Stop) → more ≡ x ∷ []
      → Plays (c m x) was now a b u v r → Plays (play c m more) was now a b u v r
  one_plays m x more was now a b u v r is h = plays_by (play c m more) (c m x) was now a b u v r (ap (play c m) is ∙ play_one c m x) h

  pub none_plays : (m : Machine) (more : List Cut) (p : Player) (a : Option (List ℕ)) (u : ℕ) → more ≡ [] → (machine_in p.session) ≡ m
      → Plays (play c m more) p p a a u u (Ok false)
  none_plays m more p a u is same = plays_by (play c m more) (nothing m) p p a a u u (Ok false) (ap (play c m) is)
      (come_nothing m p a u u same refl, refl)

-- a part that was stopped
pub stop_plays : (p : Played) (was now : Player) (a b : Option (List ℕ)) (u v : ℕ) (r : Result Bool Stop) (stop : Stop)
    → IsStopped p was.waiting.items a b u v stop → r ≡ Err stop → Plays p was now a b u v r
stop_plays p was now a b u v r stop h is = subst (Plays p was now a b u v) (sym is) h

-- behind a part all was written that waited, or a front
pub flushed_plays : (p : Played) (was mid now : Player) (a b d : Option (List ℕ)) (u v w : ℕ) (over : Bool) → Plays p was mid a b u v (Ok over)
    → Puts b d mid.waiting.items now.waiting.items [] → now.session ≡ mid.session → now.failed ≡ mid.failed → w ≡ v → Plays p was now a d u w (Ok over)
flushed_plays p was mid now a b d u v w over h puts session failed counted = (come_on p was mid now a b d u v w h.0 puts session failed counted, h.1)

pub unflushed : (p : Played) (was mid : Player) (a b d : Option (List ℕ)) (u v w : ℕ) (over : Bool) (stop : Stop) → Plays p was mid a b u v (Ok over)
    → AppendsFront b d mid.waiting.items → w ≡ v → IsStopped p was.waiting.items a d u w stop
unflushed p was mid a b d u v w over stop h front counted = stopped_on p was mid a b d u v w stop h.0 front counted

take_whole : (n : ℕ) (xs : List ℕ) → length xs ≤ n → take n xs ≡ xs
take_whole zero [] le = refl
take_whole zero (x ∷ xs) le = absurd (omega arith)
take_whole (suc n) [] le = refl
take_whole (suc n) (x ∷ xs) le = ap (λ l. x ∷ l) (take_whole n xs (omega arith))

-- a file that is played a piece at a time
module _ (c : Machine → Cut → Played) (stays : StaysEnded) (m : Machine) (bytes : List ℕ) (at count : ℕ) (was mid : Player) (cutter : Cutting)
    (a b : Option (List ℕ)) (u v : ℕ) (so_far : HasPlayed c m (take at bytes) was mid cutter a b u v) where
  abbrev pub file_piece : List ℕ
  file_piece = take (at + count - at) (drop at bytes)

  abbrev pub file_here : (more : List Cut) × (ended (take at bytes ++ file_piece) ≡ ended (take at bytes) ++ more)
  file_here = (stays (take at bytes) file_piece).0

  parted : take (at + count) bytes ≡ take at bytes ++ file_piece
  parted =
      let less : at + count - at ≡ count = omega arith in
      take-add at count bytes ∙ ap (λ k. take at bytes ++ take k (drop at bytes)) (sym less)

  far : (more : List Cut) × (cuts bytes ≡ ended (take at bytes ++ file_piece) ++ more)
  far =
      let rest = drop (at + count) bytes in
      let whole : (take at bytes ++ file_piece) ++ rest ≡ bytes = ap (λ l. l ++ rest) (sym parted) ∙ take-append-drop (at + count) bytes in
      let all = (stays (take at bytes ++ file_piece) rest).1 in
      (all.0, ap cuts (sym whole) ∙ all.1)

  pub file_stopped : (d : Option (List ℕ)) (w : ℕ) (stop : Stop)
      → IsStopped (play c (machine_in mid.session) file_here.0) mid.waiting.items b d v w stop → IsStopped (play c m (cuts bytes)) was.waiting.items a d u w stop
  file_stopped d w stop h =
      let front : IsStopped (play c m (ended (take at bytes ++ file_piece))) was.waiting.items a d u w stop = stopped_all c m (take at bytes) was mid cutter a b
      u v so_far d w stop (ended (take at bytes ++ file_piece)) file_here.0 file_here.1 h in
      subst (λ l. IsStopped (play c m l) was.waiting.items a d u w stop) (sym far.1)
      (stopped_front c m (ended (take at bytes ++ file_piece)) far.0 was.waiting.items a d u w stop front)

  pub file_over : (now : Player) (d : Option (List ℕ)) (w : ℕ) → Plays (play c (machine_in mid.session) file_here.0) mid now b d v w (Ok true)
      → Plays (play c m (cuts bytes)) was now a d u w (Ok true)
  file_over now d w h =
      let front : Plays (play c m (ended (take at bytes ++ file_piece))) was now a d u w (Ok true) = played_then c m (take at bytes) was mid cutter a b u v so_far
      now d w (Ok true) (ended (take at bytes ++ file_piece)) file_here.0 file_here.1 h in
      let all = over_front c m (ended (take at bytes ++ file_piece)) far.0 was now a d u w front in
      plays_by (play c m (cuts bytes)) (play c m (ended (take at bytes ++ file_piece) ++ far.0)) was now a d u w (Ok true) (ap (play c m) far.1) all

  pub file_on : (now : Player) (d : Option (List ℕ)) (w : ℕ) (cut : Cutting) → StandsFor cut (take at bytes ++ file_piece)
      → Plays (play c (machine_in mid.session) file_here.0) mid now b d v w (Ok false) → HasPlayed c m (take (at + count) bytes) was now cut a d u w
  file_on now d w cut stands h =
      subst (λ l. HasPlayed c m l was now cut a d u w) (sym parted)
      (played_on c m (take at bytes) was mid cutter a b u v so_far now d w file_piece file_here.0 cut file_here.1 stands h)

  pub file_end : (now : Player) (d : Option (List ℕ)) (w : ℕ) (r : Result Bool Stop) → length bytes ≤ at
      → ((more : List Cut) → cuts (take at bytes) ≡ ended (take at bytes) ++ more → Plays (play c (machine_in mid.session) more) mid now b d v w r)
      → Plays (play c m (cuts bytes)) was now a d u w r
  file_end now d w r past h =
      let front = take at bytes in
      let last = (stays front []).1 in
      let is : cuts front ≡ ended front ++ last.0 = ap cuts (sym (append-nil front)) ∙ last.1 in
      let same : cuts bytes ≡ ended front ++ last.0 = ap cuts (sym (take_whole at bytes past)) ∙ is in
      played_then c m front was mid cutter a b u v so_far now d w r (cuts bytes) last.0 same (h last.0 is)

pub stop_ends : (p : Played) (was now : Player) (a b : Option (List ℕ)) (u v : ℕ) (r : Result (Unit {0}) Stop) (stop : Stop)
    → IsStopped p was.waiting.items a b u v stop → r ≡ Err stop → PlaysAndEnds p was now a b u v r
stop_ends p was now a b u v r stop h is = subst (PlaysAndEnds p was now a b u v) (sym is) h

pub flushed_ends : (p : Played) (was mid now : Player) (a b d : Option (List ℕ)) (u v w : ℕ) (over : Bool) (r : Result (Unit {0}) Stop)
    → Plays p was mid a b u v (Ok over) → OnOk r (Puts b d mid.waiting.items now.waiting.items []) → OnErr r (AppendsFront b d mid.waiting.items)
    → now.session ≡ mid.session → now.failed ≡ mid.failed → w ≡ v → PlaysAndEnds p was now a d u w r
flushed_ends p was mid now a b d u v w over (Ok x) h puts err session failed counted = come_on p was mid now a b d u v w h.0 puts session failed counted
flushed_ends p was mid now a b d u v w over (Err stop) h puts err session failed counted = stopped_on p was mid a b d u v w stop h.0 err counted
