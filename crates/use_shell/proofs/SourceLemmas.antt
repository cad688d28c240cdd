-- What a run over a source did is what the definitions say of its whole input.
use Rattle.std.proofs.Common.{◌≡◌, ℕ, ◌+◌, ◌<◌, ◌≤◌, Bool, true, false, List, ◌++◌, length, Option, Some, None, Result, Ok, Err, IfOk, IsErrOf, refl, sym, ap, ◌∙◌, subst, append_assoc, append-nil, length-append, ◌⊎◌, inl, inr, ⊎_elim, arith, if◌then◌else◌}
use Rattle.std.specs.Io.KnownBytes.{Appends}
use Rattle.use_io.specs.Shelves.{Files}
use Rattle.use_text.specs.Cuts.{StaysEnded, ended, cuts}
use Rattle.ocl_core.specs.declared.program.ProgramParts.{ProgramParts}
use Rattle.use_shell.specs.declared.status.Status.{Status}
use Rattle.use_shell.specs.declared.status.Status.TheVariants.{Done, TooLong, Strict}
use Rattle.use_shell.specs.declared.stop.Stop.{Stop}
use Rattle.use_shell.specs.declared.stop.Stop.TheVariants.{Memory as Wanting}
use Rattle.use_shell.specs.Output.{Ending, Setting, ending, max_input, max_piece, of_input, is_too_long, play_from, play_within, read, read_status}
use Rattle.use_shell.specs.Endings.{AnswersTaken, AppendsFront, EndsWith, IsBounded, IsReadOut, IsTaken, IsLong}
use Rattle.use_shell.specs.Finishes.{CommandsEnd, IsPlayed}
use Rattle.use_shell.specs.Plays.{IsCutOff, IsEnded, IsHalted, IsPast, IsWhole, Streams, given}
use Rattle.use_shell.proofs.LimitLemmas.{over_ending, past_ending, whole_ending, within_more}

regroup : (w x y z : List ℕ) → (w ++ (x ++ y)) ++ z ≡ (w ++ x) ++ (y ++ z)
regroup w x y z = simp append_assoc

-- a read status tells whether something failed
strict_fails : (strict failed : Bool) → read_status strict failed ≡ Strict → failed ≡ true
strict_fails true true h = refl
strict_fails true false h = absurd (cc)
strict_fails false failed h = absurd (cc)

done_passes : (strict failed : Bool) → read_status strict failed ≡ Done → strict ≡ true → failed ≡ false
done_passes true false h k = refl
done_passes true true h k = absurd (cc)
done_passes false failed h k = absurd (cc)

read_is_short : (strict failed : Bool) → read_status strict failed ≡ TooLong → ⊥
read_is_short true true h = cc
read_is_short true false h = cc
read_is_short false failed h = cc

not_read : (status : Status) → TooLong ≡ status → IsReadOut status → ⊥
not_read status is out = subst IsReadOut (sym is) out

-- what a status says of the input
record Says (input : List ℕ) (status : Status) (s : Setting) : Type 0 where
  too_long : status ≡ TooLong → is_too_long s max_input input ≡ true
  within : IsReadOut status → is_too_long s max_input input ≡ false
  failed : status ≡ Strict → (play_from s (cuts input)).failed ≡ true
  not_failed : status ≡ Done → s.strict ≡ true → (play_from s (cuts input)).failed ≡ false

says : (input : List ℕ) (status : Status) (s : Setting) → (of_input s input).status ≡ status → Says input status s
says input status s same = by_test (is_too_long s max_input input) refl same
  where
    by_test : (t : Bool) → is_too_long s max_input input ≡ t
        → (if t then ending (play_within s max_input input) TooLong else read s (play_from s (cuts input))).status ≡ status → Says input status s
    by_test true is h = record {
      too_long = λ k. is;
      within = λ k. absurd (not_read status h k);
      failed = λ k. absurd (cc);
      not_failed = λ k l. absurd (cc);
    }
    by_test false is h = record {
      too_long = λ k. absurd (read_is_short s.strict (play_from s (cuts input)).failed (h ∙ k));
      within = λ k. is;
      failed = λ k. strict_fails s.strict (play_from s (cuts input)).failed (h ∙ k);
      not_failed = λ k l. done_passes s.strict (play_from s (cuts input)).failed (h ∙ k) l;
    }

module _ (s : Setting) where
  -- a run that ended by what the machine says of the input
  by_ending : (input : List ℕ) (now old new : Option (List ℕ)) (u w : ℕ) (e : Ending) (status : Status) → e ≡ of_input s input → e.status ≡ status
      → Appends old new e.bytes → w ≡ u + e.units → (IsReadOut status → IsTaken (Some input) now s)
      → CommandsEnd (Some input) now old new u w (Ok status) s
  by_ending input now old new u w e status is same written counted taken =
      let all = says input status s (ap (λ (x : Ending). x.status) (sym is) ∙ same) in
      let units : e.units ≡ (of_input s input).units = ap (λ (x : Ending). x.units) is in
      record {
        bytes = subst (λ (x : Ending). EndsWith x status old new) is (record { same = same; written = written });
        too_long = all.too_long;
        within = all.within;
        failed = all.failed;
        not_failed = all.not_failed;
        taken = taken;
        units = inr (omega (arith, counted, units));
      }

  untold : (now old new : Option (List ℕ)) (u w : ℕ) (status : Status) → (IsReadOut status → IsTaken None now s)
      → CommandsEnd None now old new u w (Ok status) s
  untold now old new u w status taken = record {
    bytes = tt;
    too_long = λ k. tt;
    within = λ k. tt;
    failed = λ k. tt;
    not_failed = λ k l. tt;
    taken = taken;
    units = inr tt;
  }

units_of : (stop : Stop) (w m n : ℕ) → m ≡ n → (stop ≡ Wanting) ⊎ (w ≤ m) → IsErrOf {T = Status} (Err stop) Wanting ⊎ w ≤ n
units_of stop w m n same (inl wanting) = inl (ap Err wanting)
units_of stop w m n same (inr le) = inr (omega (arith, le, same))

module _ (files : Option Files) (p : ProgramParts) (echo strict : Bool) (held : Files) (told : files ≡ Some held) where
  abbrev s : Files → Setting
  s o = given p echo strict o

  to_end : (left now old new : Option (List ℕ)) (u w : ℕ) (failed : Bool) → IsWhole files s max_input failed left now old new u w
      → IsTaken left now (s held)
  to_end left now old new u w failed h = inl (record { taken = h.taken; from = h.from; end = h.end; goes_on = h.goes_on held told })

  whole_run : (left now old new : Option (List ℕ)) (u w : ℕ) (failed : Bool) (status : Status) → status ≡ read_status strict failed
      → IsWhole files s max_input failed left now old new u w → CommandsEnd left now old new u w (Ok status) (s held)
  whole_run None now old new u w failed status is h =
      untold (s held) now old new u w status (λ k. to_end None now old new u w failed h)
  whole_run (Some input) None old new u w failed status is h = absurd h.from
  whole_run (Some input) (Some ys) old new u w failed status is h =
      let done = h.wrote held told in
      let q = play_from (s held) (cuts h.taken) in
      let all : h.taken ≡ input = sym (h.from ∙ ap (λ l. h.taken ++ l) h.end ∙ append-nil h.taken) in
      by_ending (s held) input (Some ys) old new u w (read (s held) q) status
      (sym (whole_ending (s held) max_input h.taken h.within) ∙ ap (of_input (s held)) all)
      (ap (read_status strict) (sym done.same) ∙ sym is) done.written done.units
      (λ k. to_end (Some input) (Some ys) old new u w failed h)

  ended_run : StaysEnded → (left now old new : Option (List ℕ)) (u w : ℕ) (failed : Bool) (status : Status) → status ≡ read_status strict failed
      → IsEnded files s max_input failed left now old new u w → CommandsEnd left now old new u w (Ok status) (s held)
  ended_run stays None now old new u w failed status is h =
      let over = h.over held told in
      untold (s held) now old new u w status (λ k. inr (record {
        before = h.before;
        front = h.front;
        rest = h.rest;
        taken = h.taken;
        short = h.short;
        goes_on = over.goes_on;
        over = over.over;
      }))
  ended_run stays (Some input) None old new u w failed status is h = absurd h.taken
  ended_run stays (Some input) (Some ys) old new u w failed status is h =
      let over = h.over held told in
      let q = play_from (s held) (ended (h.before ++ h.front)) in
      let all : (h.before ++ h.front) ++ (h.rest ++ ys) ≡ input = sym (h.taken ∙ regroup h.before h.front h.rest ys) in
      by_ending (s held) input (Some ys) old new u w (read (s held) q) status
      (sym (over_ending (s held) stays max_input (h.before ++ h.front) (h.rest ++ ys) h.within over.over) ∙ ap (of_input (s held)) all)
      (ap (read_status strict) (sym over.wrote.same) ∙ sym is) over.wrote.written over.wrote.units (λ k. inr (record {
        before = h.before;
        front = h.front;
        rest = h.rest;
        taken = h.taken;
        short = h.short;
        goes_on = over.goes_on;
        over = over.over;
      }))

  past_run : (left now old new : Option (List ℕ)) (u w : ℕ) (status : Status) → status ≡ TooLong → IsPast files s max_input left now old new u w
      → CommandsEnd left now old new u w (Ok status) (s held)
  past_run None now old new u w status is h = untold (s held) now old new u w status (λ k. absurd (not_read status (sym is) k))
  past_run (Some input) None old new u w status is h = absurd h.from
  past_run (Some input) (Some ys) old new u w status is h =
      let goes = h.goes held told in
      let more = within_more (s held) max_input h.taken ys h.past in
      let long : max_input < length (h.taken ++ ys) = omega (arith, h.past, length-append h.taken ys) in
      let on : (play_within (s held) max_input (h.taken ++ ys)).over ≡ false = ap (λ q. q.over) more ∙ goes.goes_on in
      let e : ending (play_within (s held) max_input h.taken) TooLong ≡ of_input (s held) input = ap (λ q. ending q TooLong) (sym more)
      ∙ sym (past_ending (s held) max_input (h.taken ++ ys) long on) ∙ ap (of_input (s held)) (sym h.from) in
      by_ending (s held) input (Some ys) old new u w (ending (play_within (s held) max_input h.taken) TooLong) status e (sym is) goes.written goes.units
      (λ k. absurd (not_read status (sym is) k))

  halted_run : (left now old new : Option (List ℕ)) (u w : ℕ) (stop : Stop) → IsHalted files s max_input left now old new u w stop
      → CommandsEnd left now old new u w (Err stop) (s held)
  halted_run None now old new u w stop h =
      record { bytes = tt; too_long = tt; within = tt; failed = tt; not_failed = tt; taken = tt; units = inr tt }
  halted_run (Some input) None old new u w stop h = absurd h.from
  halted_run (Some input) (Some ys) old new u w stop h =
      let k = h.front held told ys refl in
      record {
        bytes = subst (λ l. AppendsFront old new (of_input (s held) l).bytes) (sym h.from) k.front;
        too_long = tt;
        within = tt;
        failed = tt;
        not_failed = tt;
        taken = tt;
        units = units_of stop w (u + (of_input (s held) (h.taken ++ ys)).units) (u + (of_input (s held) input).units)
            (ap (λ l. u + (of_input (s held) l).units) (sym h.from)) k.units;
      }

  pub commands_end : StaysEnded → (left now old new : Option (List ℕ)) (u w : ℕ) (r : Result Status Stop)
      → Streams files s strict max_input left now old new u w r → CommandsEnd left now old new u w r (s held)
  commands_end stays left now old new u w (Ok status) h =
      ⊎_elim (λ k. ⊎_elim (whole_run left now old new u w k.0 status k.1) (ended_run stays left now old new u w k.0 status k.1) k.2)
      (λ k. past_run left now old new u w status k.0 k.1) h
  commands_end stays left now old new u w (Err stop) h = halted_run left now old new u w stop h

  pub answers_taken : (left now old new : Option (List ℕ)) (u w : ℕ) → IsCutOff files s max_input left now old new u w
      → AnswersTaken left now old new (s held)
  answers_taken left now old new u w h =
      let done = h.answered held told in record { taken = h.taken; from = h.from; goes_on = done.goes_on; written = done.written }

-- what is known of every run
read_played : (strict failed : Bool) → IsPlayed (read_status strict failed)
read_played true true = tt
read_played true false = tt
read_played false failed = tt

module _ (files : Option Files) (s : Files → Setting) (strict : Bool) (left now old new : Option (List ℕ)) (u w : ℕ) where
  pub run_played : (r : Result Status Stop) → Streams files s strict max_input left now old new u w r → IfOk r IsPlayed
  run_played (Ok status) h =
      ⊎_elim (λ k. subst IsPlayed (sym k.1) (read_played strict k.0)) (λ k. subst IsPlayed (sym k.0) tt) h
  run_played (Err stop) h = tt

  strict_asked : (t failed : Bool) → read_status t failed ≡ Strict → t ≡ true
  strict_asked true failed h = refl
  strict_asked false failed h = absurd (cc)

  pub run_strict : (r : Result Status Stop) → Streams files s strict max_input left now old new u w r → IfOk r (λ status. status ≡ Strict → strict ≡ true)
  run_strict (Ok status) h =
      ⊎_elim (λ k is. strict_asked strict k.0 (sym k.1 ∙ is)) (λ k is. absurd (cc)) h
  run_strict (Err stop) h = tt

  long_of : (l n : Option (List ℕ)) → IsPast files s max_input l n old new u w → IsLong l
  long_of None n h = tt
  long_of (Some input) None h = absurd h.from
  long_of (Some input) (Some ys) h =
      let is : length input ≡ length h.taken + length ys = ap length h.from ∙ length-append h.taken ys in
      omega (arith, is, h.past)

  pub run_long : (r : Result Status Stop) → Streams files s strict max_input left now old new u w r → IfOk r (λ status. status ≡ TooLong → IsLong left)
  run_long (Ok status) h =
      ⊎_elim (λ k is. absurd (read_is_short strict k.0 (sym k.1 ∙ is))) (λ k is. long_of left now k.1) h
  run_long (Err stop) h = tt

  ended_bounded : (failed : Bool) → IsEnded files s max_input failed left now old new u w → IsBounded left now
  ended_bounded failed h = record {
    taken = h.before ++ (h.front ++ h.rest);
    from = h.taken;
    short = omega (arith, h.within, h.short, length-append h.before (h.front ++ h.rest), length-append h.before h.front);
  }

  pub run_bounded : (r : Result Status Stop) → Streams files s strict max_input left now old new u w r → IsBounded left now
  run_bounded (Ok status) h =
      ⊎_elim (λ k. ⊎_elim (λ x. record { taken = x.taken; from = x.from; short = omega (arith, x.within) }) (ended_bounded k.0) k.2)
      (λ k. record { taken = k.1.taken; from = k.1.from; short = k.1.short }) h
  run_bounded (Err stop) h = record { taken = h.taken; from = h.from; short = h.short }
