-- A source that is played a piece at a time.
use Rattle.std.proofs.Common.{◌≡◌, ℕ, ◌+◌, ◌-◌, ◌<◌, ◌≤◌, min, Bool, true, false, ◌||◌, List, [], ◌++◌, length, take, drop, Option, Some, None, refl, sym, ap, ◌∙◌, subst, append_assoc, append-nil, arith, length-append, Result, Ok, Err, inl, inr, ⊎_elim}
use Rattle.std.proofs.lemmas.List.{take-append-drop, length-take-le, take-take}
use Rattle.std.proofs.Math.Seq.{take-append_seam}
use Rattle.std.specs.Option.{ForSome}
use Rattle.std.specs.Io.KnownBytes.{Appends, Consumes, Keeps, IsAtEnd}
use Rattle.use_io.specs.Shelves.{Files}
use Rattle.use_text.specs.declared.cut.Cut.{Cut}
use Rattle.use_text.specs.Cuts.{StaysEnded, ended, cuts}
use Rattle.use_text.specs.Keeping.{Cutting, StandsFor}
use Rattle.ocl_core.specs.declared.program.ProgramParts.{ProgramParts}
use Rattle.use_session.specs.Answering.{machine_in}
use Rattle.use_session.specs.Machine.{Machine, start}
use Rattle.use_shell.specs.declared.player.Player.{Player}
use Rattle.use_shell.specs.declared.status.Status.{Status}
use Rattle.use_shell.specs.declared.status.Status.TheVariants.{TooLong}
use Rattle.use_shell.specs.declared.stop.Stop.{Stop}
use Rattle.use_shell.specs.declared.stop.Stop.TheVariants.{Memory as Wanting}
use Rattle.use_shell.specs.Output.{Ending, Played, Setting, commands_in, max_files, max_piece, of_input_within, play, play_from, play_within, read, read_status}
use Rattle.use_shell.specs.Endings.{AppendsFront}
use Rattle.use_shell.specs.Plays.{HasCome, IsCutOff, IsFrontOf, IsHalted, IsStopped, IsStreaming, Plays, Puts, Streams, Wrote, given}
use Rattle.use_shell.proofs.MoveLemmas.{front_of_none, consumes_then, consumes_kept, consumes_nothing}
use Rattle.use_shell.proofs.LimitLemmas.{fronted, whole_ending}
use Rattle.use_shell.proofs.WayLemmas.{come_all, has_begun, played_on, played_then, stopped_all, stopped_front}

take_front : (m n : ℕ) (xs : List ℕ) → m ≤ n → take m (take n xs) ≡ take m xs
take_front m n xs le = take-take m n xs le

regroup : (w x y z : List ℕ) → (w ++ (x ++ y)) ++ z ≡ (w ++ x) ++ (y ++ z)
regroup w x y z = simp append_assoc

at_end : (now : Option (List ℕ)) (rest : List ℕ) → now ≡ Some rest → IsAtEnd now → rest ≡ []
at_end None rest is end = cc
at_end (Some xs) rest is end = cc

-- all that was answered was written
written_all : (a b : Option (List ℕ)) (x y bytes : List ℕ) → x ≡ [] → y ≡ [] → Puts a b x y bytes → Appends a b bytes
written_all a b x y bytes none empty h =
    let is : bytes ≡ h.put = sym (ap (λ l. l ++ bytes) none) ∙ h.whole ∙ ap (λ l. h.put ++ l) empty ∙ append-nil h.put in
    subst (Appends a b) (sym is) h.written

pub wrote : (q : Played) (was now : Player) (a b : Option (List ℕ)) (u v : ℕ) → was.waiting.items ≡ [] → was.failed ≡ false → now.waiting.items ≡ []
    → HasCome q was now a b u v → Wrote q now.failed a b u v
wrote q was now a b u v none passed empty h = record {
  same = h.failed ∙ ap (λ t. t || q.failed) passed;
  written = written_all a b was.waiting.items now.waiting.items q.bytes none empty h.puts;
  units = h.units;
}

module _ (files : Option Files) (p : ProgramParts) (echo strict : Bool) where
  abbrev c : Files → Machine → Cut → Played
  c held = commands_in max_files held echo

  abbrev s : Files → Setting
  s held = given p echo strict held

  pub started : (was : Player) (cutter : Cutting) (left old : Option (List ℕ)) (u : ℕ) → StandsFor cutter [] → (machine_in was.session) ≡ start p
      → IsStreaming files c (start p) 0 was was cutter left left old old u u
  started was cutter left old u stands machine = record {
    taken = [];
    from = consumes_nothing left;
    counted = refl;
    played = λ held told. has_begun (c held) (start p) [] was cutter old u refl stands machine;
  }

  -- where a run has come
  module _ (limit n : ℕ) (was player : Player) (cutter : Cutting) (left mid old a : Option (List ℕ)) (u v : ℕ)
      (at : IsStreaming files c (start p) n was player cutter left mid old a u v) (few : n ≤ limit) (none : was.waiting.items ≡ []) (passed : was.failed ≡ false)
    where
      -- the source failed
      pub cut_off : (now b : Option (List ℕ)) (w : ℕ) → Keeps mid now → a ≡ b → v ≡ w → player.waiting.items ≡ [] → IsCutOff files s limit left now old b u w
      cut_off now b w keeps same counted empty = record {
        taken = at.taken;
        from = consumes_kept left mid now at.taken at.from keeps;
        within = omega (arith, at.counted);
        answered = λ held told.
            let done = wrote (play_from (s held) (ended at.taken)) was player old a u v none passed empty (at.played held told).come in
            record {
              goes_on = (at.played held told).goes_on;
              written = subst (λ x. Appends old x (play_from (s held) (ended at.taken)).bytes) same done.written;
              units = sym counted ∙ done.units;
            };
      }

      -- the source has ended
      module _ (stays : StaysEnded) (now b : Option (List ℕ)) (from : Consumes mid now []) (end : IsAtEnd now) where
        whole_from : Consumes left now at.taken
        whole_from = subst (Consumes left now) (append-nil at.taken) (consumes_then left mid now at.taken [] at.from from)

        abbrev last_commands : (more : List Cut) × (cuts (at.taken ++ []) ≡ ended at.taken ++ more)
        last_commands = (stays at.taken []).1

        last_is : cuts at.taken ≡ ended at.taken ++ last_commands.0
        last_is = ap cuts (sym (append-nil at.taken)) ∙ last_commands.1

        pub whole : (next : Player) (w : ℕ) (status : Status) → status ≡ read_status strict next.failed → next.waiting.items ≡ []
            → ForSome files (λ held. (bytes : List ℕ) (more : List Cut) → StandsFor cutter bytes → cuts bytes ≡ ended bytes ++ more
            → HasCome (play (c held) (machine_in player.session) more) player next a b v w) → Streams files s strict limit left now old b u w (Ok status)
        whole next w status is empty last = inl (
          next.failed,
          is,
          inl (record {
            taken = at.taken;
            from = whole_from;
            end = end;
            within = omega (arith, at.counted);
            goes_on = λ held told. (at.played held told).goes_on;
            wrote = λ held told.
                let so_far = at.played held told in
                let come = last held told at.taken last_commands.0 so_far.stands last_is in
                wrote (play_from (s held) (cuts at.taken)) was next old b u w none passed empty
                (come_all (c held) (start p) at.taken was player cutter old a u v so_far next b w (cuts at.taken) last_commands.0 last_is come);
          }),
        )

        short_enough : length at.taken ≤ limit
        short_enough = omega (arith, at.counted)

        -- what is left at the end is nothing
        ending_here : (held : Files) (rest : List ℕ) → now ≡ Some rest → of_input_within (s held) limit (at.taken ++ rest)
            ≡ read (s held) (play_from (s held) (cuts at.taken))
        ending_here held rest is = ap (λ l. of_input_within (s held) limit (at.taken ++ l)) (at_end now rest is end)
            ∙ ap (of_input_within (s held) limit) (append-nil at.taken) ∙ whole_ending (s held) limit at.taken short_enough

        pub halted_at_end : (w : ℕ) (stop : Stop)
            → ForSome files (λ held. (bytes : List ℕ) (more : List Cut) → StandsFor cutter bytes → cuts bytes ≡ ended bytes ++ more
            → IsStopped (play (c held) (machine_in player.session) more) player.waiting.items a b v w stop) → IsHalted files s limit left now old b u w stop
        halted_at_end w stop last = record {
          taken = at.taken;
          from = whole_from;
          short = omega (arith, at.counted);
          front = λ held told rest is.
              let so_far = at.played held told in
              let ends = last held told at.taken last_commands.0 so_far.stands last_is in
              let k : IsStopped (play_from (s held) (cuts at.taken)) was.waiting.items old b u w stop = stopped_all (c held) (start p) at.taken was player cutter
              old a u v so_far b w stop (cuts at.taken) last_commands.0 last_is ends in
              subst (λ (e : Ending). IsFrontOf e old b u w stop) (sym (ending_here held rest is))
              (record { front = subst (λ l. AppendsFront old b (l ++ (play_from (s held) (cuts at.taken)).bytes)) none k.front; units = k.units });
        }

      -- a piece was taken, and of it so many bytes are played
      module _ (stays : StaysEnded) (buf : List ℕ) (count within : ℕ) (now b : Option (List ℕ)) (from : Consumes mid now (take count buf))
          (fits : count ≤ length buf) (is : within ≡ min count (limit - n)) (size : length buf ≤ max_piece) where
        abbrev piece : List ℕ
        piece = take within buf

        abbrev rest_of_piece : List ℕ
        rest_of_piece = drop within (take count buf)

        parted : take count buf ≡ piece ++ rest_of_piece
        parted = sym (take-append-drop within (take count buf)) ∙ ap (λ l. l ++ rest_of_piece) (take_front within count buf (omega arith))

        piece_length : length piece ≡ within
        piece_length = length-take-le within buf (omega arith)

        part_short : length (piece ++ rest_of_piece) ≤ max_piece
        part_short = omega (arith, ap length parted, length-take-le count buf fits, size)

        taken_short : length (at.taken ++ (piece ++ rest_of_piece)) ≤ limit + max_piece
        taken_short = omega (arith, at.counted, part_short, length-append at.taken (piece ++ rest_of_piece))

        all_from : Consumes left now (at.taken ++ (piece ++ rest_of_piece))
        all_from = subst (λ l. Consumes left now (at.taken ++ l)) parted (consumes_then left mid now at.taken (take count buf) at.from from)

        short : length (at.taken ++ piece) ≤ limit
        short = omega (arith, at.counted, piece_length, length-append at.taken piece)

        abbrev here : (more : List Cut) × (ended (at.taken ++ piece) ≡ ended at.taken ++ more)
        here = (stays at.taken piece).0

        -- what playing it gave
        abbrev PlaysHere : Player → ℕ → Result Bool Stop → Type 0
        PlaysHere next w r = ForSome files (λ held. (bytes : List ℕ) (more : List Cut) → StandsFor cutter bytes → ended (bytes ++ piece) ≡ ended bytes ++ more
            → Plays (play (c held) (machine_in player.session) more) player next a b v w r)

        all_plays : (next : Player) (w : ℕ) (r : Result Bool Stop) → PlaysHere next w r
            → ForSome files (λ held. Plays (play_from (s held) (ended (at.taken ++ piece))) was next old b u w r)
        all_plays next w r on held told =
            let so_far = at.played held told in
            played_then (c held) (start p) at.taken was player cutter old a u v so_far next b w r (ended (at.taken ++ piece)) here.0 here.1
            (on held told at.taken here.0 so_far.stands here.1)

        -- a command in it ended the run
        pub ended_in : (next : Player) (w : ℕ) (status : Status) → status ≡ read_status strict next.failed → next.waiting.items ≡ []
            → PlaysHere next w (Ok true) → Streams files s strict limit left now old b u w (Ok status)
        ended_in next w status is empty on = inl (
          next.failed,
          is,
          inr (record {
            before = at.taken;
            front = piece;
            rest = rest_of_piece;
            taken = all_from;
            within = short;
            short = part_short;
            over = λ held told.
                let all = all_plays next w (Ok true) on held told in
                record {
                  goes_on = (at.played held told).goes_on;
                  over = sym all.1;
                  wrote = wrote (play_from (s held) (ended (at.taken ++ piece))) was next old b u w none passed empty all.0;
                };
          }),
        )

        -- it has more bytes than an input may have
        pub past : (next : Player) (w : ℕ) → next.waiting.items ≡ [] → PlaysHere next w (Ok false) → within < count
            → Streams files s strict limit left now old b u w (Ok TooLong)
        past next w empty on less =
            let full : within ≡ limit - n = omega arith in
            let total : length (at.taken ++ piece) ≡ limit = omega (arith, at.counted, piece_length, length-append at.taken piece) in
            let all : at.taken ++ (piece ++ rest_of_piece) ≡ (at.taken ++ piece) ++ rest_of_piece = sym (append_assoc at.taken piece rest_of_piece) in
            let front : take limit (at.taken ++ (piece ++ rest_of_piece)) ≡ at.taken ++ piece = ap (take limit) all ∙ ap (λ k. take k ((at.taken ++ piece)
            ++ rest_of_piece)) (sym total) ∙ take-append_seam (at.taken ++ piece) rest_of_piece in
            inr (
              refl,
              record {
                taken = at.taken ++ (piece ++ rest_of_piece);
                from = all_from;
                past = omega (arith, at.counted, ap length parted, length-take-le count buf fits, length-append at.taken (piece ++ rest_of_piece));
                short = taken_short;
                goes = λ held told.
                    let done = all_plays next w (Ok false) on held told in
                    let played : play_within (s held) limit (at.taken ++ (piece ++ rest_of_piece)) ≡ play_from (s held) (ended (at.taken ++ piece))
                    = ap (λ l. play_from (s held) (ended l)) front in
                    let out = wrote (play_from (s held) (ended (at.taken ++ piece))) was next old b u w none passed empty done.0 in
                    record {
                      goes_on = ap (λ q. q.over) played ∙ sym done.1;
                      written = subst (λ (q : Played). Appends old b q.bytes) (sym played) out.written;
                      units = out.units ∙ ap (λ q. u + q.units) (sym played);
                    };
              },
            )

        -- what stopped the run came while it was played
        pub halted_in : (w : ℕ) (stop : Stop)
            → ForSome files (λ held. (bytes : List ℕ) (more : List Cut) → StandsFor cutter bytes → ended (bytes ++ piece) ≡ ended bytes ++ more
            → IsStopped (play (c held) (machine_in player.session) more) player.waiting.items a b v w stop) → IsHalted files s limit left now old b u w stop
        halted_in w stop on = record {
          taken = at.taken ++ (piece ++ rest_of_piece);
          from = all_from;
          short = taken_short;
          front = λ held told rest is.
              let so_far = at.played held told in
              let all : (at.taken ++ (piece ++ rest_of_piece)) ++ rest ≡ (at.taken ++ piece) ++ (rest_of_piece
              ++ rest) = regroup at.taken piece rest_of_piece rest in
              let more = fronted (s held) stays limit (at.taken ++ piece) (rest_of_piece ++ rest) short in
              let k : IsStopped (play_from (s held) (ended (at.taken ++ piece))) was.waiting.items old b u w stop = stopped_all (c held) (start p) at.taken was
              player cutter old a u v so_far b w stop (ended (at.taken ++ piece)) here.0 here.1 (on held told at.taken here.0 so_far.stands here.1) in
              let longer : IsStopped (play_from (s held) (ended (at.taken ++ piece) ++ more.0)) was.waiting.items old b u w stop = stopped_front (c held)
              (start p) (ended (at.taken ++ piece)) more.0 was.waiting.items old b u w stop k in
              let bytes : (of_input_within (s held) limit ((at.taken ++ (piece ++ rest_of_piece)) ++ rest)).bytes
              ≡ (play_from (s held) (ended (at.taken ++ piece) ++ more.0)).bytes = ap (λ l. (of_input_within (s held) limit l).bytes) all ∙ more.1 in
              let units : (of_input_within (s held) limit ((at.taken ++ (piece ++ rest_of_piece)) ++ rest)).units
              ≡ (play_from (s held) (ended (at.taken ++ piece) ++ more.0)).units = ap (λ l. (of_input_within (s held) limit l).units) all ∙ more.2 in
              record {
                front = subst (AppendsFront old b) (ap (λ l. l ++ (play_from (s held) (ended (at.taken ++ piece) ++ more.0)).bytes) none ∙ sym bytes) longer.front;
                units = ⊎_elim (λ m. inl m) (λ le. inr (omega (arith, le, units))) longer.units;
              };
        }

        -- the run goes on behind it
        pub goes_on : (next : Player) (w : ℕ) (cut : Cutting) → ((bytes : List ℕ) → StandsFor cutter bytes → StandsFor cut (bytes ++ piece))
            → PlaysHere next w (Ok false) → count ≤ within → IsStreaming files c (start p) (n + count) was next cut left now old b u w
        goes_on next w cut stands on enough =
            let e : within ≡ count = omega arith in
            let whole : Consumes mid now piece = subst (λ k. Consumes mid now (take k buf)) (sym e) from in
            record {
              taken = at.taken ++ piece;
              from = consumes_then left mid now at.taken piece at.from whole;
              counted = omega (arith, at.counted, e, piece_length, length-append at.taken piece);
              played = λ held told.
                  let so_far = at.played held told in
                  played_on (c held) (start p) at.taken was player cutter old a u v so_far next b w piece here.0 cut here.1 (stands at.taken so_far.stands)
                  (on held told at.taken here.0 so_far.stands here.1);
            }

  -- a run that was cut off: a front of its answers was written
  pub cut_halted : StaysEnded → (limit : ℕ) (left now old new : Option (List ℕ)) (u w : ℕ) (stop : Stop) → IsCutOff files s limit left now old new u w
      → IsHalted files s limit left now old new u w stop
  cut_halted stays limit left now old new u w stop h = record {
    taken = h.taken;
    from = h.from;
    short = omega (arith, h.within);
    front = λ held told rest is.
        let more = fronted (s held) stays limit h.taken rest h.within in
        let k : IsStopped (play_from (s held) (ended h.taken)) [] old new u w stop = record {
          front = record {
            front = (play_from (s held) (ended h.taken)).bytes;
            rest = [];
            whole = sym (append-nil (play_from (s held) (ended h.taken)).bytes);
            written = (h.answered held told).written;
          };
          units = inr (omega (arith, (h.answered held told).units));
        } in
        let longer : IsStopped (play_from (s held) (ended h.taken ++ more.0)) [] old new u w stop = stopped_front (c held) (start p) (ended h.taken) more.0 []
        old new u w stop k in
        record {
          front = subst (AppendsFront old new) (sym more.1) longer.front;
          units = ⊎_elim (λ m. inl m) (λ le. inr (omega (arith, le, more.2))) longer.units;
        };
  }

  -- a run that did not begin, since memory was wanting
  pub not_begun : (limit : ℕ) (left old : Option (List ℕ)) (u : ℕ) (r : Result Status Stop) → r ≡ Err Wanting
      → Streams files s strict limit left left old old u u r
  not_begun limit left old u r is =
      subst (Streams files s strict limit left left old old u u) (sym is) (record {
        taken = [];
        from = consumes_nothing left;
        short = omega arith;
        front = λ held told rest is. record { front = front_of_none old (of_input_within (s held) limit rest).bytes; units = inl refl };
      })

  pub halted_streams : (limit : ℕ) (left now old new : Option (List ℕ)) (u w : ℕ) (r : Result Status Stop) (stop : Stop)
      → IsHalted files s limit left now old new u w stop → r ≡ Err stop → Streams files s strict limit left now old new u w r
  halted_streams limit left now old new u w r stop h is = subst (Streams files s strict limit left now old new u w) (sym is) h
