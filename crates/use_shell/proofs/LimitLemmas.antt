-- What an input leads to, by a front of it.
use Rattle.std.proofs.Common.{◌≡◌, ℕ, ◌+◌, ◌-◌, ◌<◌, ◌≤◌, Bool, true, false, not, ◌&&◌, nat_lt, List, ◌++◌, length, take, refl, sym, ap, ◌∙◌, arith, if◌then◌else◌}
use Rattle.std.proofs.lemmas.List.{take-append-le}
use Rattle.std.proofs.Math.Seq.{take-append-add}
use Rattle.std.proofs.lemmas.Bool.Decides.{nat_tests}
use Rattle.use_text.specs.declared.cut.Cut.{Cut}
use Rattle.use_text.specs.Cuts.{StaysEnded, ended, cuts}
use Rattle.use_session.specs.Machine.{start}
use Rattle.use_shell.specs.declared.status.Status.TheVariants.{TooLong}
use Rattle.use_shell.specs.Output.{Ending, Setting, commands_in, ending, max_files, play_from, play_within, is_too_long, of_input_within, read}
use Rattle.use_shell.proofs.PlayLemmas.{play_over}

take_within : (limit : ℕ) (front rest : List ℕ) → length front ≤ limit → take limit (front ++ rest) ≡ front ++ take (limit - length front) rest
take_within limit front rest le =
    let e : length front + (limit - length front) ≡ limit = omega arith in
    ap (λ n. take n (front ++ rest)) (sym e) ∙ take-append-add front rest (limit - length front)

module _ (s : Setting) where
  from_over : (xs ys : List Cut) → (play_from s xs).over ≡ true → play_from s (xs ++ ys) ≡ play_from s xs
  from_over xs ys h = play_over (commands_in max_files s.files s.echo) (start s.program) xs ys h

  -- the ending by whether the input is too long
  abbrev by_length : ℕ → List ℕ → Bool → Ending
  by_length limit input t = if t then ending (play_within s limit input) TooLong else read s (play_from s (cuts input))

  -- the commands that end in a front within the limit are among those that are played
  pub fronted : StaysEnded → (limit : ℕ) (front rest : List ℕ) → length front ≤ limit
      → (more : List Cut) × ((of_input_within s limit (front ++ rest)).bytes ≡ (play_from s (ended front ++ more)).bytes)
      × ((of_input_within s limit (front ++ rest)).units ≡ (play_from s (ended front ++ more)).units)
  fronted stays limit front rest le = by_test (is_too_long s limit (front ++ rest))
    where
      by_test : (t : Bool) → (more : List Cut) × ((by_length limit (front ++ rest) t).bytes ≡ (play_from s (ended front ++ more)).bytes)
          × ((by_length limit (front ++ rest) t).units ≡ (play_from s (ended front ++ more)).units)
      by_test true =
          let longer = (stays front (take (limit - length front) rest)).0 in
          let is : ended (take limit (front ++ rest)) ≡ ended front ++ longer.0 = ap ended (take_within limit front rest le) ∙ longer.1 in
          (longer.0, ap (λ l. (play_from s l).bytes) is, ap (λ l. (play_from s l).units) is)
      by_test false =
          let longer = (stays front rest).1 in
          (longer.0, ap (λ l. (play_from s l).bytes) longer.1, ap (λ l. (play_from s l).units) longer.1)

  -- a command that ends in such a front ends the run
  pub over_ending : StaysEnded → (limit : ℕ) (front rest : List ℕ) → length front ≤ limit → (play_from s (ended front)).over ≡ true
      → of_input_within s limit (front ++ rest) ≡ read s (play_from s (ended front))
  over_ending stays limit front rest le over =
      let near = (stays front (take (limit - length front) rest)).0 in
      let far = (stays front rest).1 in
      let within : play_within s limit (front ++ rest) ≡ play_from s (ended front) = ap (play_from s) (ap ended (take_within limit front rest le)
      ∙ near.1) ∙ from_over (ended front) near.0 over in
      let short : is_too_long s limit (front ++ rest) ≡ false = not_over (nat_lt limit (length (front ++ rest))) (play_within s limit (front
      ++ rest)).over (ap (λ q. q.over) within ∙ over) in
      let whole : play_from s (cuts (front ++ rest)) ≡ play_from s (ended front) = ap (play_from s) far.1
      ∙ from_over (ended front) far.0 over in
      ap (by_length limit (front ++ rest)) short ∙ ap (read s) whole
    where
      not_over : (t u : Bool) → u ≡ true → t && not u ≡ false
      not_over true true h = refl
      not_over false true h = refl
      not_over t false h = absurd (cc)

  pub past_ending : (limit : ℕ) (input : List ℕ) → limit < length input → (play_within s limit input).over ≡ false
      → of_input_within s limit input ≡ ending (play_within s limit input) TooLong
  past_ending limit input long on = ap (by_length limit input) (both (nat_lt limit (length input)) (play_within s limit input).over past on)
    where
      past : nat_lt limit (length input) ≡ true
      past = grind (arith, nat_tests)

      both : (t u : Bool) → t ≡ true → u ≡ false → t && not u ≡ true
      both true false h k = refl
      both false u h k = absurd (cc)
      both true true h k = absurd (cc)

  pub whole_ending : (limit : ℕ) (input : List ℕ) → length input ≤ limit → of_input_within s limit input ≡ read s (play_from s (cuts input))
  whole_ending limit input short = ap (by_length limit input) (first (nat_lt limit (length input)) (not (play_within s limit input).over) within)
    where
      within : nat_lt limit (length input) ≡ false
      within = grind (arith, nat_tests)

      first : (t u : Bool) → t ≡ false → t && u ≡ false
      first false u h = refl
      first true u h = absurd (cc)

  -- bytes past the limit do not count
  pub within_more : (limit : ℕ) (taken rest : List ℕ) → limit < length taken → play_within s limit (taken ++ rest) ≡ play_within s limit taken
  within_more limit taken rest long = ap (λ l. play_from s (ended l)) (take-append-le limit taken rest (omega arith))
