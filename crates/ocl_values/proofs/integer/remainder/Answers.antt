use Rattle.std.proofs.Common.{◌≡◌, ◌-ℤ◌, ◌*ℤ◌, ◌+ℤ◌, ◌<◌, ◌≤◌, ℤ, pos, negsuc, zero, suc, true, int_div, int_rem, unsigned_abs, if◌then◌else◌, ◌^◌, ap, refl}
use Rattle.std.proofs.Common.{sym, ◌∙◌, arith, rules}
use Rattle.std.proofs.lemmas.Int.{quot-rem, rem_below, ints}
use Rattle.std.proofs.lemmas.Bool.Decides.{nat_tests}
use Rattle.ocl_values.specs.Integers.{in_range, int_value, remainder}
use Rattle.ocl_values.specs.declared.value.Value.{Value}
use Rattle.ocl_values.specs.declared.value.Value.TheVariants.{Int, Invalid}
use Rattle.ocl_values.proofs.integer.remainder.Goals as goal

-- the remainder in its other form
abbrev rest_by : ℤ → ℤ → Value
rest_by a (pos zero) = Invalid
rest_by a b = if in_range (int_div a b) then Int (int_rem a b) else Invalid

small_in_range : (z : ℤ) → unsigned_abs z < 2 ^ 127 → in_range z ≡ true
small_in_range (pos n) h = grind (arith, nat_tests)
small_in_range (negsuc n) h = grind (arith, nat_tests)

left : (a q b r : ℤ) → q *ℤ b +ℤ r ≡ a → r ≡ a -ℤ q *ℤ b
left a q b r whole = omega (arith, ints, whole)

kept : (z : ℤ) → in_range z ≡ true → Int z ≡ int_value z
kept z h = sym (ap (λ b. if b then Int z else Invalid) h)

there : (a b : ℤ) → 0 < unsigned_abs b → unsigned_abs b ≤ 2 ^ 127 → Int (int_rem a b) ≡ int_value (a -ℤ int_div a b *ℤ b)
there a b some low =
    let below = rem_below a b some in
    kept (int_rem a b) (small_in_range (int_rem a b) (omega arith)) ∙ ap int_value (left a (int_div a b) b (int_rem a b) (quot-rem a b))

same : (a b : ℤ) → unsigned_abs b ≤ 2 ^ 127 → rest_by a b ≡ remainder a b
same a (pos zero) low = refl
same a (pos (suc n)) low = ap (λ v. if in_range (int_div a (pos (suc n))) then v else Invalid) (there a (pos (suc n)) (omega arith) low)
same a (negsuc n) low = ap (λ v. if in_range (int_div a (negsuc n)) then v else Invalid) (there a (negsuc n) (omega arith) low)

pub returns : goal.returns
returns c =
    let e : c.checked.result ≡ rest_by c.args.a c.args.b = search rules in
    e ∙ same c.args.a c.args.b (omega (arith, ints))
