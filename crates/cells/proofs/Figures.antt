-- How many digits a number is written with.
use Rattle.std.proofs.Common.{◌≡◌, ℕ, zero, suc, ◌+◌, ◌*◌, ◌/◌, ◌%◌, ◌^◌, ◌<◌, ◌≤◌, decimal, length, ap, ◌∙◌, arith}
use Rattle.std.proofs.lemmas.Fmt.{decimal_nonempty, decimal_step, length-decimal-le}
use Rattle.std.proofs.lemmas.List.{length_push}
use Rattle.std.proofs.Math.Nat.{pow-succ'}

-- from 10 on a number has one digit more than its tenth
length_step : (n : ℕ) → 10 ≤ n → n < 2 ^ 64 → length (decimal n) ≡ length (decimal (n / 10)) + 1
length_step n large fits = ap length (decimal_step n large fits) ∙ length_push (decimal (n / 10)) (48 + n % 10)

power_positive : (k : ℕ) → 1 ≤ 10 ^ k
power_positive zero = omega arith
power_positive (suc k) = omega (arith, power_positive k, pow-succ' 10 k)

-- a number from a power of 10 on has more digits than the power says
more_digits : (k n : ℕ) → 10 ^ k ≤ n → n < 2 ^ 64 → k + 1 ≤ length (decimal n)
more_digits zero n from fits = omega (arith, decimal_nonempty n fits)
more_digits (suc k) n from fits =
    let power = pow-succ' 10 k in
    let some = power_positive k in
    omega (arith, length_step n (omega arith) fits, more_digits k (n / 10) (omega arith) (omega arith))

-- between two powers of 10 that follow each other the lower one tells how many digits there are
pub digits_by_power : (k n : ℕ) → 10 ^ k ≤ n → n < 10 * 10 ^ k → n < 2 ^ 64 → length (decimal n) ≡ k + 1
digits_by_power k n from below fits =
    let power = pow-succ' 10 k in
    omega (arith, more_digits k n from fits, length-decimal-le (suc k) n (omega arith) (omega arith) fits)
