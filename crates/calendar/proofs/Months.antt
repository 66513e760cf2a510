-- Months follow one another, and a day lies in one of them.
use Rattle.std.proofs.Common.{◌≡◌, ℕ, zero, suc, ◌+◌, ◌-◌, ◌<◌, ◌≤◌, true, cond, get_or, refl, ap, ⊎_elim, add-zero, add-suc, add-one, arith}
use Rattle.std.proofs.lemmas.List.Elements.{All-from_recursion, All-get_or}
use Rattle.std.proofs.lemmas.Bool.{and_parts, cases_order, cond_both, leb-true, ltb-true}
use Rattle.calendar.specs.Gregorian.{first_day, is_leap, length_of, lengths, lies_in}

abbrev Usual : ℕ → Type 0
Usual n = (28 ≤ n) × (n ≤ 31)

february : (year : ℕ) → Usual (cond (is_leap year) 29 28)
february year = cond_both (is_leap year) 29 28 Usual (λ _. (omega arith, omega arith)) (λ _. (omega arith, omega arith))

-- a month has 28 to 31 days
pub usual_length : (year place : ℕ) → place < 12 → Usual (get_or (lengths year) place 0)
usual_length year place within =
    let long : Usual 31 = (omega arith, omega arith) in
    let short : Usual 30 = (omega arith, omega arith) in
    All-get_or Usual (lengths year) place 0 within
    (All-from_recursion Usual (lengths year)
    (long, (february year, (long, (short, (long, (short, (long, (long, (short, (long, (short, (long, tt)))))))))))))

first_later : (month k : ℕ) → first_day month ≤ first_day (month + k)
first_later month zero = omega (arith, ap first_day (add-zero month))
first_later month (suc k) = omega (arith, first_later month k, ap first_day (add-suc month k))

pub first_mono : (a b : ℕ) → a ≤ b → first_day a ≤ first_day b
first_mono a b le =
    let apart : a + (b - a) ≡ b = omega arith in
    omega (arith, first_later a (b - a), ap first_day apart)

-- the next month begins as many days on as this one has
pub first_next : (month : ℕ) → first_day (month + 1) ≡ first_day month + length_of month
first_next month = ap first_day (add-one month)

-- a day lies in one month
pub one_month : (m n day : ℕ) → first_day m ≤ day → day < first_day (m + 1) → first_day n ≤ day → day < first_day (n + 1) → m ≡ n
one_month m n day m-begun m-ahead n-begun n-ahead =
    ⊎_elim (λ same. same)
    (⊎_elim (λ before. absurd (omega (arith, first_mono (m + 1) n (omega arith)))) (λ after. absurd (omega (arith, first_mono (n + 1) m (omega arith)))))
    (cases_order m n)

pub last_first : first_day 1200 ≡ 36525
last_first = refl

-- so does a month that the test finds
pub only_month : (month day : ℕ) → first_day month ≤ day → day < first_day (month + 1) → (m : ℕ) → lies_in day m ≡ true → m ≡ month
only_month month day begun ahead m lies =
    let found = and_parts _ _ (and_parts _ _ lies).1 in
    one_month m month day (leb-true _ _ found.0) (ltb-true _ _ found.1) begun ahead
