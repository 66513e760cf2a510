-- What a reading, a meter change and a correction do to a register.
use Rattle.std.specs.Prelude.{◌≤◌, ◌≡◌, ℕ, ◌-◌, Bool, not, ◌||◌, if◌then◌else◌, ℤ, pos, ◌+ℤ◌, nat_abs, nat_le, nat_lt, Option, Some, None, is_none, Ok, Err, Result}
use Rattle.std.specs.Option.{ok_or}
use Rattle.calendar.specs.Gregorian.{lies_in}
use Rattle.group.specs.Results.{and_then, result_map}
use Rattle.group.specs.declared.refusal.BookRefusal.{BookRefusal}
use Rattle.group.specs.declared.refusal.BookRefusal.TheVariants.{Day, Value, Below, Tally}
use Rattle.group.specs.declared.register.Register.{Register}

-- the kWh that a value tells, of a register that stands at another, or none where it is below
unfoldable pub quantity : (standing value : ℕ) → Option ℕ
quantity standing value = if nat_le standing value then Some (value - standing) else None

-- the largest value of a register, which has seven digits, in kWh
abbrev pub most_standing : ℕ
most_standing = 9999999

-- the largest tally and the largest correction, in kWh either way
abbrev pub most_tally : ℕ
most_tally = 1000000

-- the day belongs to another month
abbrev pub day_is_outside : (month day : ℕ) → Bool
day_is_outside month day = not (lies_in day month)

-- of a value that a register can stand at, the quantity is one that a register can show, whatever it stood at before
abbrev pub QuantitiesHaveSevenDigits : Type 0
QuantitiesHaveSevenDigits =
    (standing value kwh : ℕ) → value ≤ most_standing → quantity standing value ≡ Some kwh
    → kwh ≤ most_standing

-- no register of seven digits can stand at the value
abbrev pub is_over : ℕ → Bool
is_over value = nat_lt most_standing value

-- no register can stand at the value, or none at the one from which it goes on
abbrev pub value_is_too_large : (value start : ℕ) → Bool
value_is_too_large value start = is_over value || is_over start

-- the value is below the one that the register stands at
abbrev pub value_is_below : (standing value : ℕ) → Bool
value_is_below standing value = is_none (quantity standing value)

-- a tally or a correction is beyond 1,000,000 kWh either way
abbrev pub is_beyond : ℤ → Bool
is_beyond kwh = nat_lt most_tally (nat_abs kwh)

-- a tally and a quantity together
abbrev pub tally_with : (tally quantity : ℤ) → Result ℤ BookRefusal
tally_with tally quantity =
    if is_beyond (tally +ℤ quantity) then Err Tally else Ok (tally +ℤ quantity)

-- the register with the quantity of a value in its tally, which from then on stands at the start value
abbrev pub with_value : (value start : ℕ) → Register → Result Register BookRefusal
with_value value start register =
    and_then (ok_or (quantity register.standing value) Below) (λ kwh.
    result_map (λ tally. record { standing = start; tally = tally }) (tally_with register.tally (pos kwh)))

-- the register after a value is read of it on a day of the month; from then on it stands at the start value,
-- which is the same value for a reading, and that of the new meter for a change
abbrev pub with_reading : (month day value start : ℕ) → Register → Result Register BookRefusal
with_reading month day value start register =
    if day_is_outside month day then Err Day
    else (if value_is_too_large value start then Err Value
    else with_value value start register)

-- the register after a correction of its tally, where it stands as before
abbrev pub with_correction : ℤ → Register → Result Register BookRefusal
with_correction kwh register =
    if is_beyond kwh then Err Value
    else result_map (λ tally. record register { tally = tally }) (tally_with register.tally kwh)

-- a register as it opens: nothing is tallied
abbrev pub opened_register : (standing : ℕ) → Register
opened_register standing = record { standing = standing; tally = pos 0 }
