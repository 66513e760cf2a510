-- A schedule of prices: which row is in force in a month, and the price by it.
use Rattle.std.specs.Prelude.{All, ◌≡◌, ℕ, Bool, true, false, if◌then◌else◌, List, ◌∷◌, ◌++◌, Some, None, fold, Option, nat_le}
use Rattle.tariff.specs.Charges.{stored_price}
use Rattle.tariff.specs.declared.class.Class.{Class}
use Rattle.tariff.specs.declared.row.ScheduleRow.{ScheduleRow}
use Rattle.tariff.specs.declared.service.Service.{Service}

-- a row has begun in its first month and in every month after it
abbrev pub has_begun : ℕ → ScheduleRow → Bool
has_begun month row = nat_le row.first_month month

-- the row in force: the last in the list that has begun, whatever the order of the first months
abbrev pub in_force : ℕ → List ScheduleRow → Option ScheduleRow
in_force month = fold (λ last row. if has_begun month row then Some row else last) None

-- the row is one of the rows and has begun, and none after it in the list has
pub record IsLastBegun (month : ℕ) (rows : List ScheduleRow) (row : ScheduleRow) : Type 0 where
  pub before : List ScheduleRow
  pub after : List ScheduleRow
  pub stands : rows ≡ before ++ (row ∷ after)
  pub begun : has_begun month row ≡ true
  pub none_later : All (λ later. has_begun month later ≡ false) after

-- which row is in force, told by the rows alone; where it is none, none of them has begun
abbrev pub IsInForce : ℕ → List ScheduleRow → Option ScheduleRow → Type 0
IsInForce month rows (Some row) = IsLastBegun month rows row
IsInForce month rows None = All (λ row. has_begun month row ≡ false) rows

-- the row in force in any month is so told, whatever the rows
abbrev pub IsInForceByRows : Type 0
IsInForceByRows = (month : ℕ) (rows : List ScheduleRow) → IsInForce month rows (in_force month rows)

-- the stored price by the row in force, which is 0 where there is none
abbrev pub scheduled_price : Option ScheduleRow → Service → Class → ℕ
scheduled_price (Some row) service class = stored_price row.prices service class
scheduled_price None service class = 0
