-- What a call leaves as it was: an entry alters the record that it is for alone, and a year closing that of the holder.
use Rattle.std.specs.Prelude.{◌≡◌, ◌≢◌, ℕ, Ok}
use Rattle.ledger.specs.declared.bill.YearEnd.{YearEnd}
use Rattle.ledger.specs.declared.entry.Entry.{Entry}
use Rattle.group.specs.Entries.{after_entry, place_of}
use Rattle.group.specs.Groups.{member_at}
use Rattle.group.specs.Months.{Prices}
use Rattle.group.specs.Years.{closing_result}
use Rattle.group.specs.declared.group.Group.{Group}

-- every place but one has the record that it had, and the group has its number and its holder
pub record AltersOne (place : ℕ) (old new : Group) : Type 0 where
  pub others : (other : ℕ) → other ≢ place → member_at other new ≡ member_at other old
  pub number : new.number ≡ old.number
  pub holder : new.holder ≡ old.holder

-- so it is of the place that an entry is for; the carried balances and the phase stay, too
pub record EntersOne (entry : Entry) (old new : Group) : Type 0 where
  pub one : AltersOne (place_of entry) old new
  pub carried : new.carried ≡ old.carried
  pub phase : new.phase ≡ old.phase

-- no accepted entry alters another record than that of its place
abbrev pub EntriesAlterOne : Type 0
EntriesAlterOne =
    (entry : Entry) (old new : Group) → after_entry entry old ≡ Ok new → EntersOne entry old new

-- no year closing alters another record than that of the holder
abbrev pub YearsAlterTheHolder : Type 0
YearsAlterTheHolder =
    (prices : ℕ → Prices) (old new : Group) (figures : YearEnd) → closing_result prices old ≡ Ok (figures, new)
    → AltersOne old.holder old new
