-- Where a text has a separator, and where it has none.
use Rattle.std.specs.Prelude.{◌≡◌, ℕ, ◌<◌, ◌≤◌, List, length, Option, MatchOption, ◌≢◌, slice_index}
use Rattle.fields.specs.Bytes.{line_feed}

-- no place at or after `low` and before `high` has the separator
abbrev pub IsFreeOf : ℕ → List ℕ → ℕ → ℕ → Type 0
IsFreeOf separator bs low high = (k : ℕ) → low ≤ k → k < high → slice_index bs k ≢ separator

-- the first place at or after `low` that has the separator, or none where no such place has
abbrev pub IsNext : ℕ → List ℕ → ℕ → Option ℕ → Type 0
IsNext separator bs low r =
    MatchOption r (IsFreeOf separator bs low (length bs))
    (λ i. (low ≤ i) × (i < length bs) × (slice_index bs i ≡ separator) × IsFreeOf separator bs low i)

-- the same of the byte that ends a line
abbrev pub IsNextLineFeed : List ℕ → ℕ → Option ℕ → Type 0
IsNextLineFeed bs low r = IsNext line_feed bs low r
