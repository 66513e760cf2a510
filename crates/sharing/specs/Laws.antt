-- What a rule gives one place, told by the pool, the needs and the parts alone: laws above the definitions of the rules.
use Rattle.std.specs.Prelude.{◌≡◌, ℕ, ◌+◌, ◌-◌, ◌*◌, ◌/◌, ◌<◌, ◌≤◌, min, List, length, sum, take, slice_index}
use Rattle.sharing.specs.Rules.{line_order, proportion, with_parts}

-- by line order a place has the smaller of its need and what the needs before it leave of the pool
abbrev pub ServesInOrder : Type 0
ServesInOrder =
    (pool : ℕ) (needs : List ℕ) (place : ℕ)
    → slice_index (line_order pool needs) place ≡ min (slice_index needs place) (pool - sum (take place needs))

-- the share is less than 1 kWh away from the exact part, given * need / all
pub record IsWithinOne (given all need share : ℕ) : Type 0 where
  pub above : all * share < given * need + all
  pub below : given * need < all * share + all

-- by proportion every share is so near to its part of what is given, where there is a need at all
abbrev pub SharesWithinOne : Type 0
SharesWithinOne =
    (pool : ℕ) (needs : List ℕ) (place : ℕ) → 0 < sum needs
    → IsWithinOne (min pool (sum needs)) (sum needs) (slice_index needs place) (slice_index (proportion pool needs) place)

-- by proportion a share is the part of what is given that falls to the needs up to and with its place, rounded down, less
-- the part that falls to the needs before it, rounded down; without any need both are quotients by 0, which are 0
abbrev pub RoundsRunningSums : Type 0
RoundsRunningSums =
    (pool : ℕ) (needs : List ℕ) (place : ℕ)
    → let all = sum needs in
    let given = min pool all in
    slice_index (proportion pool needs) place
    ≡ (given * sum (take (place + 1) needs)) / all - (given * sum (take place needs)) / all

-- by parts, over whatever rule, a place has at least the smaller of its need and its part of the pool, rounded down
abbrev pub PartsGoAhead : Type 0
PartsGoAhead =
    (below : ℕ → List ℕ → List ℕ) (parts : List ℕ) (pool : ℕ) (needs : List ℕ) (place : ℕ)
    → min (slice_index needs place) ((pool * slice_index parts place) / 10000)
    ≤ slice_index (with_parts below parts pool needs) place

-- what goes ahead to each place: the smaller of its need and its part of the pool, rounded down; past the parts it is 0
pub record GoesAhead (pool : ℕ) (parts needs first : List ℕ) : Type 0 where
  pub as_many : length first ≡ length needs
  pub each : (place : ℕ)
      → slice_index first place
      ≡ min (slice_index needs place) ((pool * slice_index parts place) / 10000)

-- what is left of each need after that
pub record IsLeft (needs first rest : List ℕ) : Type 0 where
  pub as_many : length rest ≡ length needs
  pub each : (place : ℕ)
      → slice_index rest place ≡ slice_index needs place - slice_index first place

-- a place has what goes ahead to it, and what the rule below gives it of the pool and the needs that are left
pub record AddsToRest (below : ℕ → List ℕ → List ℕ) (parts : List ℕ) (pool : ℕ) (needs : List ℕ)
    : Type 0 where
  pub first : List ℕ
  pub rest : List ℕ
  pub goes_ahead : GoesAhead pool parts needs first
  pub is_left : IsLeft needs first rest
  pub each : (place : ℕ)
      → slice_index (with_parts below parts pool needs) place
      ≡ slice_index first place + slice_index (below (pool - sum first) rest) place

-- by parts, over whatever rule, every share is made up so
abbrev pub PartsAddToRest : Type 0
PartsAddToRest =
    (below : ℕ → List ℕ → List ℕ) (parts : List ℕ) (pool : ℕ) (needs : List ℕ)
    → AddsToRest below parts pool needs
