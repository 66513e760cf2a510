-- The law of every sharing rule.
use Rattle.std.specs.Prelude.{◌≡◌, ℕ, ◌+◌, ◌-◌, ◌≤◌, min, List, [], ◌∷◌, length, sum, slice_index}

-- each need has a share, and none a larger one than it asks for; together they use up the pool, or meet all needs where these are less
pub record SharingLaw (pool : ℕ) (needs shares : List ℕ) : Type 0 where
  pub as_many : length shares ≡ length needs
  pub within : (place : ℕ) → slice_index shares place ≤ slice_index needs place
  pub whole : sum shares ≡ min pool (sum needs)

-- the sum of two lists place by place; where one list has ended, the other goes on alone
abbrev pub plus : List ℕ → List ℕ → List ℕ
plus [] ys = ys
plus (x ∷ xs) [] = x ∷ xs
plus (x ∷ xs) (y ∷ ys) = (x + y) ∷ plus xs ys

-- what is left of each place's amount after another is taken from it
abbrev pub less : List ℕ → List ℕ → List ℕ
less [] ys = []
less (x ∷ xs) [] = x ∷ xs
less (x ∷ xs) (y ∷ ys) = (x - y) ∷ less xs ys
