-- The most places, by name.
use Rattle.std.specs.Prelude.{ℕ}

-- the most places among which a pool is shared
abbrev pub most_places : ℕ
most_places = 32
