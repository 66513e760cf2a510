-- The bytes that part a text and stand in its numbers and dates.
use Rattle.std.specs.Prelude.{ℕ}

-- what parts the fields of a line
abbrev pub comma : ℕ
comma = 44

-- what ends a line
abbrev pub line_feed : ℕ
line_feed = 10

-- what stands for a missing field, before a number below 0, and in a date
abbrev pub hyphen : ℕ
hyphen = 45
