-- The line of names of a journal.
use Rattle.std.specs.Borrow.{Bor}
use Rattle.std.specs.Prelude.{◌≡◌, ℕ, List, ◌++◌, codes, Option, MatchOption, ◌≢◌}

-- the line of names of a journal
abbrev pub journal_names : List ℕ
journal_names = codes "kind,member,zone,flow,value,second,date\n"

-- what follows the line of names, or none where the bytes do not begin with it
abbrev pub IsAfterNames : List ℕ → Option (Bor (List ℕ)) → Type 0
IsAfterNames text r =
    MatchOption r ((rest : List ℕ) → text ≢ journal_names ++ rest)
    (λ x. text ≡ journal_names ++ x.now)
