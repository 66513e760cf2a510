-- What a reader of a text answers, whatever the text spells.
use Rattle.std.specs.Prelude.{◌≡◌, ℕ, List, Option, MatchOption, ◌≢◌}

-- some x exactly where the bytes are the text of a good x
abbrev pub Reads : {X : Type 0} → (X → Type 0) → (X → List ℕ) → List ℕ → Option X → Type 0
Reads {X} Good text bs r =
    MatchOption r ((x : X) → Good x → bs ≢ text x) (λ x. Good x × (bs ≡ text x))
