-- What each of the three rules makes of a pool and a list of needs.
use Rattle.std.specs.Prelude.{ℕ, ◌+◌, ◌-◌, ◌*◌, ◌/◌, min, List, [], ◌∷◌, sum}
use Rattle.sharing.specs.Law.{plus, less}

-- the first takes its need, as far as there is so much, and those behind it share the rest in the same way
abbrev pub line_order : ℕ → List ℕ → List ℕ
line_order left [] = []
line_order left (need ∷ needs) = min left need ∷ line_order (left - need) needs

-- how much of what is given falls to the first of all needs, counted in kWh and rounded down; a quotient by 0 is 0
abbrev pub portion : (given all first : ℕ) → ℕ
portion given all first = (given * first) / all

-- each place gets the portion of the needs up to and with its own, less the portion of the needs before it
abbrev pub portions : (given all before : ℕ) → List ℕ → List ℕ
portions given all before [] = []
portions given all before (need ∷ needs) =
    (portion given all (before + need) - portion given all before) ∷ portions given all (before + need) needs

-- what is given is the smaller of the pool and all needs; as differences of one row, the shares add up to it
abbrev pub proportion : ℕ → List ℕ → List ℕ
proportion pool needs = portions (min pool (sum needs)) (sum needs) 0 needs

-- what a place gets ahead of the others: the smaller of its need and its part of the pool, in ten-thousandths
abbrev pub ahead : (pool part need : ℕ) → ℕ
ahead pool part need = min need ((pool * part) / 10000)

-- the same at every place; a place past the list of parts has none
abbrev pub reserved : (pool : ℕ) (parts needs : List ℕ) → List ℕ
reserved pool parts [] = []
reserved pool [] (need ∷ needs) = 0 ∷ reserved pool [] needs
reserved pool (part ∷ parts) (need ∷ needs) = ahead pool part need ∷ reserved pool parts needs

-- what goes ahead at each place, and on top of it what the rule below makes of the rest of the pool and of the needs
abbrev pub with_parts : (below : ℕ → List ℕ → List ℕ) (parts : List ℕ) → ℕ → List ℕ → List ℕ
with_parts below parts pool needs =
    let first = reserved pool parts needs in
    plus first (below (pool - sum first) (less needs first))
