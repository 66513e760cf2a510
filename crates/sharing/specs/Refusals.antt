-- The refusals of this crate: the number of each, what it stands for, and what a call answers and leaves.
use Rattle.std.specs.Prelude.{ℕ, Bool, if◌then◌else◌, not, ◌||◌, List, ◌++◌, length, Ok, Err, codes, decimal, sum, Result, ◌==◌, nat_lt}
use Rattle.std.specs.List.{list_any}
use Rattle.sharing.specs.Limits.{most_places}
use Rattle.sharing.specs.declared.refusal.ShareRefusal.{ShareRefusal}
use Rattle.sharing.specs.declared.refusal.ShareRefusal.TheVariants.{Count, Size}
use Rattle.sharing.specs.declared.parts_refusal.PartsRefusal.{PartsRefusal}
use Rattle.sharing.specs.declared.parts_refusal.PartsRefusal.TheVariants.{Parts}

-- a refusal's number, its meaning in words, and the test of a call's input that it stands for
pub record Meaning (Test : Type 0) : Type 0 where
  pub number : ℕ
  pub words : List ℕ
  pub stands : Test

-- a need is over 2,000,000 kWh
abbrev pub some_need_over : List ℕ → Bool
some_need_over needs = list_any (nat_lt 2000000) needs

-- the refusals of a rule's call, by its pool, its needs and the number of places for shares
abbrev pub meaning : ShareRefusal → Meaning (ℕ → List ℕ → ℕ → Bool)
meaning Count = record {
  number = 7;
  words = codes "there are not 1 to 32 needs, or not as many places for shares";
  stands = λ pool needs places. nat_lt (length needs) 1 || nat_lt most_places (length needs) || not (places == length needs);
}
meaning Size = record {
  number = 8;
  words = codes "the pool is over 1000000000 kWh or a need over 2000000 kWh";
  stands = λ pool needs places. nat_lt 1000000000 pool || some_need_over needs;
}

-- the refusal of the call that sets the parts, by their list in ten-thousandths
abbrev pub parts_meaning : PartsRefusal → Meaning (List ℕ → Bool)
parts_meaning Parts = record {
  number = 9;
  words = codes "there are not 32 parts, or they add up to over 10000";
  stands = λ parts. not ((length parts) == most_places) || nat_lt 10000 (sum parts);
}

-- a refusal as it is printed
abbrev pub refusal_text : {Test : Type 0} → Meaning Test → List ℕ
refusal_text m = decimal m.number ++ (codes ": " ++ m.words)

-- the answer of a rule's call: the first refusal that stands, else done
abbrev pub answer : ℕ → List ℕ → ℕ → Result (Unit {0}) ShareRefusal
answer pool needs places =
    if (meaning Count).stands pool needs places then Err Count
    else (if (meaning Size).stands pool needs places then Err Size else Ok tt)

-- the answer of the call that sets the parts
abbrev pub parts_answer : List ℕ → Result (Unit {0}) PartsRefusal
parts_answer parts = if (parts_meaning Parts).stands parts then Err Parts else Ok tt

-- what a list holds after a call that writes it anew or refuses: the new list, or what it held before
abbrev pub list_after : {E : Type 0} → Result (Unit {0}) E → List ℕ → List ℕ → List ℕ
list_after (Ok done) new before = new
list_after (Err refusal) new before = before
