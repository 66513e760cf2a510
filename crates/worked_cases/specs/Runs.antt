-- Worked cases of whole runs over the group of two: from the literal bytes of a journal to the literal bytes of its output.
use Rattle.std.specs.Prelude.{◌≡◌, ℕ, List, [], ◌∷◌, ◌++◌, None, Option, Some, codes}
use Rattle.std.specs.List.{concat}
use Rattle.group.specs.declared.group.Group.{Group}
use Rattle.group.specs.declared.group.Phase.TheVariants.{Open}
use Rattle.settlement.specs.Faults.{fault_line}
use Rattle.settlement.specs.Runs.{RunResult, RunsOver}
use Rattle.settlement.specs.declared.fault.RunFault.{RunFault}
use Rattle.sharing.specs.Rules.{proportion}
use Rattle.two.specs.Two.{prices, group_of_two}

-- the line of the fault that a run stops at, or nothing
abbrev pub told : Option RunFault → List ℕ
told None = []
told (Some fault) = fault_line fault

-- a run by proportion and at the prices of the group of two
abbrev pub TwoRuns : (room : ℕ) → Group → (journal : List ℕ) → RunResult → Type 0
TwoRuns room group journal ran = RunsOver proportion (λ month. prices) journal room group ran

-- what a run comes to has this text, and this line of a fault or none
abbrev pub Tells : (text fault : List ℕ) → RunResult → Type 0
Tells text fault ran = (ran.text ≡ text) × (told ran.fault ≡ fault)

-- the run of a journal comes to this text and this line of a fault, and to nothing else
pub record RunsTo (room : ℕ) (group : Group) (journal text fault : List ℕ) : Type 0 where
  pub to_this : (ran : RunResult) × TwoRuns room group journal ran × Tells text fault ran
  pub to_nothing_else : (ran : RunResult) → TwoRuns room group journal ran → Tells text fault ran

-- the journal of January 2024
abbrev pub month_journal : List ℕ
month_journal = concat
    (codes "kind,member,zone,flow,value,second,date\n"
    ∷ codes "READ,0,DAY,GIVE,900,-,2024-01-31\n"
    ∷ codes "READ,0,DAY,USE,200,-,2024-01-31\n"
    ∷ codes "READ,1,DAY,USE,1000,-,2024-01-31\n"
    ∷ codes "READ,1,NIGHT,USE,33,-,2024-01-31\n"
    ∷ codes "ISSUE,-,-,-,-,-,-\n" ∷ [])

-- its bills: of the household's 1,000 kWh by day the 700 that the holder has over are covered and 300 billed, and by night 33;
-- 300 × 45.00 + 700 × 10.00 + 33 × 35.07 drams are 21,657.31
abbrev pub month_bills : List ℕ
month_bills = concat
    (codes "line,month,place,dayb,nightb,dayc,nightc,drams,debt\n"
    ∷ codes "BILL,2024-01,0,0,0,0,0,0,0\n"
    ∷ codes "BILL,2024-01,1,300,33,700,0,21657,21657\n" ∷ [])

-- a month, whole
abbrev pub SettlesMonth : Type 0
SettlesMonth = RunsTo 65536 group_of_two month_journal month_bills []

-- the group of two in December 2023, with 100 kWh carried by day and 40 by night
abbrev pub december : Group
december = record group_of_two { carried = record { day = 100; night = 40 }; phase = Open 287 }

-- its journal: an entry of each kind, the issue and the year's end
abbrev pub year_journal : List ℕ
year_journal = concat
    (codes "kind,member,zone,flow,value,second,date\n"
    ∷ codes "READ,0,DAY,GIVE,500,-,2023-12-31\n"
    ∷ codes "SWAP,1,DAY,USE,300,5,2023-12-10\n"
    ∷ codes "READ,1,DAY,USE,105,-,2023-12-31\n"
    ∷ codes "CORR,1,NIGHT,USE,33,-,-\n"
    ∷ codes "CORR,0,NIGHT,USE,-7,-,-\n"
    ∷ codes "PAY,1,-,-,1000,-,-\n"
    ∷ codes "ISSUE,-,-,-,-,-,-\n"
    ∷ codes "YEAR,-,-,-,-,-,-\n" ∷ [])

-- its bills, where the household's 300 and 100 kWh by day are covered by 600, and its 33 by night by 47; then the holder is
-- paid 200 × 20.00 + 14 × 15.00 drams
abbrev pub year_bills : List ℕ
year_bills = concat
    (codes "line,month,place,dayb,nightb,dayc,nightc,drams,debt\n"
    ∷ codes "BILL,2023-12,0,0,0,0,0,0,0\n"
    ∷ codes "BILL,2023-12,1,0,0,400,33,4330,3330\n"
    ∷ codes "YEAR,2023-12,0,200,14,-,-,-4210,-4210\n" ∷ [])

-- a month with its year's end, whole
abbrev pub SettlesYear : Type 0
SettlesYear = RunsTo 65536 december year_journal year_bills []

-- the group of two in December 2023, with 5 kWh carried by day
abbrev pub scarce : Group
scarce = record group_of_two { carried = record { day = 5; night = 0 }; phase = Open 287 }

-- its journal: each member needs 3 kWh by day, and there are 5
abbrev pub scarce_journal : List ℕ
scarce_journal = concat
    (codes "kind,member,zone,flow,value,second,date\n"
    ∷ codes "READ,0,DAY,USE,3,-,2023-12-31\n"
    ∷ codes "READ,1,DAY,USE,3,-,2023-12-31\n"
    ∷ codes "ISSUE,-,-,-,-,-,-\n" ∷ [])

-- its bills: the first is covered for ⌊5 · 3 / 6⌋ and the second for the rest, where line order would cover 3 and 2;
-- 1 × 45.00 + 2 × 10.00 and 3 × 10.00 drams
abbrev pub scarce_bills : List ℕ
scarce_bills = concat
    (codes "line,month,place,dayb,nightb,dayc,nightc,drams,debt\n"
    ∷ codes "BILL,2023-12,0,1,0,2,0,65,65\n"
    ∷ codes "BILL,2023-12,1,0,0,3,0,30,30\n" ∷ [])

-- a month whose pool does not reach for all needs
abbrev pub SettlesScarceMonth : Type 0
SettlesScarceMonth = RunsTo 65536 scarce scarce_journal scarce_bills []

-- a journal of the line of names and this
abbrev pub journal_of : List ℕ → List ℕ
journal_of body = codes "kind,member,zone,flow,value,second,date\n" ++ body

-- its run stops at the line of this fault, with nothing written but the line of names of the output
abbrev pub StopsWith : (room : ℕ) → Group → (body fault : List ℕ) → Type 0
StopsWith room group body fault =
    RunsTo room group (journal_of body)
    (codes "line,month,place,dayb,nightb,dayc,nightc,drams,debt\n") fault

-- a reading of a place without a record is refused by 13 of the book, and one on a 29 February of 2023 by 26 at field 7
pub record TellsFault : Type 0 where
  pub of_the_book : StopsWith 65536 group_of_two (codes "READ,2,DAY,USE,200,-,2024-01-31\n")
      (codes "FAULT,2,0,BOOK,13\n")
  pub of_a_field : StopsWith 65536 group_of_two (codes "READ,0,DAY,GIVE,900,-,2023-02-29\n")
      (codes "FAULT,2,7,TEXT,26\n")
