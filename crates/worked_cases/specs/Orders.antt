-- The order in which a call tests its input: an input in which a refusal holds with those after it that can hold beside it is
-- answered by it, and so on down to one that is accepted. And the edges of the tests: the last input that is taken, and the
-- first that is not.
use Rattle.std.specs.Prelude.{◌≡◌, ℕ, ◌<◌, ℤ, pos, negsuc, IsOk, List, [], ◌∷◌, ◌++◌, length, replicate, Ok, Err, Result, codes}
use Rattle.billing.specs.Zones.{zone_answer}
use Rattle.group.specs.Groups.{blank}
use Rattle.group.specs.Members.{opened_flows, opened_member, opening_record}
use Rattle.group.specs.Registers.{opened_register}
use Rattle.group.specs.declared.group.Group.{Group}
use Rattle.group.specs.declared.group.Phase.{Phase}
use Rattle.group.specs.declared.group.Phase.TheVariants.{Open, Over, YearEnd}
use Rattle.group.specs.declared.member.Member.{Member}
use Rattle.group.specs.declared.member.OpeningRecord.{OpeningRecord}
use Rattle.group.specs.declared.refusal.BookRefusal.{BookRefusal}
use Rattle.group.specs.declared.refusal.BookRefusal.TheVariants as book
use Rattle.ledger.specs.declared.bill.Bill.{Bill}
use Rattle.ledger.specs.declared.entry.Entry.{Entry}
use Rattle.ledger.specs.declared.entry.Entry.TheVariants.{Change, Correction, Payment, Reading}
use Rattle.ledger.specs.declared.entry.MemberRegister.{MemberRegister}
use Rattle.ledger.specs.declared.zone.ByFlow.{ByFlow}
use Rattle.ledger.specs.declared.zone.Flow.TheVariants.{Consumed}
use Rattle.ledger.specs.declared.zone.Zone.TheVariants.{Day}
use Rattle.worked_cases.specs.Runs.{RunsTo, StopsWith, journal_of}
use Rattle.sharing.specs.Refusals.{answer, parts_answer}
use Rattle.sharing.specs.Rules.{proportion}
use Rattle.sharing.specs.declared.parts_refusal.PartsRefusal.TheVariants.{Parts}
use Rattle.sharing.specs.declared.refusal.ShareRefusal.TheVariants as sharing
use Rattle.group.specs.Books.{after_opening}
use Rattle.group.specs.Drafts.{Stamp, drawing_result, issue_result}
use Rattle.group.specs.Entries.{after_entry}
use Rattle.group.specs.Results.{result_map}
use Rattle.group.specs.Years.{closing_result, preview_result}
use Rattle.tariff.specs.declared.class.Class.TheVariants.{Household}
use Rattle.two.specs.Two.{household, prices, producer, group_of_two}

-- ---- a rule's call, the settling of a zone, and setting the parts

-- a pool and a need that are too large, shared to two places
pub record SharingRefusesInOrder : Type 0 where
  pub count : answer 1000000001 (2000001 ∷ []) 2 ≡ Err sharing.Count
  pub size : answer 1000000001 (2000001 ∷ []) 1 ≡ Err sharing.Size
  pub accepted : answer 1000000000 (2000000 ∷ []) 1 ≡ Ok tt
  pub zone_count : zone_answer 1000000001 (pos 2000001 ∷ []) 1 2 ≡ Err sharing.Count
  pub zone_size : zone_answer 1000000001 (pos 2000001 ∷ []) 1 1 ≡ Err sharing.Size
  pub zone_accepted : zone_answer 1000000000 (pos 2000000 ∷ []) 1 1 ≡ Ok tt
  pub parts_few : parts_answer (replicate 31 10000) ≡ Err Parts
  pub parts_much : parts_answer (10001 ∷ replicate 31 0) ≡ Err Parts
  pub parts_accepted : parts_answer (10000 ∷ replicate 31 0) ≡ Ok tt

-- ---- opening

-- so many records of so many kW, each with all registers at so many kWh
abbrev alike : (records capacity standing : ℕ) → List OpeningRecord
alike records capacity standing = replicate records (opening_record capacity Household (record {
  day = record { consumed = standing; delivered = standing };
  night = record { consumed = standing; delivered = standing };
}))

-- 33 records, each of 151 kW, from past the last month on, with a holder at none of their places and registers of eight digits
pub record OpeningRefusesInOrder : Type 0 where
  pub opened : after_opening 7 1200 33 (alike 33 151 10000000) group_of_two ≡ Err book.Opened
  pub count : after_opening 7 1200 33 (alike 33 151 10000000) blank ≡ Err book.Count
  pub start : after_opening 7 1200 33 (alike 32 151 10000000) blank ≡ Err book.Start
  pub capacity : after_opening 7 1199 33 (alike 32 151 10000000) blank ≡ Err book.Capacity
  pub capacities : after_opening 7 1199 33 (alike 32 33 10000000) blank ≡ Err book.Capacity
  pub holder : after_opening 7 1199 33 (alike 32 32 10000000) blank ≡ Err book.Holder
  pub register : after_opening 7 1199 31 (alike 32 32 10000000) blank ≡ Err book.Register
  pub accepted : IsOk (after_opening 7 1199 31 (alike 32 32 9999999) blank)
  pub two_opens : after_opening 7 288 0 (producer ∷ household ∷ []) blank ≡ Ok group_of_two

-- what an opening in a month comes to, with a holder and these records
abbrev opening_in : (start holder : ℕ) → List OpeningRecord → Result Group BookRefusal
opening_in start holder records = after_opening 7 start holder records blank

-- so many kWh that are consumed, and so many that are delivered
abbrev flows : (consumed delivered : ℕ) → ByFlow ℕ
flows consumed delivered = record { consumed = consumed; delivered = delivered }

-- one record of 1 kW whose registers open at these kWh
abbrev opened_at : (day night : ByFlow ℕ) → List OpeningRecord
opened_at day night = opening_record 1 Household (record { day = day; night = night }) ∷ []

-- how many records there may be, what capacities, which holder and month, and what each register may open at
pub record OpeningHasEdges : Type 0 where
  pub no_record : opening_in 288 0 [] ≡ Err book.Count
  pub one_record : IsOk (opening_in 288 0 (alike 1 1 0))
  pub records_of_32 : IsOk (opening_in 288 0 (alike 32 1 0))
  pub records_of_33 : opening_in 288 0 (alike 33 1 0) ≡ Err book.Count
  pub last_month : IsOk (opening_in 1199 0 (alike 1 1 0))
  pub no_month_more : opening_in 1200 0 (alike 1 1 0) ≡ Err book.Start
  pub capacity_of_151 : opening_in 288 0 (alike 1 151 0) ≡ Err book.Capacity
  pub capacities_of_1050 : IsOk (opening_in 288 0 (alike 7 150 0))
  pub capacities_of_1051 : opening_in 288 0 (alike 7 150 0 ++ alike 1 1 0) ≡ Err book.Capacity
  pub holder_of_0 : opening_in 288 1 (producer ∷ household ∷ []) ≡ Err book.Holder
  pub registers : IsOk (opening_in 288 0 (opened_at (flows 9999999 9999999) (flows 9999999 9999999)))
  pub day_consumed : opening_in 288 0 (opened_at (flows 10000000 0) (flows 0 0)) ≡ Err book.Register
  pub day_delivered : opening_in 288 0 (opened_at (flows 0 10000000) (flows 0 0)) ≡ Err book.Register
  pub night_consumed : opening_in 288 0 (opened_at (flows 0 0) (flows 10000000 0)) ≡ Err book.Register
  pub night_delivered : opening_in 288 0 (opened_at (flows 0 0) (flows 0 10000000)) ≡ Err book.Register

-- ---- entries

-- the record of the household with this tally of what it used by day, at a register that stands so, and with this debt
abbrev used_to : (standing : ℕ) → (tally debt : ℤ) → Member
used_to standing tally debt = record (opened_member household) {
  registers = record {
    day = record {
      consumed = record { standing = standing; tally = tally };
      delivered = opened_register 0;
    };
    night = opened_flows (record { consumed = 0; delivered = 0 });
  };
  account = record { debt = debt; fraction = 0 };
}

-- the group of two in January 2024 with so many entries and such a household at place 1
abbrev january : (entries standing : ℕ) → (tally debt : ℤ) → Group
january entries standing tally debt = record group_of_two {
  members = record { items = opened_member producer ∷ used_to standing tally debt ∷ [] };
  entries = entries;
}

-- a full month: the register stands at 500 kWh with the largest tally, and the household is owed 950,000,000 drams
abbrev full_month : Group
full_month = january 1000 500 (pos 1000000) (negsuc 949999999)

-- the same with room for one entry
abbrev nearly_full : Group
nearly_full = january 999 500 (pos 1000000) (negsuc 949999999)

-- the group of two between December 2023 and January 2024
abbrev pub year_end : Group
year_end = record group_of_two { phase = YearEnd 287 }

-- the register of a place of what it uses by day
abbrev used : (place : ℕ) → MemberRegister
used place = record { place = place; zone = Day; flow = Consumed }

-- what an entry comes to
abbrev entering : Group → Entry → Result Group BookRefusal
entering group entry = after_entry entry group

-- a reading of eight digits of a place without a record, on 1 February
pub record ReadingRefusesInOrder : Type 0 where
  pub no_month : entering year_end (Reading (used 2) 8797 10000000) ≡ Err book.NoMonth
  pub place : entering full_month (Reading (used 2) 8797 10000000) ≡ Err book.Place
  pub full : entering full_month (Reading (used 1) 8797 10000000) ≡ Err book.Full
  pub day : entering nearly_full (Reading (used 1) 8797 10000000) ≡ Err book.Day
  pub value : entering nearly_full (Reading (used 1) 8796 10000000) ≡ Err book.Value
  pub below : entering nearly_full (Reading (used 1) 8796 499) ≡ Err book.Below
  pub tally : entering nearly_full (Reading (used 1) 8796 501) ≡ Err book.Tally
  pub accepted : entering nearly_full (Reading (used 1) 8796 500) ≡ Ok full_month

-- a change from a final value that is below the register to a start value of eight digits
pub record ChangeRefusesInOrder : Type 0 where
  pub no_month : entering year_end (Change (used 2) 8797 499 10000000) ≡ Err book.NoMonth
  pub place : entering full_month (Change (used 2) 8797 499 10000000) ≡ Err book.Place
  pub full : entering full_month (Change (used 1) 8797 499 10000000) ≡ Err book.Full
  pub day : entering nearly_full (Change (used 1) 8797 499 10000000) ≡ Err book.Day
  pub start : entering nearly_full (Change (used 1) 8796 499 10000000) ≡ Err book.Value
  pub value : entering nearly_full (Change (used 1) 8796 10000000 7) ≡ Err book.Value
  pub below : entering nearly_full (Change (used 1) 8796 499 7) ≡ Err book.Below
  pub tally : entering nearly_full (Change (used 1) 8796 501 7) ≡ Err book.Tally
  pub accepted : entering nearly_full (Change (used 1) 8796 500 7)
      ≡ Ok (january 1000 7 (pos 1000000) (negsuc 949999999))

-- a correction by more than 1,000,000 kWh
pub record CorrectionRefusesInOrder : Type 0 where
  pub no_month : entering year_end (Correction (used 2) (pos 1000001)) ≡ Err book.NoMonth
  pub place : entering full_month (Correction (used 2) (pos 1000001)) ≡ Err book.Place
  pub full : entering full_month (Correction (used 1) (pos 1000001)) ≡ Err book.Full
  pub value : entering nearly_full (Correction (used 1) (pos 1000001)) ≡ Err book.Value
  pub tally : entering nearly_full (Correction (used 1) (pos 1)) ≡ Err book.Tally
  pub accepted : entering nearly_full (Correction (used 1) (negsuc 999999))
      ≡ Ok (january 1000 500 (pos 0) (negsuc 949999999))

-- a payment of more than 100,000,000 drams
pub record PaymentRefusesInOrder : Type 0 where
  pub no_month : entering year_end (Payment 2 100000001) ≡ Err book.NoMonth
  pub place : entering full_month (Payment 2 100000001) ≡ Err book.Place
  pub full : entering full_month (Payment 1 100000001) ≡ Err book.Full
  pub value : entering nearly_full (Payment 1 100000001) ≡ Err book.Value
  pub debt : entering nearly_full (Payment 1 100000000) ≡ Err book.Debt
  pub accepted : entering nearly_full (Payment 1 50000000)
      ≡ Ok (january 1000 500 (pos 1000000) (negsuc 999999999))

-- payments and corrections of the household, which owes nothing and has no tally; and the payment that is one dram more than
-- may be paid in advance
pub record AmountsHaveEdges : Type 0 where
  pub payment_of_0 : entering group_of_two (Payment 1 0) ≡ Err book.Value
  pub payment_of_1 : entering group_of_two (Payment 1 1) ≡ Ok (january 1 0 (pos 0) (negsuc 0))
  pub largest_payment : entering group_of_two (Payment 1 100000000)
      ≡ Ok (january 1 0 (pos 0) (negsuc 99999999))
  pub larger_payment : entering group_of_two (Payment 1 100000001) ≡ Err book.Value
  pub too_far_ahead : entering nearly_full (Payment 1 50000001) ≡ Err book.Debt
  pub most_added : entering group_of_two (Correction (used 1) (pos 1000000))
      ≡ Ok (january 1 0 (pos 1000000) (pos 0))
  pub more_added : entering group_of_two (Correction (used 1) (pos 1000001)) ≡ Err book.Value
  pub most_taken : entering group_of_two (Correction (used 1) (negsuc 999999))
      ≡ Ok (january 1 0 (negsuc 999999) (pos 0))
  pub more_taken : entering group_of_two (Correction (used 1) (negsuc 1000000)) ≡ Err book.Value

-- the group of two in January with the household's register at 9,000,000 kWh
abbrev high : Group
high = january 0 9000000 (pos 0) (pos 0)

-- readings of that register, and changes to a new meter
pub record ValuesHaveEdges : Type 0 where
  pub largest : entering high (Reading (used 1) 8796 9999999)
      ≡ Ok (january 1 9999999 (pos 999999) (pos 0))
  pub larger : entering high (Reading (used 1) 8796 10000000) ≡ Err book.Value
  pub largest_start : entering high (Change (used 1) 8796 9000000 9999999)
      ≡ Ok (january 1 9999999 (pos 0) (pos 0))
  pub larger_start : entering high (Change (used 1) 8796 9000000 10000000) ≡ Err book.Value

-- ---- drawing, issue and the year's end

-- a drawing by proportion, with so many places for bills
abbrev drawing : Group → (places : ℕ) → Result (Stamp × List Bill) BookRefusal
drawing group places = drawing_result proportion (λ month. prices) places group

-- an issue of a draft with these three numbers
abbrev issuing : Group → (number month entries places : ℕ) → Result (List Bill × Group) BookRefusal
issuing group number month entries places =
    let stamp : Stamp = record { number = number; month = month; entries = entries } in
    issue_result proportion (λ month. prices) stamp places group

-- with one place for the bills of two members
pub record DrawingRefusesInOrder : Type 0 where
  pub no_month : drawing year_end 1 ≡ Err book.NoMonth
  pub lines : drawing nearly_full 1 ≡ Err book.Bills
  pub accepted : IsOk (drawing nearly_full 2)

-- the same, with a draft of another group and another month, and of one entry more than there are
pub record IssueRefusesInOrder : Type 0 where
  pub no_month : issuing year_end 8 287 1000 1 ≡ Err book.NoMonth
  pub lines : issuing nearly_full 8 287 1000 1 ≡ Err book.Bills
  pub of_another_group : issuing nearly_full 8 287 1000 2 ≡ Err book.Draft
  pub of_another_month : issuing nearly_full 7 287 1000 2 ≡ Err book.Draft
  pub of_other_entries : issuing nearly_full 7 288 1000 2 ≡ Err book.Draft
  pub accepted : IsOk (issuing nearly_full 7 288 999 2)

-- in an open month, and at a year end
pub record ClosingRefusesInOrder : Type 0 where
  pub no_year_end : closing_result (λ month. prices) nearly_full ≡ Err book.NoYearEnd
  pub accepted : IsOk (closing_result (λ month. prices) year_end)
  pub no_figures : preview_result (λ month. prices) nearly_full ≡ Err book.NoYearEnd
  pub figures : IsOk (preview_result (λ month. prices) year_end)

-- the group of two in a phase
abbrev in_phase : Phase → Group
in_phase phase = record group_of_two { phase = phase }

-- the phase that the issue of a month leads to
abbrev issued_to : (month : ℕ) → Result Phase BookRefusal
issued_to month = result_map (λ issue. issue.1.phase) (issuing (in_phase (Open month)) 7 month 0 2)

-- the phase that the closing of a December leads to
abbrev closed_to : (december : ℕ) → Result Phase BookRefusal
closed_to december =
    result_map (λ closing. closing.1.phase) (closing_result (λ month. prices) (in_phase (YearEnd december)))

-- after November 2023 comes December and after that the year end, and so in 2099; after December 2098 comes January 2099, and
-- after December 2099 nothing
pub record PhasesFollowInOrder : Type 0 where
  pub november : issued_to 286 ≡ Ok (Open 287)
  pub december : issued_to 287 ≡ Ok (YearEnd 287)
  pub last_november : issued_to 1198 ≡ Ok (Open 1199)
  pub last_december : issued_to 1199 ≡ Ok (YearEnd 1199)
  pub next_year : closed_to 1187 ≡ Ok (Open 1188)
  pub no_next_year : closed_to 1199 ≡ Ok Over

-- ---- a line of a journal

-- what an issue of January writes where nothing was entered
abbrev bills_of_nothing : List ℕ
bills_of_nothing =
    codes "line,month,place,dayb,nightb,dayc,nightc,drams,debt\n"
    ++ (codes "BILL,2024-01,0,0,0,0,0,0,0\n" ++ codes "BILL,2024-01,1,0,0,0,0,0,0\n")

-- an issue that is no line of seven fields, of a text without the line of names, at a year end and without room
pub record LineRefusesInOrder : Type 0 where
  pub journal : RunsTo 4095 year_end (codes "ISSUE\n") [] (codes "FAULT,1,0,TEXT,24\n")
  pub room : RunsTo 4095 year_end (journal_of (codes "ISSUE\n")) [] (codes "FAULT,1,0,TEXT,27\n")
  pub fields : StopsWith 4096 year_end (codes "ISSUE\n") (codes "FAULT,2,0,TEXT,25\n")
  pub form : StopsWith 4096 year_end (codes "ISSUE,0,0,0,0,0,0\n") (codes "FAULT,2,2,TEXT,26\n")
  pub book : StopsWith 4096 year_end (codes "ISSUE,-,-,-,-,-,-\n") (codes "FAULT,2,0,BOOK,11\n")
  pub room_later : StopsWith 4096 group_of_two (codes "ISSUE,-,-,-,-,-,-\n") (codes "FAULT,2,0,TEXT,27\n")
  pub accepted : RunsTo 65536 group_of_two (journal_of (codes "ISSUE,-,-,-,-,-,-\n")) bills_of_nothing []

-- a text of more than 65,536 bytes is no journal, whatever stands behind the line of names; one of 65,536 is one, so that
-- its run gets as far as its first line
pub record LengthHasAnEdge : Type 0 where
  pub too_long : (body : List ℕ) → 65536 < length (journal_of body)
      → RunsTo 65536 group_of_two (journal_of body) [] (codes "FAULT,1,0,TEXT,24\n")
  pub longest : (body : List ℕ) → length (journal_of (codes "\n" ++ body)) ≡ 65536
      → StopsWith 65536 group_of_two (codes "\n" ++ body) (codes "FAULT,2,0,TEXT,25\n")
