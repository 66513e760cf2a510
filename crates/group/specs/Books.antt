-- What contracts see of a book: a group, with the rule and the tariff that it is settled by.
use Rattle.std.specs.Prelude.{◌≡◌, ℕ, Bool, true, false, if◌then◌else◌, List, Ok, Err, Result}
use Rattle.group.specs.Groups.{opening_result}
use Rattle.group.specs.Results.{and_then}
use Rattle.group.specs.declared.group.Group.{Group}
use Rattle.group.specs.declared.group.Phase.{Phase}
use Rattle.group.specs.declared.group.Phase.TheVariants.{Blank, Open, YearEnd, Over}
use Rattle.group.specs.declared.member.OpeningRecord.{OpeningRecord}
use Rattle.group.specs.declared.refusal.BookRefusal.{BookRefusal}
use Rattle.group.specs.declared.refusal.BookRefusal.TheVariants.{Opened}

-- a group that is settled by a rule and a tariff
pub record BookState (R T : Type 0) : Type 0 where
  pub rule : R
  pub tariff : T
  pub group : Group

-- the rule and the tariff stay
pub record KeepsTerms {R T : Type 0} (old new : BookState R T) : Type 0 where
  pub rule : new.rule ≡ old.rule
  pub tariff : new.tariff ≡ old.tariff

-- a group stands in the book already
abbrev pub was_opened : Phase → Bool
was_opened Blank = false
was_opened (Open month) = true
was_opened (YearEnd december) = true
was_opened Over = true

-- whether a group was never opened
abbrev pub blank_check : Phase → Result (Unit {0}) BookRefusal
blank_check phase = if was_opened phase then Err Opened else Ok tt

-- the group after an opening
abbrev pub after_opening : (number start holder : ℕ) → List OpeningRecord → Group → Result Group BookRefusal
after_opening number start holder records group =
    and_then (blank_check group.phase) (λ done. opening_result number start holder records)
