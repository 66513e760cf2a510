-- What it says of a call that the book is in the phase for it.
use Rattle.std.proofs.Common.{◌≡◌, ◌∙◌, ℕ, List, Bool, true, false, if◌then◌else◌, Ok, Err, refl, subst, sym}
use Rattle.group.proofs.Stepping.{and_then_ok, made_ok}
use Rattle.group.specs.Books.{after_opening, blank_check}
use Rattle.group.specs.Drafts.{drawing_month}
use Rattle.group.specs.Groups.{opening_result}
use Rattle.group.specs.declared.group.Group.{Group}
use Rattle.group.specs.declared.member.OpeningRecord.{OpeningRecord}
use Rattle.group.specs.declared.refusal.BookRefusal.TheVariants as refused
use Rattle.book.specs.Calls.{month_for}
use Rattle.book.specs.declared.call.Call.TheVariants.{Open, Issue}

-- an issue in its phase has room for its bills, and its draft is current
pub issue_goes : (places : ℕ) (current : Bool) (group : Group) (month : ℕ) → month_for (Issue places current) group ≡ Ok month → (drawing_month places group ≡ Ok month) × (current ≡ true)
issue_goes places true group month is =
    let (m, draws, same) = and_then_ok (drawing_month places group) (λ (m : ℕ). if true then Ok m else Err refused.Draft) month is in
    (draws ∙ same, refl)
issue_goes places false group month is =
    let (m, draws, same) = and_then_ok (drawing_month places group) (λ (m : ℕ). if false then Ok m else Err refused.Draft) month is in
    absurd cc

-- an opening in its phase opens the group in its start month
pub opening_goes : (number start holder : ℕ) (records : List OpeningRecord) (group new : Group) (month : ℕ) → month_for (Open start) group ≡ Ok month → opening_result number month holder records ≡ Ok new → after_opening number start holder records group ≡ Ok new
opening_goes number start holder records group new month goes is =
    let (done, fresh, same) = made_ok (λ (done : Unit {0}). start) (blank_check group.phase) month goes in
    rw fresh (subst (λ m. opening_result number m holder records ≡ Ok new) (sym same) is)
