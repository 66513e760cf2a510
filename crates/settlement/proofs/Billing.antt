-- The lines of a month's bills, one after the other.
use Rattle.std.proofs.Common.{◌≡◌, ◌∙◌, ℕ, ◌+◌, ◌*◌, ◌≤◌, List, [], ◌++◌, length, take, drop, slice_get, Some, sym, ap, subst, add-zero, arith}
use Rattle.std.proofs.lemmas.List.{append-nil, length-append, take-append-drop, take_all}
use Rattle.std.proofs.lemmas.List.Folds.{concat-append}
use Rattle.std.proofs.lemmas.Option.{get_or_from_slice_get, slice_get_within}
use Rattle.std.specs.List.{concat}
use Rattle.cells.proofs.Overwriting.{put_as, put_more}
use Rattle.cells.specs.Cells.{Puts, overwritten_text}
use Rattle.ledger.specs.declared.bill.Bill.{Bill}
use Rattle.settlement.specs.Output.{bill_line}
use Rattle.group.proofs.Lists.{by_place_next}
use Rattle.group.specs.Months.{by_place}
use Rattle.settlement.specs.Texts.{bills_text}

-- no text leaves the slice as it was
pub put_none : (old : List ℕ) (at : ℕ) → Puts old at [] old at
put_none old at = record {
  stop = omega arith;
  held = sym (ap (λ n. take at old ++ drop n old) (add-zero at) ∙ take-append-drop at old);
}

-- the lines of the bills so far, and the line of one more
bills_next : (month : ℕ) (bills : List Bill) (place : ℕ) (bill : Bill) → slice_get bills place ≡ Some bill → bills_text month (take (place + 1) bills) ≡ bills_text month (take place bills) ++ bill_line month place bill
bills_next month bills place bill found =
    let inside = slice_get_within bills place bill found in
    let before = by_place (bill_line month) 0 (take place bills) in
    ap concat (by_place_next (bill_line month) bills place bill inside)
    ∙ (concat-append before _
    ∙ ap (λ text. concat before ++ text) (append-nil _ ∙ ap (bill_line month place) (get_or_from_slice_get bills place bill bill found)))

-- the lines of the first bills stand in the slice, each of at most 128 bytes
pub record SoFar (month : ℕ) (bills : List Bill) (place : ℕ) (old : List ℕ) (at : ℕ) (new : List ℕ) (end : ℕ) : Type 0 where
  pub put : Puts old at (bills_text month (take place bills)) new end
  pub within : length (bills_text month (take place bills)) ≤ 128 * place

pub none_so_far : (month : ℕ) (bills : List Bill) (old : List ℕ) (at : ℕ) → SoFar month bills 0 old at old at
none_so_far month bills old at = record { put = put_none old at; within = omega arith }

pub one_more : (month : ℕ) (bills : List Bill) (place : ℕ) (bill : Bill) (old : List ℕ) (at : ℕ) (mid : List ℕ) (next : ℕ) (new : List ℕ) (end : ℕ) → slice_get bills place ≡ Some bill → at ≤ length old → SoFar month bills place old at mid next → end ≡ next + length (bill_line month place bill) → new ≡ overwritten_text mid next (bill_line month place bill) → length (bill_line month place bill) ≤ 128 → SoFar month bills (place + 1) old at new end
one_more month bills place bill old at mid next new end found room before stop held within =
    let is = bills_next month bills place bill found in
    record {
      put = put_as (sym is) (put_more before.put (record { stop = stop; held = held }) room);
      within = omega (arith, ap length is, before.within, within, length-append (bills_text month (take place bills)) (bill_line month place bill));
    }

-- those of all bills
pub all_bills : (month : ℕ) (bills : List Bill) (place : ℕ) (old : List ℕ) (at : ℕ) (new : List ℕ) (end : ℕ) → length bills ≤ place → SoFar month bills place old at new end → Puts old at (bills_text month bills) new end × (length (bills_text month bills) ≤ 128 * place)
all_bills month bills place old at new end all so_far =
    let whole = take_all place bills all in
    subst (λ list. Puts old at (bills_text month list) new end × (length (bills_text month list) ≤ 128 * place)) whole (so_far.put, so_far.within)
