-- The row that is found from row to row is the last that has begun.
use Rattle.std.proofs.Common.{◌≡◌, ℕ, true, false, if◌then◌else◌, List, [], ◌∷◌, Option, Some, None, fold, refl, sym, ap, subst}
use Rattle.std.specs.List.{All}
use Rattle.std.proofs.lemmas.List.Elements.{All-cons, All-nil}
use Rattle.tariff.specs.Schedules.{IsInForce, IsLastBegun, has_begun, in_force}
use Rattle.tariff.specs.declared.row.ScheduleRow.{ScheduleRow}

module _ (month : ℕ) where
  -- the row has not begun
  abbrev Waiting : ScheduleRow → Type 0
  Waiting row = has_begun month row ≡ false

  -- the row that is in force after these rows, where one was before them
  abbrev onward : Option ScheduleRow → List ScheduleRow → Option ScheduleRow
  onward = fold (λ last row. if has_begun month row then Some row else last)

  -- of these rows one is the last that has begun, or none has and what was in force before them stays so
  data Found (rows : List ScheduleRow) (before after : Option ScheduleRow) : Type 0 where
    one : (row : ScheduleRow) → after ≡ Some row → IsLastBegun month rows row → Found rows before after
    none : after ≡ before → All Waiting rows → Found rows before after

  found : (rows : List ScheduleRow) (before : Option ScheduleRow) → Found rows before (onward before rows)
  found [] before = none refl (All-nil Waiting)
  found (row ∷ rows) before =
      elim (has_begun month row) as (λ test. has_begun month row ≡ test → Found (row ∷ rows) before (onward (if test then Some row else before) rows)) [
        | true ↦ λ begun. more_begun begun (found rows (Some row))
        | false ↦ λ not_begun. more_waiting not_begun (found rows before)
      ] refl
    where
      behind : (last : ScheduleRow) → IsLastBegun month rows last → IsLastBegun month (row ∷ rows) last
      behind last is = record {
        before = row ∷ is.before;
        after = is.after;
        stands = ap (λ l. row ∷ l) is.stands;
        begun = is.begun;
        none_later = is.none_later;
      }

      more_begun : has_begun month row ≡ true → {after : Option ScheduleRow} → Found rows (Some row) after → Found (row ∷ rows) before after
      more_begun begun (one last is later) = one last is (behind last later)
      more_begun begun (none same waiting) = one row same (record { before = []; after = rows; stands = refl; begun = begun; none_later = waiting })

      more_waiting : has_begun month row ≡ false → {after : Option ScheduleRow} → Found rows before after → Found (row ∷ rows) before after
      more_waiting not_begun (one last is later) = one last is (behind last later)
      more_waiting not_begun (none same waiting) = none same (All-cons Waiting row rows not_begun waiting)

  pub is_in_force : (rows : List ScheduleRow) → IsInForce month rows (in_force month rows)
  is_in_force rows = told (found rows None)
    where
      told : {after : Option ScheduleRow} → Found rows None after → IsInForce month rows after
      told (one row is last) = subst (IsInForce month rows) (sym is) last
      told (none is waiting) = subst (IsInForce month rows) (sym is) waiting
