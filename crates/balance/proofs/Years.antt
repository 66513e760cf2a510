-- Every closing of a year keeps what a history keeps.
use Rattle.std.proofs.Common.{◌≡◌, ◌≢◌, ℕ, suc, ◌-◌, ◌==◌, Bool, true, false, if◌then◌else◌, List, ◌∷◌, set, slice_get, slice_index_or, Some, ℤ, pos, neg_ℤ, ◌+ℤ◌, ◌-ℤ◌, ⊎_elim, refl, sym, ap, ap₂, ◌∙◌, subst, arith}
use Rattle.std.proofs.lemmas.Bool.Decides.{nat_tests}
use Rattle.std.proofs.lemmas.Int.{ints}
use Rattle.billing.specs.Accounts.{worth}
use Rattle.billing.specs.Costs.{year_credit}
use Rattle.ledger.specs.declared.bill.YearEnd.{YearEnd}
use Rattle.ledger.specs.declared.zone.Zone.{Zone}
use Rattle.ledger.specs.declared.zone.Zone.TheVariants.{Day, Night}
use Rattle.group.specs.Members.{nobody, register_at}
use Rattle.group.specs.declared.group.Group.{Group}
use Rattle.group.specs.declared.group.Phase.TheVariants.{YearEnd as AtYearEnd}
use Rattle.group.specs.declared.member.Member.{Member}
use Rattle.tariff.specs.declared.class.Class.{Class}
use Rattle.group.specs.Months.{Prices}
use Rattle.group.specs.Years.{after_year, year_amount, credited_account, holder_of, next_year, year_figures}
use Rattle.balance.proofs.Bills.{posted_worth}
use Rattle.balance.proofs.Found.{found_after_set, found_before_set, sum_of-set_same}
use Rattle.balance.proofs.Kept.{Kept, MonthKept}
use Rattle.balance.proofs.Slots.{tally_in}
use Rattle.balance.specs.Balances.{EnergyBalances}
use Rattle.balance.specs.Postings.{YearPaid, AcceptedCall, class_at, credit, holder_in, month_after, amount_owed, prices_for}

-- the figures of a year's end pay what is carried
pays_carried : (price : Prices) (group : Group) → (year_figures price group).paid ≡ group.carried
unfolding year_figures
pays_carried price group = refl

energy_kept : (zone : Zone) (prices : ℕ → Prices) (december : ℕ) (posts : List AcceptedCall) (old : Group) → EnergyBalances zone posts old → EnergyBalances zone (YearPaid (year_figures (prices december) old) ∷ posts) (after_year prices december old)
energy_kept Day prices december posts old kept = rw (pays_carried (prices december) old) (omega (arith, ints, kept))
energy_kept Night prices december posts old kept = rw (pays_carried (prices december) old) (omega (arith, ints, kept))

month_kept : (december : ℕ) (posts : List AcceptedCall) (figures : YearEnd) → suc december ≡ month_after posts → MonthKept (next_year december) (YearPaid figures ∷ posts)
month_kept december posts figures is = grind (arith, nat_tests)

same_place : (a b c : ℕ) → c ≡ a → b ≡ c → (a == b) ≡ true
same_place a b c is at = grind (arith, nat_tests)

other_place : (a b c : ℕ) → c ≡ a → c ≢ b → (a == b) ≡ false
other_place a b c is at = grind (arith, nat_tests)

-- what is credited, at the prices that the history tells
credit_told : (prices : ℕ → Prices) (december place : ℕ) (posts : List AcceptedCall) (old : Group) (class : Class) → suc december ≡ month_after posts → class ≡ class_at place posts → credit (prices_for prices (month_after posts - 1) (class_at place posts)) (year_figures (prices december) old) ≡ year_credit (λ service. prices december service class) old.carried
credit_told prices december place posts old class at is =
    let month : month_after posts - 1 ≡ december = omega arith in
    ap₂ (λ m (c : Class). credit (prices_for prices m c) (year_figures (prices december) old)) month (sym is)
    ∙ ap (λ paid. year_credit (λ service. prices december service class) paid) (pays_carried (prices december) old)

less_of_credit : (z w : ℤ) (n m : ℕ) (b : Bool) → b ≡ true → w ≡ z +ℤ neg_ℤ (pos n) → m ≡ n → w ≡ z -ℤ pos (if b then m else 0)
less_of_credit z w n m true is moved same = omega (arith, ints, moved, same)
less_of_credit z w n m false is moved same = absurd cc

less_of_nothing : (z : ℤ) (m : ℕ) (b : Bool) → b ≡ false → z ≡ z -ℤ pos (if b then m else 0)
less_of_nothing z m true is = absurd cc
less_of_nothing z m false is = omega (arith, ints)

-- the holder is found where another record of it is
found_holder : (old : Group) (paid : Member) (place : ℕ) (m : Member) → place ≡ old.holder → slice_get (set old.members.items old.holder paid) place ≡ Some m → slice_get old.members.items place ≡ Some (holder_of old)
found_holder old paid place m is there = found_before_set old.members.items old.holder paid nobody place m there ∙ ap (λ p. Some (slice_index_or old.members.items p nobody)) is

pub year_kept : (prices : ℕ → Prices) (posts : List AcceptedCall) (old : Group) (december : ℕ) → Kept prices posts old → old.phase ≡ AtYearEnd december → Kept prices (YearPaid (year_figures (prices december) old) ∷ posts) (after_year prices december old)
year_kept prices posts old december kept is =
    let members = old.members.items in
    let holder = holder_of old in
    let figures = year_figures (prices december) old in
    let paid = record holder { account = credited_account (prices december) old } in
    let at_end : suc december ≡ month_after posts = subst (λ phase. MonthKept phase posts) is kept.month in
    record {
      standings = λ at m there. ⊎_elim
          (λ h. ap (λ (x : Member). (register_at at x).standing) h.1 ∙ kept.standings at holder (found_holder old paid at.place m h.0 there))
          (λ h. kept.standings at m h.1)
          (found_after_set members old.holder paid at.place m there);
      tallies = λ zone flow. sum_of-set_same (tally_in zone flow) members old.holder paid nobody refl ∙ kept.tallies zone flow;
      energy = λ zone. energy_kept zone prices december posts old (kept.energy zone);
      money = λ place m there. ⊎_elim
          (λ h. ap (λ (x : Member). worth x.account) h.1
          ∙ less_of_credit (amount_owed prices place posts) (worth (credited_account (prices december) old)) (year_credit (λ service. prices december service holder.class) old.carried) _ (holder_in posts == place) (same_place (holder_in posts) place old.holder kept.holder h.0)
          (posted_worth holder.account (year_amount (prices december) old) ∙ ap (λ z. z +ℤ year_amount (prices december) old) (kept.money place holder (found_holder old paid place m h.0 there)))
          (credit_told prices december place posts old holder.class at_end (kept.classes place holder (found_holder old paid place m h.0 there))))
          (λ h. kept.money place m h.1 ∙ less_of_nothing (amount_owed prices place posts) _ (holder_in posts == place) (other_place (holder_in posts) place old.holder kept.holder h.0))
          (found_after_set members old.holder paid place m there);
      classes = λ place m there. ⊎_elim
          (λ h. ap (λ (x : Member). x.class) h.1 ∙ kept.classes place holder (found_holder old paid place m h.0 there))
          (λ h. kept.classes place m h.1)
          (found_after_set members old.holder paid place m there);
      holder = kept.holder;
      month = month_kept december posts figures at_end;
    }
