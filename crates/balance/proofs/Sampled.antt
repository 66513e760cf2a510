-- The figures of the sample history.
use Rattle.std.proofs.Common.{◌≡◌, ◌++◌, ℕ, ℤ, pos, negsuc, slice_index_or, ⊎_elim, refl, subst, arith}
use Rattle.std.proofs.lemmas.Int.{ints}
use Rattle.sharing.specs.KeepingTheLaw.{line_order_keeps_law}
use Rattle.sharing.specs.Rules.{line_order}
use Rattle.group.specs.Members.{nobody}
use Rattle.group.specs.Registers.{quantity}
use Rattle.group.specs.declared.member.Member.{Member}
use Rattle.group.specs.Months.{bill_of, billed_member}
use Rattle.group.specs.Years.{year_figures}
use Rattle.balance.proofs.WholeRuns.{run_leads}
use Rattle.balance.proofs.Theorem.{throughout}
use Rattle.balance.specs.Balances.{IsBalancedThroughout}
use Rattle.balance.specs.Runs.{run}
use Rattle.balance.specs.Sample.{SampleTells, closed_group, december, december_bill, november_bill, november, sample_prices, sample_history}

sample_is : (run line_order sample_prices (november ++ december)).0 ≡ sample_history (november_bill 510 33) (december_bill 0)
unfolding quantity bill_of billed_member year_figures
sample_is = refl

-- the household's record at the end
abbrev household : Member
household = slice_index_or closed_group.members.items 1 nobody

pub sample_tells : SampleTells
unfolding quantity bill_of billed_member year_figures
sample_tells = record {
  history_is = sample_is;
  carries_nothing = refl;
  holder_is_owed = refl;
  household_owes = refl;
  vulnerable_owes = refl;
  balances = subst (λ h. IsBalancedThroughout line_order sample_prices h closed_group) sample_is (throughout line_order line_order_keeps_law sample_prices (run line_order sample_prices (november ++ december)).0 closed_group (run_leads line_order sample_prices (november ++ december)));
  no_kwh_more = λ by_night. let e : ◌≡◌ {A = ℤ} (negsuc 67) (negsuc 68) = by_night in omega (arith, ints);
  no_hundredth_more = λ owes. let e : ◌≡◌ {A = ℤ} (pos 754295) (pos 755295) = owes household refl in omega (arith, ints);
  not_both = ⊎_elim (λ billed. let e : ◌≡◌ {A = ℕ} 1 0 = billed in omega arith) (λ carried. let e : ◌≡◌ {A = ℕ} 140 0 = carried in omega arith);
}
