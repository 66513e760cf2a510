-- The group of two opens, and its prices are those that are named.
use mathlib.Core.Path.{fun_ext}
use Rattle.std.proofs.Common.{◌≡◌, ◌∙◌, ℕ, ◌*◌, List, Ok, Result, sym, ap₂, subst}
use Rattle.balance.specs.Histories.{Event, Opening}
use Rattle.group.specs.Groups.{opening_result}
use Rattle.group.specs.declared.group.Group.{Group}
use Rattle.group.specs.declared.refusal.BookRefusal.{BookRefusal}
use Rattle.settlement.specs.Setups.{SettlesJournal, SettlesFrom, group_of, opening_event as opening_of}
use Rattle.settlement.specs.declared.runs.Outcome.{Outcome}
use Rattle.settlement.specs.declared.setup.Setup.{Setup}
use Rattle.sharing.specs.Rules.{proportion}
use Rattle.sharing.specs.declared.proportion.Proportion.{Proportion}
use Rattle.group.specs.Months.{Prices}
use Rattle.tariff.specs.Charges.{charged_price}
use Rattle.tariff.specs.declared.fixed.FixedTariff.{FixedTariff}
use Rattle.two.specs.Two.{IsTwo, SettlesTwo, opening_of_two, prices, group_of_two}

opens : (setup : Setup Proportion FixedTariff) → IsTwo setup → group_of setup ≡ Ok group_of_two
opens setup is =
    ap₂ (λ n s. opening_result n s setup.holder setup.records.now) is.number is.start
    ∙ ap₂ (λ h r. opening_result 7 288 h r) is.holder is.records

opened_by : (setup : Setup Proportion FixedTariff) → IsTwo setup → opening_of setup ≡ opening_of_two
opened_by setup is =
    ap₂ (λ n s. Opening n s setup.holder setup.records.now (Ok tt)) is.number is.start
    ∙ ap₂ (λ h r. Opening 7 (24 * 12) h r (Ok tt)) is.holder is.records

pub settled_two : (setup : Setup Proportion FixedTariff) (journal old : List ℕ) (outcome : Outcome) (new : List ℕ) → IsTwo setup → SettlesJournal (λ rule. proportion) (λ (tariff : FixedTariff) month. charged_price tariff.prices) setup journal old (Ok outcome) new → SettlesTwo journal old outcome new
settled_two setup journal old outcome new is (group, opened_so, after, settled) =
    let pair : ◌≡◌ {A = Result Group BookRefusal} (Ok group) (Ok group_of_two) = sym opened_so ∙ opens setup is in
    let same : group ≡ group_of_two = cc in
    let priced : ◌≡◌ {A = Prices} (charged_price setup.tariff.prices) prices = fun_ext (λ service. fun_ext (λ class. is.priced service class)) in
    let So : Prices → Event → Group → Type 0 = λ p e g. SettlesFrom proportion (λ month. p) e journal (old, g) outcome (new, after) in
    let over_two = subst (λ (g : Group). So (charged_price setup.tariff.prices) (opening_of setup) g) same settled in
    let by_opening = subst (λ (e : Event). So (charged_price setup.tariff.prices) e group_of_two) (opened_by setup is) over_two in
    (after, subst (λ (p : Prices). So p opening_of_two group_of_two) priced by_opening)
