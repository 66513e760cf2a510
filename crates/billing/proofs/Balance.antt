-- Of what is shared by a rule that keeps the law no kWh is lost or invented.
use Rattle.std.proofs.Common.{◌≡◌, ℕ, zero, suc, ◌≤◌, List, [], ◌∷◌, length, get_or, ℤ, sum, refl, ap, ◌∙◌, ap₂, inl, inr, ⊎_elim, arith}
use Rattle.std.proofs.lemmas.Bool.{cases_lt}
use Rattle.sharing.specs.Law.{SharingLaw, less, plus}
use Rattle.sharing.specs.KeepingTheLaw.{sum_less}
use Rattle.billing.specs.Zones.{Balances, SplitsPool, needs_of, pool_of}

less_plus : (xs ys : List ℕ) → length ys ≡ length xs → ((k : ℕ) → get_or ys k 0 ≤ get_or xs k 0) → plus (less xs ys) ys ≡ xs
less_plus [] [] same within = refl
less_plus [] (y ∷ ys) same within = absurd (omega arith)
less_plus (x ∷ xs) [] same within = refl
less_plus (x ∷ xs) (y ∷ ys) same within =
    ap₂ (λ n l. n ∷ l) (omega (arith, within zero)) (less_plus xs ys (omega arith) (λ k. within (suc k)))

pub balances : (share : ℕ → List ℕ → List ℕ) → ((pool : ℕ) (needs : List ℕ) → SharingLaw pool needs (share pool needs)) → (carried : ℕ) (nets : List ℤ) (left : ℕ) (covered billed : List ℕ) → SplitsPool share carried nets left covered billed → Balances carried nets left covered billed
balances share keeps_law carried nets left covered billed posted =
    let pool = pool_of carried nets in
    let needs = needs_of nets in
    let shares = share pool needs in
    let law = keeps_law pool needs in
    let billed_is = posted.billed_is ∙ ap (less needs) posted.covered_is in
    let all = ap sum posted.covered_is in
    let none = sum_less needs shares law.as_many law.within in
    let over = ap sum billed_is in
    record {
      of_the_pool = omega (arith, posted.left_is, all, law.whole);
      of_each_need = ap₂ plus billed_is posted.covered_is ∙ less_plus needs shares law.as_many law.within;
      not_both = ⊎_elim (λ short. inl (omega (arith, posted.left_is, all, law.whole))) (λ enough. inr (omega (arith, over, none, law.whole))) (cases_lt pool (sum needs));
    }
