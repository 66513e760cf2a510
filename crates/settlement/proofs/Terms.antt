-- What a book is settled by stays over one call and the next.
use Rattle.std.proofs.Common.{ℕ, ◌∙◌, subst}
use Rattle.group.specs.Books.{BookState, KeepsTerms}
use Rattle.group.specs.Months.{Prices, Share}

pub same_on : {R T : Type 0} (old mid new : BookState R T) → KeepsTerms old mid → KeepsTerms mid new → KeepsTerms old new
same_on old mid new first second = record { rule = second.rule ∙ first.rule; tariff = second.tariff ∙ first.tariff }

-- what holds by the terms of now holds by those of before
pub by_terms : {R T : Type 0} (share : R → Share) (prices : T → ℕ → Prices) (old new : BookState R T) → KeepsTerms old new → (P : Share → (ℕ → Prices) → Type 0) → P (share new.rule) (prices new.tariff) → P (share old.rule) (prices old.tariff)
by_terms {R} {T} share prices old new same P holds =
    subst (λ (t : T). P (share old.rule) (prices t)) same.tariff (subst (λ (r : R). P (share r) (prices new.tariff)) same.rule holds)
