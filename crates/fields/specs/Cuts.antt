-- Where a text is cut in two: at the first of its bytes that is the separator.
use Rattle.std.specs.Borrow.{Bor}
use Rattle.std.specs.Prelude.{◌≡◌, ℕ, ◌<◌, List, ◌∷◌, ◌++◌, length, Option, MatchOption, ◌≢◌, slice_index}

-- no byte is the separator
abbrev pub Lacks : ℕ → List ℕ → Type 0
Lacks separator bs = (k : ℕ) → k < length bs → slice_index bs k ≢ separator

-- the text before the first separator and the text after it, or none where no byte is the separator
abbrev pub Cuts : ℕ → List ℕ → Option (Bor (List ℕ) × Bor (List ℕ)) → Type 0
Cuts separator bs r =
    MatchOption r (Lacks separator bs) (λ p. (bs ≡ p.0.now ++ (separator ∷ p.1.now)) × Lacks separator p.0.now)

-- the text before the byte at i and the text after it
pub record IsAround (bs : List ℕ) (i : ℕ) (p : Bor (List ℕ) × Bor (List ℕ)) : Type 0 where
  pub whole : bs ≡ p.0.now ++ (slice_index bs i ∷ p.1.now)
  pub before : length p.0.now ≡ i
  pub same : (k : ℕ) → k < i → slice_index p.0.now k ≡ slice_index bs k
