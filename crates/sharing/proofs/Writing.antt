-- A loop that writes a list into a slice, place after place.
use Rattle.std.proofs.Common.{◌≡◌, ℕ, ◌+◌, ◌<◌, List, [], ◌∷◌, ◌++◌, length, take, set, sym, ap, ◌∙◌, append_assoc}
use Rattle.std.proofs.lemmas.List.{take_more_set}

-- out holds the front of whole, and rest is what is yet to be written
abbrev pub Begun : List ℕ → ℕ → List ℕ → List ℕ → Type 0
Begun out i rest whole = take i out ++ rest ≡ whole

module _ (out : List ℕ) (i : ℕ) (rest whole : List ℕ) (begun : Begun out i rest whole) where
  pub begun_more : (x : ℕ) (after : List ℕ) → i < length out → rest ≡ x ∷ after → Begun (set out i x) (i + 1) after whole
  begun_more x after within next =
      ap (λ front. front ++ after) (take_more_set out i x within) ∙ append_assoc (take i out) (x ∷ []) after ∙ ap (λ back. take i out ++ back) (sym next) ∙ begun
