-- The first line of a text.
use Rattle.std.proofs.Common.{◌≡◌, ◌∙◌, ℕ, zero, suc, ◌+◌, ◌<◌, List, [], ◌∷◌, ◌++◌, length, take, drop, get_or, Some, None, ⊎_elim, refl, sym, ap, ap₂, arith}
use Rattle.std.proofs.lemmas.Bool.Decides.{eqb_tells}
use Rattle.std.proofs.lemmas.List.{drop_all, length-take, take-append-drop, take_all}
use Rattle.fields.specs.Separators.{IsNext}
use Rattle.settlement.specs.Texts.{text_lines, onto_first}

-- it ends with the first line feed
with_feed : (text : List ℕ) (i : ℕ) → i < length text → get_or text i 0 ≡ 10 → ((k : ℕ) → k < i → get_or text k 0 ≡ 10 → ⊥) → text_lines text ≡ take (suc i) text ∷ text_lines (drop (suc i) text)
with_feed [] i inside is none = absurd (omega arith)
with_feed (byte ∷ text) zero inside is none = rw is refl
with_feed (byte ∷ text) (suc i) inside is none =
    ⊎_elim
    (λ yes. absurd (none 0 (omega arith) yes.1))
    (λ no. rw no.0 (ap (onto_first byte) (with_feed text i (omega arith) is (λ k below here. none (suc k) (omega arith) here))))
    (eqb_tells byte 10)

-- or is the whole text
without_feed : (text : List ℕ) → 0 < length text → ((k : ℕ) → k < length text → get_or text k 0 ≡ 10 → ⊥) → text_lines text ≡ text ∷ []
without_feed [] some none = absurd (omega arith)
without_feed (byte ∷ []) some none =
    ⊎_elim (λ yes. absurd (none 0 (omega arith) yes.1)) (λ no. rw no.0 refl) (eqb_tells byte 10)
without_feed (byte ∷ next ∷ text) some none =
    ⊎_elim
    (λ yes. absurd (none 0 (omega arith) yes.1))
    (λ no. rw no.0 (ap (onto_first byte) (without_feed (next ∷ text) (omega arith) (λ k below here. none (suc k) (omega arith) here))))
    (eqb_tells byte 10)

-- what is cut off at the end of the first line
abbrev pub CutOff : (text first rest : List ℕ) → Type 0
CutOff text first rest = (text ≡ first ++ rest) × (0 < length first) × (text_lines text ≡ first ∷ text_lines rest)

-- cut off at a place
cut_at : (text : List ℕ) (end : ℕ) (first rest : List ℕ) → 0 < end → 0 < length text → first ≡ take end text → rest ≡ drop end text → text_lines text ≡ take end text ∷ text_lines (drop end text) → CutOff text first rest
cut_at text end first rest some long front back lines = (
  sym (take-append-drop end text) ∙ sym (ap₂ (λ f r. f ++ r) front back),
  omega (arith, ap length front, length-take end text),
  lines ∙ sym (ap₂ (λ (f r : List ℕ). f ∷ text_lines r) front back),
)

pub cut_after_feed : (text : List ℕ) (i end : ℕ) (first rest : List ℕ) → IsNext 10 text 0 (Some i) → end ≡ i + 1 → first ≡ take end text → rest ≡ drop end text → CutOff text first rest
cut_after_feed text i end first rest (low, inside, is, none) after front back =
    let here : suc i ≡ end = omega (arith, after) in
    cut_at text end first rest (omega (arith, after)) (omega (arith, inside)) front back
    (with_feed text i inside is (λ k below. none k (omega arith) below) ∙ ap (λ n. take n text ∷ text_lines (drop n text)) here)

pub cut_at_end : (text : List ℕ) (end : ℕ) (first rest : List ℕ) → 0 < length text → IsNext 10 text 0 None → end ≡ length text → first ≡ take end text → rest ≡ drop end text → CutOff text first rest
cut_at_end text end first rest some none whole front back =
    cut_at text end first rest (omega (arith, some, whole)) some front back
    (without_feed text some (λ k below. none k (omega arith) below)
    ∙ sym (ap₂ (λ (f r : List ℕ). f ∷ text_lines r) (take_all end text (omega (arith, whole))) (drop_all end text (omega (arith, whole)))))
