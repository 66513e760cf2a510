-- The lines of a text: joined they are the text, and a line feed stands only at their ends.
use Rattle.std.proofs.Common.{Bool, if◌then◌else◌, ◌≡◌, ◌∙◌, ℕ, ◌<◌, List, [], ◌∷◌, ◌++◌, length, inl, inr, ⊎_elim, refl, sym, ap, subst, arith}
use Rattle.std.specs.Prelude.{◌≢◌}
use Rattle.std.proofs.lemmas.Bool.Decides.{eqb_tells}
use Rattle.std.proofs.lemmas.List.{append-nil}
use Rattle.std.proofs.lemmas.List.Elements.{All-cons, All-head, All-nil, All-tail}
use Rattle.std.specs.List.{concat}
use Rattle.fields.specs.Bytes.{line_feed}
use Rattle.settlement.specs.Laws.{LinesMakeText}
use Rattle.settlement.specs.Texts.{AreLines, EndsInFeed, HasNoFeed, onto_first, text_lines}

-- a byte is no line feed
abbrev Other : ℕ → Type 0
Other byte = byte ≢ line_feed

onto_joined : (byte : ℕ) (lines : List (List ℕ)) → concat (onto_first byte lines) ≡ byte ∷ concat lines
onto_joined byte [] = refl
onto_joined byte (line ∷ lines) = refl

joined : (text : List ℕ) → concat (text_lines text) ≡ text
joined [] = refl
joined (byte ∷ text) =
    ⊎_elim
    (λ yes. rw yes.0 (ap (λ t. byte ∷ t) (joined text)))
    (λ no. rw no.0 (onto_joined byte (text_lines text) ∙ ap (λ t. byte ∷ t) (joined text)))
    (eqb_tells byte line_feed)

-- a line feed alone is a line
feed_first : (byte : ℕ) (lines : List (List ℕ)) → byte ≡ line_feed → AreLines lines → AreLines ((byte ∷ []) ∷ lines)
feed_first byte [] is right = inl ([], ap (λ b. b ∷ []) is, All-nil Other)
feed_first byte (next ∷ lines) is right = (([], ap (λ b. b ∷ []) is, All-nil Other), right)

ends_more : (byte : ℕ) (line : List ℕ) → Other byte → EndsInFeed line → EndsInFeed (byte ∷ line)
ends_more byte line other (front, is, none) =
    (byte ∷ front, ap (λ l. byte ∷ l) is, All-cons Other byte front other none)

-- another byte goes before the first line
onto_lines : (byte : ℕ) (lines : List (List ℕ)) → Other byte → AreLines lines → AreLines (onto_first byte lines)
onto_lines byte [] other right = inr (omega arith, All-cons Other byte [] other (All-nil Other))
onto_lines byte (line ∷ []) other right =
    ⊎_elim
    (λ ends. inl (ends_more byte line other ends))
    (λ rest. inr (omega arith, All-cons Other byte line other rest.1))
    right
onto_lines byte (line ∷ next ∷ lines) other (ends, right) = (ends_more byte line other ends, right)

are_lines : (text : List ℕ) → AreLines (text_lines text)
are_lines [] = tt
are_lines (byte ∷ text) =
    let either : Bool → List (List ℕ) = λ (test : Bool). if test then (byte ∷ []) ∷ text_lines text else onto_first byte (text_lines text) in
    ⊎_elim
    (λ yes. subst (λ test. AreLines (either test)) (sym yes.0) (feed_first byte (text_lines text) yes.1 (are_lines text)))
    (λ no. subst (λ test. AreLines (either test)) (sym no.0) (onto_lines byte (text_lines text) no.1 (are_lines text)))
    (eqb_tells byte line_feed)

-- a line that ends in its only line feed is cut off before what follows
whole_first : (front rest : List ℕ) → HasNoFeed front → text_lines ((front ++ line_feed ∷ []) ++ rest) ≡ (front ++ line_feed ∷ []) ∷ text_lines rest
whole_first [] rest none = refl
whole_first (byte ∷ front) rest none =
    ⊎_elim
    (λ yes. absurd (All-head Other byte front none yes.1))
    (λ no. rw no.0 (ap (onto_first byte) (whole_first front rest (All-tail Other byte front none))))
    (eqb_tells byte line_feed)

cut_off : (line rest : List ℕ) → EndsInFeed line → text_lines (line ++ rest) ≡ line ∷ text_lines rest
cut_off line rest (front, is, none) =
    subst (λ l. text_lines (l ++ rest) ≡ l ∷ text_lines rest) (sym is) (whole_first front rest none)

-- a line without one is alone
alone : (line : List ℕ) → 0 < length line → HasNoFeed line → text_lines line ≡ line ∷ []
alone [] some none = absurd (omega (arith, some))
alone (byte ∷ []) some none =
    ⊎_elim (λ yes. absurd (All-head Other byte [] none yes.1)) (λ no. rw no.0 refl) (eqb_tells byte line_feed)
alone (byte ∷ next ∷ line) some none =
    ⊎_elim
    (λ yes. absurd (All-head Other byte (next ∷ line) none yes.1))
    (λ no. rw no.0 (ap (onto_first byte) (alone (next ∷ line) (omega arith) (All-tail Other byte (next ∷ line) none))))
    (eqb_tells byte line_feed)

only_lines : (lines : List (List ℕ)) → AreLines lines → text_lines (concat lines) ≡ lines
only_lines [] right = refl
only_lines (line ∷ []) right =
    ⊎_elim
    (λ ends. cut_off line [] ends)
    (λ rest. ap text_lines (append-nil line) ∙ alone line rest.0 rest.1)
    right
only_lines (line ∷ next ∷ lines) (ends, right) =
    cut_off line (concat (next ∷ lines)) ends ∙ ap (λ ls. line ∷ ls) (only_lines (next ∷ lines) right)

pub lines_make_text : LinesMakeText
lines_make_text text lines = (
  λ is. subst (λ ls. (concat ls ≡ text) × AreLines ls) (sym is) (joined text, are_lines text),
  λ found. sym (only_lines lines found.1) ∙ ap text_lines found.0,
)
