-- The cells of a line one after the other, and how many bytes they take.
use Rattle.std.proofs.Common.{◌≡◌, ℕ, zero, suc, ◌+◌, ◌<◌, ◌≤◌, List, [], ◌∷◌, ◌++◌, map, length, max, get_or, take, refl, ap, sym, ◌∙◌, append_assoc, arith}
use Rattle.cells.proofs.Overwriting.{overwritten_more}
use Rattle.cells.specs.Cells.{cell_text}
use Rattle.cells.specs.declared.rows.Cell.{Cell}
use Rattle.cells.specs.declared.rows.Cell.TheVariants.{Missing}
use Rattle.fields.specs.Rows.{line_of, texts_row}
use Rattle.std.proofs.lemmas.List.{length-append, length-take-le, length_push, take_all, take_more}
use Rattle.std.proofs.lemmas.List.Sums.{sum_by-cons, sum_by_more_le}
use Rattle.std.specs.List.{sum_by}

-- the cells parted by commas
abbrev pub joined : List Cell → List ℕ
joined cells = texts_row (map cell_text cells)

-- how many bytes the cells take, each with the comma or the line feed after it
abbrev pub marked_length : List Cell → ℕ
marked_length cells = sum_by (λ cell. length (cell_text cell) + 1) cells

length-joined : (cells : List Cell) → 0 < length cells → length (joined cells) + 1 ≡ marked_length cells
length-joined [] some = absurd (omega arith)
length-joined (cell ∷ []) some = omega arith
length-joined (cell ∷ next ∷ cells) some =
    let rest = length-joined (next ∷ cells) (omega arith) in
    let longer = length-append (cell_text cell) (44 ∷ joined (next ∷ cells)) in
    let more = sum_by-cons (λ c. length (cell_text c) + 1) cell (next ∷ cells) in
    omega arith

-- no cells are the line feed alone
pub length-line_of : (cells : List Cell) → length (line_of (map cell_text cells)) ≡ max (marked_length cells) 1
length-line_of [] = omega arith
length-line_of (cell ∷ cells) = omega (arith, length_push (joined (cell ∷ cells)) 10, length-joined (cell ∷ cells) (omega arith))

-- that line has the room for the first cells, each with its mark, and the next
pub line_room : (cells : List Cell) (i : ℕ) → i < length cells → marked_length (take i cells) + length (cell_text (get_or cells i Missing)) + 1 ≤ length (line_of (map cell_text cells))
line_room cells i within = omega (arith, length-line_of cells, sum_by_more_le (λ cell. length (cell_text cell) + 1) cells i Missing within)

-- the same where commas stand between the first cells, and before the next
pub text_room : (cells : List Cell) (i : ℕ) → i < length cells → length (joined (take i cells)) + length (cell_text (get_or cells i Missing)) + 1 ≤ length (line_of (map cell_text cells))
text_room cells zero within = omega (arith, line_room cells 0 within)
text_room cells (suc i) within =
    let some = length-take-le (suc i) cells (omega arith) in
    omega (arith, length-joined (take (suc i) cells) (omega arith), line_room cells (suc i) within)

pub comma_room : (cells : List Cell) (i : ℕ) → 0 < i → i < length cells → length (joined (take i cells)) + 1 + length (cell_text (get_or cells i Missing)) + 1 ≤ length (line_of (map cell_text cells))
comma_room cells i later within =
    let some = length-take-le i cells (omega arith) in
    omega (arith, length-joined (take i cells) (omega arith), line_room cells i within)

-- one cell more
pub joined_first : (cells : List Cell) (i : ℕ) → i ≤ 0 → i < length cells → joined (take (i + 1) cells) ≡ joined (take i cells) ++ cell_text (get_or cells i Missing)
joined_first [] zero first within = absurd (omega arith)
joined_first (cell ∷ cells) zero first within = refl
joined_first cells (suc i) first within = absurd (omega arith)

joined_push : (cells : List Cell) (cell : Cell) → 0 < length cells → joined (cells ++ cell ∷ []) ≡ joined cells ++ (44 ∷ cell_text cell)
joined_push [] cell some = absurd (omega arith)
joined_push (first ∷ []) cell some = refl
joined_push (first ∷ next ∷ cells) cell some =
    ap (λ rest. cell_text first ++ (44 ∷ rest)) (joined_push (next ∷ cells) cell (omega arith))
    ∙ sym (append_assoc (cell_text first) (44 ∷ joined (next ∷ cells)) (44 ∷ cell_text cell))

pub joined_later : (cells : List Cell) (i : ℕ) → 0 < i → i < length cells → joined (take (i + 1) cells) ≡ joined (take i cells) ++ (44 ∷ []) ++ cell_text (get_or cells i Missing)
joined_later cells i later within =
    let some = length-take-le i cells (omega arith) in
    ap joined (take_more cells i Missing within)
    ∙ joined_push (take i cells) (get_or cells i Missing) (omega arith)
    ∙ sym (append_assoc (joined (take i cells)) (44 ∷ []) (cell_text (get_or cells i Missing)))

-- what the room and the end of a line go by
pub ruleset joining = (length-line_of, line_room, text_room, comma_room, overwritten_more, length-append, take_all)
