-- Texts parted by commas, and a line of them.
use Rattle.std.specs.Prelude.{ℕ, List, [], ◌∷◌, ◌++◌}
use Rattle.fields.specs.Bytes.{comma, line_feed}

-- the texts parted by commas
abbrev pub texts_row : List (List ℕ) → List ℕ
texts_row [] = []
texts_row (text ∷ []) = text
texts_row (text ∷ next ∷ texts) = text ++ (comma ∷ texts_row (next ∷ texts))

-- the same as a line, which ends in a line feed
abbrev pub line_of : List (List ℕ) → List ℕ
line_of texts = texts_row texts ++ (line_feed ∷ [])
