-- The text of a table: a line of names, a line for each place, and a line of what is left of the pool.
use Rattle.std.specs.Prelude.{ℕ, ◌+◌, List, [], ◌∷◌, ◌++◌, vec_items, codes, decimal, slice_index}
use Rattle.comparison.specs.declared.columns.Column.{Column}
use Rattle.comparison.specs.declared.columns.Comparison.{Comparison}

-- four numbers parted by commas, and a line feed
abbrev four_numbers : ℕ → ℕ → ℕ → ℕ → List ℕ
four_numbers a b c d = decimal a ++ (codes "," ++ (decimal b ++ (codes "," ++ (decimal c ++ (codes "," ++ (decimal d ++ codes "\n"))))))

-- the share of a place, or 0 past the end of the column
abbrev share_at : Column → ℕ → ℕ
share_at column place = slice_index (vec_items column.shares) place

-- the shares of a place by the four rules
abbrev shares_at : Comparison → ℕ → List ℕ
shares_at c place =
    four_numbers (share_at c.line_order place) (share_at c.proportion place)
    (share_at c.parts_over_line_order place) (share_at c.parts_over_proportion place)

-- the place, its need, and its share by each rule
abbrev pub place_row : Comparison → ℕ → ℕ → List ℕ
place_row c place need = decimal place ++ (codes "," ++ (decimal need ++ (codes "," ++ shares_at c place)))

-- the lines of the places from this one on
abbrev pub place_rows : Comparison → ℕ → List ℕ → List ℕ
place_rows c place [] = []
place_rows c place (need ∷ needs) = place_row c place need ++ place_rows c (place + 1) needs

-- what each rule leaves of the pool
abbrev pub last_row : Comparison → List ℕ
last_row c =
    codes "left,-," ++ four_numbers c.line_order.left c.proportion.left c.parts_over_line_order.left c.parts_over_proportion.left

-- the line of names
abbrev pub names_row : List ℕ
names_row = codes "place,need,line_order,proportion,parts_over_line_order,parts_over_proportion\n"

-- the whole table of these needs
abbrev pub table_of : List ℕ → Comparison → List ℕ
table_of needs c = names_row ++ (place_rows c 0 needs ++ last_row c)
