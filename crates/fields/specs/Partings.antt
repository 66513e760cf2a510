-- How commas part a text.
use Rattle.std.specs.Borrow.{Bor}
use Rattle.std.specs.Prelude.{All, ◌≡◌, ℕ, ◌<◌, List, length, map, Option, MatchOption}
use Rattle.fields.specs.Bytes.{comma}
use Rattle.fields.specs.Cuts.{Lacks}
use Rattle.fields.specs.Rows.{texts_row}

-- the bytes are these texts, at least one and none with a comma, parted by commas
pub record IsParted (texts : List (List ℕ)) (bs : List ℕ) : Type 0 where
  pub some : 0 < length texts
  pub commaless : All (Lacks comma) texts
  pub whole : bs ≡ texts_row texts

-- the bytes of each part
abbrev pub part_texts : List (Bor (List ℕ)) → List (List ℕ)
part_texts parts = map (λ part. part.now) parts

-- the slice holds the fields of a text that has just as many; or the text has not, and the slice is as it was
abbrev pub CutsInto : List ℕ
    → (old : List (Bor (List ℕ))) → Option (Unit {0}) → (new : List (Bor (List ℕ))) → Type 0
CutsInto bs old r new =
    MatchOption r
    (((texts : List (List ℕ)) → length texts ≡ length old → IsParted texts bs → ⊥) × (new ≡ old))
    (λ done. (length new ≡ length old) × IsParted (part_texts new) bs)
