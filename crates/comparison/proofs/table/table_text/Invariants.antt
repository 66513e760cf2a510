use Rattle.std.proofs.Common.{◌≡◌, ◌++◌, drop, string_bytes}
use Rattle.comparison.specs.Tables.{names_row, place_rows}
use Rattle.comparison.proofs.table.table_text.Given as goal

abbrev pub invariant-loop-place : goal.invariant-loop-place
invariant-loop-place l =
    string_bytes l.text ++ place_rows l.c l.place (drop l.place l.needs) ≡ names_row ++ place_rows l.c 0 l.needs
