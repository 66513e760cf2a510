-- Where and why a run stops: the number, the field and the layer of each refusal, and the line that tells a fault.
use Rattle.std.specs.Prelude.{◌≡◌, ℕ, ◌<◌, ◌≤◌, List, [], ◌∷◌, ◌++◌, length, None, Option, Ok, Err, codes, decimal, Result}
use Rattle.std.specs.Option.{unwrap_or}
use Rattle.cells.specs.Cells.{overwritten_text}
use Rattle.fields.specs.Places.{place_words}
use Rattle.fields.specs.Rows.{line_of}
use Rattle.group.specs.Refusals.{meaning, book_refusal_number as book_number}
use Rattle.journal.specs.Refusals.{read_refusal_field, read_refusal_number, read_words}
use Rattle.settlement.specs.declared.fault.Layer.{Layer}
use Rattle.settlement.specs.declared.fault.Layer.TheVariants as layers
use Rattle.settlement.specs.declared.fault.RunFault.{RunFault}
use Rattle.settlement.specs.declared.fault.RunRefusal.{RunRefusal}
use Rattle.settlement.specs.declared.fault.RunRefusal.TheVariants.{Journal, Line, Book, Room}
use Rattle.settlement.specs.declared.refusal.OutputRefusal.{OutputRefusal}
use Rattle.settlement.specs.declared.refusal.OutputRefusal.TheVariants as output

-- the number of a refusal
abbrev pub run_refusal_number : RunRefusal → ℕ
run_refusal_number Journal = 24
run_refusal_number (Line refusal) = read_refusal_number refusal
run_refusal_number (Book refusal) = book_number refusal
run_refusal_number Room = 27

-- the same refusal in words
abbrev pub run_refusal_words : RunRefusal → List ℕ
run_refusal_words Journal = codes "the journal is over 65536 bytes, or does not begin with its line of names"
run_refusal_words (Line refusal) = read_words refusal
run_refusal_words (Book refusal) = (meaning refusal).words
run_refusal_words Room = codes "the output has under 4096 bytes left"

-- the first field that has not its form, where that is why
abbrev pub run_refusal_field : RunRefusal → Option ℕ
run_refusal_field Journal = None
run_refusal_field (Line refusal) = read_refusal_field refusal
run_refusal_field (Book refusal) = None
run_refusal_field Room = None

-- the layer that refuses
abbrev pub run_refusal_layer : RunRefusal → Layer
run_refusal_layer Journal = layers.Text
run_refusal_layer (Line refusal) = layers.Text
run_refusal_layer (Book refusal) = layers.Book
run_refusal_layer Room = layers.Text

-- the fault of a refusal at a line
abbrev pub fault_at : (line : ℕ) → RunRefusal → RunFault
fault_at line refusal =
    record { line = line; field = run_refusal_field refusal; layer = run_refusal_layer refusal; refusal = refusal }

-- a fault in words, with the number of its refusal
abbrev pub run_fault_words : RunFault → List ℕ
run_fault_words fault =
    place_words fault.line fault.field
    (run_refusal_words fault.refusal ++ (codes " (" ++ (decimal (run_refusal_number fault.refusal) ++ codes ")")))

-- the word of a layer
abbrev pub layer_word : Layer → List ℕ
layer_word layers.Book = codes "BOOK"
layer_word layers.Text = codes "TEXT"

-- where and why a run stopped, with 0 for the field where none is meant
abbrev pub fault_line : RunFault → List ℕ
fault_line fault =
    line_of
    (codes "FAULT" ∷ decimal fault.line ∷ decimal (unwrap_or fault.field 0) ∷ layer_word fault.layer
    ∷ decimal (run_refusal_number fault.refusal) ∷ [])

-- what the writer of a fault answers and leaves: it refuses a slice under 64 bytes
abbrev pub WritesFault : RunFault → List ℕ → List ℕ → Result ℕ OutputRefusal → Type 0
WritesFault fault old new (Ok end) =
    (64 ≤ length old) × (end ≡ length (fault_line fault)) × (new ≡ overwritten_text old 0 (fault_line fault))
WritesFault fault old new (Err output.Room) = (length old < 64) × (new ≡ old)
