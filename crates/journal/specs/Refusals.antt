-- The refusals of the readers and the writers of lines: the number of each, and its words.
use Rattle.std.specs.Prelude.{ℕ, List, None, Option, Some, codes}
use Rattle.fields.specs.Places.{place_words}
use Rattle.journal.specs.declared.refusal.LineFault.{LineFault}
use Rattle.journal.specs.declared.refusal.ReadRefusal.{ReadRefusal}
use Rattle.journal.specs.declared.refusal.ReadRefusal.TheVariants.{Fields, Form}
use Rattle.journal.specs.declared.refusal.WriteRefusal.{WriteRefusal}
use Rattle.journal.specs.declared.refusal.WriteRefusal.TheVariants as writing

-- the number of a refusal of the reader of a line
abbrev pub read_refusal_number : ReadRefusal → ℕ
read_refusal_number Fields = 25
read_refusal_number (Form field) = 26

-- the same refusal in words
abbrev pub read_words : ReadRefusal → List ℕ
read_words Fields = codes "this is no whole line of seven fields"
read_words (Form field) = codes "this is not written as its place in the line asks"

-- the first field that has not its form, where that is why
abbrev pub read_refusal_field : ReadRefusal → Option ℕ
read_refusal_field Fields = None
read_refusal_field (Form field) = Some field

-- the fault of a line in words: where and why it is not read
abbrev pub line_fault_words : LineFault → List ℕ
line_fault_words fault =
    place_words fault.line (read_refusal_field fault.refusal) (read_words fault.refusal)

-- the number of a refusal of a writer of a line
abbrev pub write_refusal_number : WriteRefusal → ℕ
write_refusal_number writing.Form = 26
write_refusal_number writing.Room = 27

-- the same refusal in words
abbrev pub write_words : WriteRefusal → List ℕ
write_words writing.Form =
    codes "a number of the line has more than nine digits, or its day comes after 2099"
write_words writing.Room = codes "no room is left for 64 bytes, the most that a line takes"
