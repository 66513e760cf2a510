-- How long the parts of a line of the output are at most.
use Rattle.std.proofs.Common.{◌≤◌, length, arith}
use Rattle.fields.proofs.Widths.{digits_8, digits_32, digits_64, signed_64}
use Rattle.settlement.specs.Faults.{layer_word}
use Rattle.settlement.specs.declared.fault.Layer.{Layer}
use Rattle.settlement.specs.declared.fault.Layer.TheVariants.{Book, Text}
use Rattle.std.proofs.lemmas.List.{length-append}

pub length_layer_word : (layer : Layer) → length (layer_word layer) ≤ 4
length_layer_word Book = omega arith
length_layer_word Text = omega arith

-- the lengths of numbers by their types, of a word, and of a line made of these
pub ruleset lengths = (length-append, digits_8, digits_32, digits_64, signed_64, length_layer_word)
