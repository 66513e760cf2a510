-- What the layer of parts holds: the parts of the 32 places in ten-thousandths, and the rule below.
use Rattle.std.specs.Prelude.{ℕ, List}
use Rattle.sharing.specs.declared.parts.Parts.{Parts}

-- the part of each place
abbrev pub parts_of : {R : Type 0} → Parts R → List ℕ
parts_of layer = layer.parts

-- the rule that shares what the parts leave
abbrev pub rule_below : {R : Type 0} → Parts R → R
rule_below layer = layer.rule
