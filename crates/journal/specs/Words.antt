-- The words of a journal.
use Rattle.std.specs.Prelude.{◌≡◌, ℕ, List, codes}
use Rattle.fields.specs.Columns.{Form}
use Rattle.ledger.specs.declared.zone.Flow.{Flow}
use Rattle.ledger.specs.declared.zone.Flow.TheVariants.{Consumed, Delivered}
use Rattle.ledger.specs.declared.zone.Zone.{Zone}
use Rattle.ledger.specs.declared.zone.Zone.TheVariants.{Day, Night}
use Rattle.journal.specs.declared.kind.Kind.{Kind}
use Rattle.journal.specs.declared.kind.Kind.TheVariants.{Change, Correction, Issue, Payment, Reading, Year}

-- the word of a zone
abbrev pub zone_word : Zone → List ℕ
zone_word Day = codes "DAY"
zone_word Night = codes "NIGHT"

-- the word of a flow
abbrev pub flow_word : Flow → List ℕ
flow_word Consumed = codes "USE"
flow_word Delivered = codes "GIVE"

-- the word of a kind of line
abbrev pub kind_word : Kind → List ℕ
kind_word Reading = codes "READ"
kind_word Change = codes "SWAP"
kind_word Correction = codes "CORR"
kind_word Payment = codes "PAY"
kind_word Issue = codes "ISSUE"
kind_word Year = codes "YEAR"

-- the word of some value
abbrev pub WordForm : {X : Type 0} → (X → List ℕ) → Form
WordForm {X} word_of bs = (value : X) × (bs ≡ word_of value)

-- the word of a zone
abbrev pub ZoneForm : Form
ZoneForm = WordForm zone_word

-- the word of a flow
abbrev pub FlowForm : Form
FlowForm = WordForm flow_word

-- the word of a kind of line
abbrev pub KindForm : Form
KindForm = WordForm kind_word
