-- How long the lines of a journal are at most.
use Rattle.std.proofs.Common.{◌≤◌, [], ◌∷◌, length, codes, decimal, le_trans, arith, lit≤}
use Rattle.fields.proofs.Widths.{digits_9, line_within, signed_9}
use Rattle.fields.specs.Texts.{day_text}
use Rattle.journal.specs.Lines.{IsWritable, line_text}
use Rattle.journal.specs.Words.{flow_word, zone_word}
use Rattle.journal.specs.declared.line.Line.{Line}
use Rattle.journal.specs.declared.line.Line.TheVariants.{Enter, Issue, Year}
use Rattle.ledger.specs.declared.entry.Entry.TheVariants.{Change, Correction, Payment, Reading}
use Rattle.ledger.specs.declared.zone.Flow.{Flow}
use Rattle.ledger.specs.declared.zone.Flow.TheVariants.{Consumed, Delivered}
use Rattle.ledger.specs.declared.zone.Zone.{Zone}
use Rattle.ledger.specs.declared.zone.Zone.TheVariants.{Day, Night}
use Rattle.std.specs.Fmt.{signed_decimal}

zone_short : (zone : Zone) → length (zone_word zone) ≤ 5
zone_short Day = omega arith
zone_short Night = omega arith

flow_short : (flow : Flow) → length (flow_word flow) ≤ 4
flow_short Consumed = omega arith
flow_short Delivered = omega arith

-- the lines of a journal
pub short_line : (line : Line) → IsWritable line → length (line_text line) ≤ 64
short_line (Enter (Reading register day value)) fine =
    le_trans
    (line_within (codes "READ") (decimal register.place ∷ zone_word register.zone ∷ flow_word register.flow ∷ decimal value ∷ codes "-" ∷ day_text day ∷ []) 4 (9 ∷ 5 ∷ 4 ∷ 9 ∷ 1 ∷ 10 ∷ [])
    (omega arith, (digits_9 register.place fine.0, (zone_short register.zone, (flow_short register.flow, (digits_9 value fine.1, (omega arith, (omega arith, tt))))))))
    (lit≤ tt)
short_line (Enter (Change register day value start)) fine =
    le_trans
    (line_within (codes "SWAP") (decimal register.place ∷ zone_word register.zone ∷ flow_word register.flow ∷ decimal value ∷ decimal start ∷ day_text day ∷ []) 4 (9 ∷ 5 ∷ 4 ∷ 9 ∷ 9 ∷ 10 ∷ [])
    (omega arith, (digits_9 register.place fine.0, (zone_short register.zone, (flow_short register.flow, (digits_9 value fine.1, (digits_9 start fine.2, (omega arith, tt))))))))
    (lit≤ tt)
short_line (Enter (Correction register quantity)) fine =
    le_trans
    (line_within (codes "CORR") (decimal register.place ∷ zone_word register.zone ∷ flow_word register.flow ∷ signed_decimal quantity ∷ codes "-" ∷ codes "-" ∷ []) 4 (9 ∷ 5 ∷ 4 ∷ 10 ∷ 1 ∷ 1 ∷ [])
    (omega arith, (digits_9 register.place fine.0, (zone_short register.zone, (flow_short register.flow, (signed_9 quantity fine.1, (omega arith, (omega arith, tt))))))))
    (lit≤ tt)
short_line (Enter (Payment place drams)) fine =
    le_trans
    (line_within (codes "PAY") (decimal place ∷ codes "-" ∷ codes "-" ∷ decimal drams ∷ codes "-" ∷ codes "-" ∷ []) 3 (9 ∷ 1 ∷ 1 ∷ 9 ∷ 1 ∷ 1 ∷ [])
    (omega arith, (digits_9 place fine.0, (omega arith, (omega arith, (digits_9 drams fine.1, (omega arith, (omega arith, tt))))))))
    (lit≤ tt)
short_line Issue fine = omega arith
short_line Year fine = omega arith
