-- What is told by zone, and what by flow.
use Rattle.ledger.specs.declared.zone.ByFlow.{ByFlow}
use Rattle.ledger.specs.declared.zone.ByZone.{ByZone}
use Rattle.ledger.specs.declared.zone.Flow.{Flow}
use Rattle.ledger.specs.declared.zone.Flow.TheVariants.{Consumed, Delivered}
use Rattle.ledger.specs.declared.zone.Zone.{Zone}
use Rattle.ledger.specs.declared.zone.Zone.TheVariants.{Day, Night}

-- the value in a zone
abbrev pub in_zone : {T : Type 0} → ByZone T → Zone → T
in_zone by Day = by.day
in_zone by Night = by.night

-- the same values but for one zone
abbrev pub with_zone : {T : Type 0} → Zone → T → ByZone T → ByZone T
with_zone Day value by = record by { day = value }
with_zone Night value by = record by { night = value }

-- the value of a flow
abbrev pub in_flow : {T : Type 0} → ByFlow T → Flow → T
in_flow by Consumed = by.consumed
in_flow by Delivered = by.delivered

-- the same values but for one flow
abbrev pub with_flow : {T : Type 0} → Flow → T → ByFlow T → ByFlow T
with_flow Consumed value by = record by { consumed = value }
with_flow Delivered value by = record by { delivered = value }
