-- A line is told by its kind and its six other fields.
use Rattle.std.proofs.Common.{◌≡◌, ℕ, ◌^◌, ◌<◌, ◌≤◌, if◌then◌else◌, ◌==◌, get_or, ℤ, pos, negsuc, nat_abs, decimal, sym, refl, ap, ◌∙◌, subst, arith}
use lib.Signed.{mag}
use Rattle.fields.proofs.Spelling.{same_day_text}
use Rattle.ledger.specs.declared.entry.Entry.TheVariants.{Change, Correction, Payment, Reading}
use Rattle.ledger.specs.declared.entry.MemberRegister.{MemberRegister}
use Rattle.ledger.specs.declared.zone.Flow.{Flow}
use Rattle.ledger.specs.declared.zone.Flow.TheVariants.{Consumed, Delivered}
use Rattle.ledger.specs.declared.zone.Zone.{Zone}
use Rattle.ledger.specs.declared.zone.Zone.TheVariants.{Day, Night}
use Rattle.std.proofs.lemmas.Fmt.{decimal_injective, signed_decimal_injective}
use Rattle.std.specs.Fmt.{signed_decimal}
use Rattle.journal.specs.Lines.{IsWritable, kind_of, others}
use Rattle.journal.specs.Words.{flow_word, kind_word, zone_word}
use Rattle.journal.specs.declared.kind.Kind.{Kind}
use Rattle.journal.specs.declared.kind.Kind.TheVariants as kinds
use Rattle.journal.specs.declared.line.Line.{Line}
use Rattle.journal.specs.declared.line.Line.TheVariants.{Enter, Issue, Year}

-- ---- words

same_zone : (y z : Zone) → zone_word y ≡ zone_word z → y ≡ z
same_zone Day Day e = refl
same_zone Day Night e = cc
same_zone Night Day e = cc
same_zone Night Night e = refl

same_flow : (y z : Flow) → flow_word y ≡ flow_word z → y ≡ z
same_flow Consumed Consumed e = refl
same_flow Consumed Delivered e = cc
same_flow Delivered Consumed e = cc
same_flow Delivered Delivered e = refl

-- a kind is told by the first byte of its word
abbrev kind_by : ℕ → Kind
kind_by c =
    if c == 82 then kinds.Reading else if c == 83 then kinds.Change else if c == 67 then kinds.Correction else
    if c == 80 then kinds.Payment else if c == 73 then kinds.Issue else kinds.Year

kind_told : (kind : Kind) → kind_by (get_or (kind_word kind) 0 0) ≡ kind
kind_told kinds.Reading = refl
kind_told kinds.Change = refl
kind_told kinds.Correction = refl
kind_told kinds.Payment = refl
kind_told kinds.Issue = refl
kind_told kinds.Year = refl

pub same_kind : (y z : Kind) → kind_word y ≡ kind_word z → y ≡ z
same_kind y z e = sym (kind_told y) ∙ ap (λ bs. kind_by (get_or bs 0 0)) e ∙ kind_told z

-- ---- numbers

same_number : (m n : ℕ) → m ≤ 999999999 → n ≤ 999999999 → decimal m ≡ decimal n → m ≡ n
same_number m n few less e = decimal_injective m n (omega arith) (omega arith) e

within_mag : (z : ℤ) → nat_abs z ≤ 999999999 → mag z < 2 ^ 63
within_mag (pos n) few = omega arith
within_mag (negsuc n) few = omega arith

same_signed : (y z : ℤ) → nat_abs y ≤ 999999999 → nat_abs z ≤ 999999999 → signed_decimal y ≡ signed_decimal z → y ≡ z
same_signed y z few less e = signed_decimal_injective y z (within_mag y few) (within_mag z less) e

-- ---- registers

abbrev register_of : ℕ → Zone → Flow → MemberRegister
register_of place zone flow = record { place = place; zone = zone; flow = flow }

same_register : (r s : MemberRegister) → r.place ≤ 999999999 → s.place ≤ 999999999 → decimal r.place ≡ decimal s.place → zone_word r.zone ≡ zone_word s.zone → flow_word r.flow ≡ flow_word s.flow → r ≡ s
same_register r s few less place zone flow =
    let place_is : r.place ≡ s.place = same_number r.place s.place few less place in
    let zone_is : r.zone ≡ s.zone = same_zone r.zone s.zone zone in
    let flow_is : r.flow ≡ s.flow = same_flow r.flow s.flow flow in
    let same : register_of r.place r.zone r.flow ≡ register_of s.place s.zone s.flow = cc in
    same

-- ---- lines

-- what a line of any kind holds, with 0 or any register for what it has not
record Content : Type 0 where
  register : MemberRegister
  value : ℕ
  quantity : ℤ
  start : ℕ
  day : ℕ

abbrev content : Line → Content
content (Enter (Reading register day value)) = record { register = register; value = value; quantity = pos 0; start = 0; day = day }
content (Enter (Change register day value start)) = record { register = register; value = value; quantity = pos 0; start = start; day = day }
content (Enter (Correction register quantity)) = record { register = register; value = 0; quantity = quantity; start = 0; day = 0 }
content (Enter (Payment place drams)) = record { register = register_of place Day Consumed; value = drams; quantity = pos 0; start = 0; day = 0 }
content Issue = record { register = register_of 0 Day Consumed; value = 0; quantity = pos 0; start = 0; day = 0 }
content Year = record { register = register_of 0 Day Consumed; value = 0; quantity = pos 0; start = 0; day = 0 }

-- the line of this kind that holds it
abbrev rebuilt : Kind → Content → Line
rebuilt kinds.Reading c = Enter (Reading c.register c.day c.value)
rebuilt kinds.Change c = Enter (Change c.register c.day c.value c.start)
rebuilt kinds.Correction c = Enter (Correction c.register c.quantity)
rebuilt kinds.Payment c = Enter (Payment c.register.place c.value)
rebuilt kinds.Issue c = Issue
rebuilt kinds.Year c = Year

rebuilt_same : (line : Line) → rebuilt (kind_of line) (content line) ≡ line
rebuilt_same (Enter (Reading register day value)) = refl
rebuilt_same (Enter (Change register day value start)) = refl
rebuilt_same (Enter (Correction register quantity)) = refl
rebuilt_same (Enter (Payment place drams)) = refl
rebuilt_same Issue = refl
rebuilt_same Year = refl

-- two contents of a kind with the same texts rebuild the same line
same_rebuilt : (kind : Kind) (c d : Content) → IsWritable (rebuilt kind c) → IsWritable (rebuilt kind d) → others (rebuilt kind c) ≡ others (rebuilt kind d) → rebuilt kind c ≡ rebuilt kind d
same_rebuilt kinds.Reading c d fine too e =
    let register : c.register ≡ d.register = same_register c.register d.register fine.0 too.0 (cc) (cc) (cc) in
    let value : c.value ≡ d.value = same_number c.value d.value fine.1 too.1 (cc) in
    let day : c.day ≡ d.day = same_day_text c.day d.day fine.2 too.2 (cc) in
    cc
same_rebuilt kinds.Change c d fine too e =
    let register : c.register ≡ d.register = same_register c.register d.register fine.0 too.0 (cc) (cc) (cc) in
    let value : c.value ≡ d.value = same_number c.value d.value fine.1 too.1 (cc) in
    let start : c.start ≡ d.start = same_number c.start d.start fine.2 too.2 (cc) in
    let day : c.day ≡ d.day = same_day_text c.day d.day fine.3 too.3 (cc) in
    cc
same_rebuilt kinds.Correction c d fine too e =
    let register : c.register ≡ d.register = same_register c.register d.register fine.0 too.0 (cc) (cc) (cc) in
    let quantity : c.quantity ≡ d.quantity = same_signed c.quantity d.quantity fine.1 too.1 (cc) in
    cc
same_rebuilt kinds.Payment c d fine too e =
    let place : c.register.place ≡ d.register.place = same_number c.register.place d.register.place fine.0 too.0 (cc) in
    let drams : c.value ≡ d.value = same_number c.value d.value fine.1 too.1 (cc) in
    cc
same_rebuilt kinds.Issue c d fine too e = refl
same_rebuilt kinds.Year c d fine too e = refl

-- two lines of the same kind with the same texts are the same
pub same_line : (l m : Line) → IsWritable l → IsWritable m → kind_of l ≡ kind_of m → others l ≡ others m → l ≡ m
same_line l m fine too kind e =
    let l_is = ap (λ k. rebuilt k (content l)) (sym kind) ∙ rebuilt_same l in
    let m_is = rebuilt_same m in
    let same = same_rebuilt (kind_of m) (content l) (content m) (subst IsWritable (sym l_is) fine) (subst IsWritable (sym m_is) too)
    (ap others l_is ∙ e ∙ sym (ap others m_is)) in
    sym l_is ∙ same ∙ m_is
