use Rattle.std.proofs.Common.{◌≡◌, ◌+◌, length}
use Rattle.fields.proofs.Counting.{commas_in}
use Rattle.fields.proofs.Parting.{Leads}
use Rattle.fields.proofs.separators.cut_into.Given as goal

abbrev pub invariant-loop-place : goal.invariant-loop-place
invariant-loop-place l = record {
  left : l.place + commas_in l.rest + 1 ≡ length l.fields;
  parted : Leads l.fields l.place l.rest l.text;
}
