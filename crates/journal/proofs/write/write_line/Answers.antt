use Rattle.journal.proofs.Lengths.{short_line}
use Rattle.journal.proofs.RoundTrips.{read_then_written, written_then_read}
use Rattle.journal.proofs.write.write_line.Goals as goal

pub returns : goal.returns
returns c =
    let line = c.args.line in
    let written = c.put_tested.ensures in
    record {
      written = written;
      within_64 = short_line line;
      written_then_read = written_then_read line c.args.out.now c.put_tested.new.out c.put_tested.result written;
      read_then_written = read_then_written line c.args.out.now c.put_tested.new.out c.put_tested.result written;
    }
