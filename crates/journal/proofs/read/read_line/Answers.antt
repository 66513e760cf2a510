use Rattle.journal.proofs.Forms.{one_answer, read_exactly}
use Rattle.journal.proofs.read.read_line.Goals as goal

pub returns : goal.returns
returns c =
    let text = c.args.text.now in
    let line = c.args.line in
    let answer = c.line_of.result in
    let read = c.line_of.ensures in
    record {
      read = read;
      exactly = read_exactly text line answer read;
      only = λ other is. one_answer text line other answer is read;
    }
