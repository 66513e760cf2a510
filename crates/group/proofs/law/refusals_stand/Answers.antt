use Rattle.group.proofs.Standing as standing
use Rattle.group.proofs.law.refusals_stand.Goals as goal

pub returns : goal.returns
returns c = record {
  entries = standing.entries;
  openings = standing.openings;
  drawings = standing.drawings;
  issues = standing.issues;
  closings = standing.closings;
  members = standing.members;
}
