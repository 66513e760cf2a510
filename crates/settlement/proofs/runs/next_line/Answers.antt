use Rattle.std.proofs.Common.{arith}
use Rattle.std.proofs.lemmas.Grind.{common_steps}
use Rattle.settlement.proofs.Lining.{cut_after_feed, cut_at_end}
use Rattle.settlement.proofs.runs.next_line.Goals as goal
use Rattle.settlement.proofs.runs.next_line.Goals.{in-Some, in-None}

pub returns : goal.returns
returns c =
    elim c.match-next_line_feed.branch [
      | in-Some w ↦ cut_after_feed c.args.text.now w.in-Some.feed c.match-next_line_feed.end _ _ w.in-Some.ensures w.end-is c.split_at.ensures.front c.split_at.ensures.back
      | in-None w ↦ cut_at_end c.args.text.now c.match-next_line_feed.end _ _ (grind (arith, common_steps)) w.in-None.ensures (grind (arith, common_steps)) c.split_at.ensures.front c.split_at.ensures.back
    ]
