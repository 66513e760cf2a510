use Rattle.std.proofs.lemmas.Slice.Eq.{strip_prefix_is}
use Rattle.journal.proofs.names.after_names.Goals as goal
use Rattle.std.proofs.lemmas.Bool.Decides.{Decides-eqb}

pub returns : goal.returns
returns c =
    let after = strip_prefix_is Decides-eqb c.args.text.now c.names.result.now c.strip_prefix.result c.strip_prefix.ensures.cases in
    simp c.names.ensures at after
