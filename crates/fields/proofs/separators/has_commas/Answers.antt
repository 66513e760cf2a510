use Rattle.std.proofs.Common.{◌≡◌, ◌+◌, ◌*◌, ◌/◌, length, refl, arith}
use Rattle.std.proofs.lemmas.Bool.{false≢true}
use Rattle.fields.proofs.Counting.{block_counted, commas_in, rest_counted}
use Rattle.fields.proofs.separators.has_commas.Goals as goal

pub loop-block-preserved : goal.loop-block-preserved
loop-block-preserved c = omega (arith, block_counted c.args.text.now (16 * c.loop-block.block) 16 (16 * (c.loop-block.block + 1)) (omega arith), c.commas_of_block.ensures)

pub returns-then-total-count : goal.returns-then-total-count
returns-then-total-count c =
    let text = c.args.text.now in
    let next = 16 * (c.loop-block.block + 1) in
    let front = block_counted text (16 * c.loop-block.block) 16 next (omega arith) in
    (λ no. absurd (false≢true no), λ is. absurd (omega (arith, front, rest_counted text next next refl, c.commas_of_block.ensures, is)))

pub returns : goal.returns
returns c =
    let text = c.args.text.now in
    let whole : c.loop-block.total + c.commas_of_few.result ≡ commas_in text = omega (arith, rest_counted text (16 * c.loop-block.block) (16 * (length text / 16)) (omega arith), c.commas_of_few.ensures) in
    grind (arith, whole)
