use Rattle.std.proofs.Common.{eqb, ap, ◌∙◌, arith, w8}
use Rattle.std.specs.Int.RustNames.{count_ones}
use Rattle.std.specs.Simd.Lanes.{chunk}
use Rattle.std.proofs.lemmas.Simd.{bitmask_splat, length-chunk, ones-mask_l}
use Rattle.fields.proofs.separators.commas_of_block.Goals as goal

pub returns : goal.returns
returns c =
    let bytes = chunk c.args.at 16 c.args.text.now in
    ap count_ones (bitmask_splat w8 eqb bytes 16 44 (length-chunk c.args.at 16 c.args.text.now c.requires) (omega arith)) ∙ ones-mask_l (λ byte. eqb byte 44) bytes
