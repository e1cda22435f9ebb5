use Rattle.std.proofs.Common.{◌≤◌, arith}
use Rattle.cube_index.proofs.Bits.{has_bit_between}
use Rattle.cube_index.proofs.blocks.bits_between.Goals as goal

pub returns : goal.returns
returns c = λ k h.
    let low : c.args.from ≤ 64 = omega (arith, c.requires.from, c.requires.to) in
    has_bit_between c.args.from c.args.to k low c.requires.to h
