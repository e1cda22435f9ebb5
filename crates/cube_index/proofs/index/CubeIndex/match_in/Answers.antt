use Rattle.std.proofs.Common.{◌≡◌, ◌<◌, ◌-◌, ◌*◌, length, min, arith}
use Rattle.cube_index.specs.Index.{tests_of, values_of}
use Rattle.cube_index.proofs.BlockLists.{block_says, first_in_block, none_in_block}
use Rattle.cube_index.proofs.index.CubeIndex.match_in.Goals as goal

pub returns-then-matching-eq0 : goal.returns-then-matching-eq0
returns-then-matching-eq0 c =
    let index = c.args.self.now in
    let v = values_of c.args.state.now in
    let n = c.args.number in
    let within : n < length index.blocks.items = omega (arith, c.requires.last, c.requires.to, index.enough) in
    none_in_block v (tests_of index.blocks.items) index.count n c.args.from c.args.to c.matching-matching.result c.requires.to
    (block_says v index.blocks.items n c.index.result.now c.saturating_sub.result c.min.result (c.args.from - 64 * n) (min (c.args.to - 64 * n) 64)
    c.bits_between-places.result c.matching-matching.result within c.index.ensures c.saturating_sub.ensures c.min.ensures c.bits_between-places.ensures c.matching-matching.ensures)
    c.if-matching-eq0.true

pub returns : goal.returns
returns c =
    let index = c.args.self.now in
    let v = values_of c.args.state.now in
    let n = c.args.number in
    let within : n < length index.blocks.items = omega (arith, c.requires.last, c.requires.to, index.enough) in
    first_in_block v (tests_of index.blocks.items) index.count n c.args.from c.args.to c.matching-matching.result c.requires.to
    (block_says v index.blocks.items n c.index.result.now c.saturating_sub.result c.min.result (c.args.from - 64 * n) (min (c.args.to - 64 * n) 64)
    c.bits_between-places.result c.matching-matching.result within c.index.ensures c.saturating_sub.ensures c.min.ensures c.bits_between-places.ensures c.matching-matching.ensures)
    (omega (arith, c.if-matching-eq0.false)) c.matching-matching.type_inv
