use Rattle.std.proofs.Common.{◌≡◌, ◌-◌, ◌*◌, ◌+◌, min, take, drop, length, arith, ap, ◌∙◌, sym, length-drop}
use Rattle.std.proofs.lemmas.List.{take_min}
use Rattle.cube_index.proofs.index.block_of.Goals as goal

pub returns : goal.returns
returns c =
    let cubes = c.args.cubes.now in
    let start = 64 * c.args.number in
    let long : length (drop start cubes) ≡ length cubes - start = length-drop start cubes in
    let count : c.min.result - start ≡ min 64 (length (drop start cubes)) = omega (arith, long, c.min.ensures, c.requires) in
    ap (λ n. take n (drop start cubes)) count ∙ take_min 64 (drop start cubes)
