use Rattle.std.proofs.Common.{◌<◌, ◌≤◌, ◌+◌, length, sym, ◌∙◌, subst, arith}
use Rattle.std.proofs.lemmas.Grind.{get_or_default_zero}
use Rattle.exec_graph.specs.Values.{followers_at}
use Rattle.plan_witness.specs.Ways.{at}
use Rattle.plan_witness.proofs.Taken.{contained_at}
use Rattle.plan_witness.proofs.heights.least_above.Goals as goal

pub height_at-above-requires : goal.height_at-above-requires
height_at-above-requires g c =
    let next = followers_at c.args.graph.now c.args.number in
    let lt : c.loop-k.k < length next = omega (arith, c.loop-k-test.true, c.next_len-k-end.ensures) in
    let b = c.requires.inside c.args.number c.next_at-follower.result c.requires.number (c.loop-k.k, lt, get_or_default_zero next c.loop-k.k c.next_at-follower.result lt ∙ sym c.next_at-follower.ensures.next) in
    omega (arith, b, c.requires.count)

pub returns-clause-above : goal.returns-clause-above
returns-clause-above g c = λ j follows.
    let stands = contained_at (followers_at c.args.graph.now c.args.number) j follows in
    let inside = stands.1 in
    subst (λ m. at c.args.heights.now m + 1 ≤ c.loop-k.height) stands.2 (c.loop-k.invariant.above stands.0 (omega (arith, inside, c.loop-k-test.false, c.next_len-k-end.ensures)))
