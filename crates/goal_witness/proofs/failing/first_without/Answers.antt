use Rattle.std.proofs.Common.{◌≡◌, ◌<◌, true, length, sym, ◌∙◌, subst, arith}
use Rattle.std.proofs.lemmas.Grind.{get_or_default_zero}
use Rattle.exec_graph.specs.Values.{followers_at}
use Rattle.plan_check.specs.Labels.{mark_at}
use Rattle.plan_witness.proofs.Taken.{contained_at}
use Rattle.goal_witness.proofs.failing.first_without.Goals as goal

pub is_marked-requires : goal.is_marked-requires
is_marked-requires g c =
    let next = followers_at c.args.graph.now c.args.number in
    let l : c.loop-k.k < length next = omega (arith, c.loop-k-test.true, c.next_len-k-end.ensures) in
    let f = c.next_at-next.result in
    let b = c.requires.inside c.args.number f c.requires.number (c.loop-k.k, l, get_or_default_zero next c.loop-k.k f l ∙ sym c.next_at-next.ensures.next) in
    omega (arith, b, c.requires.count)

pub returns-clause-none : goal.returns-clause-none
returns-clause-none g c = λ j follows.
    let at = contained_at (followers_at c.args.graph.now c.args.number) j follows in
    let l = at.1 in
    subst (λ k. mark_at c.args.marks.now k ≡ true) at.2 (c.loop-k.invariant at.0 (omega (arith, l, c.loop-k-test.false, c.next_len-k-end.ensures)))
