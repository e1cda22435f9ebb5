use Rattle.std.proofs.Common.{◌≡◌, ◌<◌, ◌+◌, get_or, length, sym, ◌∙◌, subst, arith}
use borrow.Author.Count.{below_more}
use Rattle.std.proofs.lemmas.Grind.{get_or_default_zero}
use Rattle.exec_graph.specs.Values.{followers_at}
use Rattle.plan_witness.specs.Ways.{at}
use Rattle.plan_witness.proofs.Taken.{contained_at}
use Rattle.plan_witness.proofs.heights.first_below.Goals as goal

pub is_one_below-requires-clause-other : goal.is_one_below-requires-clause-other
is_one_below-requires-clause-other g c =
    let next = followers_at c.args.graph.now c.args.number in
    let lt : c.loop-k.k < length next = omega (arith, c.loop-k-test.true, c.next_len-k-end.ensures) in
    let b = c.requires.inside c.args.number c.next_at-follower.result c.requires.number (c.loop-k.k, lt, get_or_default_zero next c.loop-k.k c.next_at-follower.result lt ∙ sym c.next_at-follower.ensures.next) in
    omega (arith, b, c.requires.count)

pub returns-then-is_one_below-clause-found : goal.returns-then-is_one_below-clause-found
returns-then-is_one_below-clause-found g c =
    let next = followers_at c.args.graph.now c.args.number in
    let lt : c.loop-k.k < length next = omega (arith, c.loop-k-test.true, c.next_len-k-end.ensures) in
    record {
      follows = (c.loop-k.k, lt, get_or_default_zero next c.loop-k.k c.next_at-follower.result lt ∙ sym c.next_at-follower.ensures.next);
      lower = c.is_one_below.ensures.lower c.if-is_one_below.true;
    }

pub loop-k-preserved : goal.loop-k-preserved
loop-k-preserved g c =
    let heights = c.args.heights.now in
    let number = c.args.number in
    below_more (λ m. at heights (get_or (followers_at c.args.graph.now number) m 0) + 1 ≡ at heights number → ⊥) c.loop-k.k c.loop-k.invariant
    (λ e. c.is_one_below.ensures.not c.if-is_one_below.false (subst (λ j. at heights j + 1 ≡ at heights number) (sym c.next_at-follower.ensures.next) e))

pub returns-clause-none : goal.returns-clause-none
returns-clause-none g c = λ x.
    let heights = c.args.heights.now in
    let number = c.args.number in
    let below = x.1 in
    let stands = contained_at (followers_at c.args.graph.now number) x.0 below.follows in
    c.loop-k.invariant stands.0 (let l = stands.1 in omega (arith, l, c.loop-k-test.false, c.next_len-k-end.ensures)) (subst (λ j. at heights j + 1 ≡ at heights number) (sym stands.2) below.lower)
