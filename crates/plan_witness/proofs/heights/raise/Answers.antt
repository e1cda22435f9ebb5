use Rattle.std.proofs.Common.{◌+◌, ◌<◌, ◌^◌, ℕ, List, ap, sym, ◌∙◌, subst, arith}
use Rattle.exec_graph.specs.Values.{followers_at, graph_size}
use Rattle.plan_witness.specs.Heights.{IsOneBelow}
use Rattle.plan_witness.specs.Ways.{at}
use Rattle.plan_witness.proofs.Tall.{attained_more, less_room, within_bound}
use Rattle.plan_witness.proofs.heights.raise.Goals as goal

pub least_above-height-requires-clause-small : goal.least_above-height-requires-clause-small
least_above-height-requires-clause-small g c = λ j follows.
    let m = within_bound (graph_size c.args.graph.now) (followers_at c.args.graph.now) c.requires.inside c.args.bound c.args.heights.now.items c.args.number j c.requires.within c.requires.attained c.requires.number follows in
    subst (λ (hs : List ℕ). at hs j + 1 < 2 ^ 64) (sym c.deref.ensures.value) (omega (arith, m, c.ranges.bound.fits))

pub returns-then-height-bound-clause-above : goal.returns-then-height-bound-clause-above
returns-then-height-bound-clause-above g c = λ _ _ _.
    let x = c.least_above-height.ensures.attained (omega (arith, c.if-height-bound.true)) in
    let b = subst (λ (hs : List ℕ). IsOneBelow (followers_at c.args.graph.now) hs c.args.number c.least_above-height.result x.0) c.deref.ensures.value x.1 in
    let m = within_bound (graph_size c.args.graph.now) (followers_at c.args.graph.now) c.requires.inside c.args.bound c.args.heights.now.items c.args.number x.0 c.requires.within c.requires.attained c.requires.number b.follows in
    let lower = b.lower in
    absurd (omega (arith, m, lower, c.if-height-bound.true))

pub returns-clause-attained : goal.returns-clause-attained
returns-clause-attained g c =
    let x = c.least_above-height.ensures.attained (omega (arith, c.if-height-height_at.false)) in
    let b = subst (λ (hs : List ℕ). IsOneBelow (followers_at c.args.graph.now) hs c.args.number c.least_above-height.result x.0) c.deref.ensures.value x.1 in
    attained_more (graph_size c.args.graph.now) (followers_at c.args.graph.now) c.requires.inside c.args.heights.now.items c.args.number c.least_above-height.result x.0 c.requires.attained c.requires.number b

pub returns-clause-less : goal.returns-clause-less
returns-clause-less g c = λ _.
    let here = c.height_at.ensures ∙ ap (λ (hs : List ℕ). at hs c.args.number) c.deref-2.ensures.value in
    let count = c.requires.attained.count in
    less_room c.args.bound c.args.heights.now.items c.args.number c.least_above-height.result (omega (arith, count, c.requires.number)) (omega (arith, here, c.if-height-height_at.false)) (omega (arith, c.if-height-bound.false))
