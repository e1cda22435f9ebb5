use Rattle.std.proofs.Common.{◌∙◌, sym}
use Rattle.counterexamples.proofs.Placed.{looked_at, looked_past}
use Rattle.counterexamples.proofs.numbers.place_of.Goals as goal

pub returns-then-eq : goal.returns-then-eq
returns-then-eq c = λ n wx ww.
    looked_at n c.args.states.now c.loop-place.place c.index-states-place.result c.args.state.now _ wx ww c.loop-place-test.true c.index-states-place.is (sym c.eq.ensures ∙ c.if-eq.true)
    (c.loop-place.invariant n wx ww)

pub loop-place-preserved : goal.loop-place-preserved
loop-place-preserved c = λ n wx ww.
    looked_past n c.args.states.now c.loop-place.place c.index-states-place.result c.args.state.now _ wx ww c.loop-place-test.true c.index-states-place.is (sym c.eq.ensures ∙ c.if-eq.false)
    (c.loop-place.invariant n wx ww)
