use Rattle.std.proofs.Common.{◌≡◌, ◌+◌, suc, arith, cond, drop, slice_get, Some, sym, ap, ◌∙◌}
use Rattle.std.proofs.lemmas.Option.{slice_get-get_or}
use Rattle.exec_graph.specs.Moves.{configuration_of}
use Rattle.plan_picture.specs.Places.{configurations_of, place_from}
use Rattle.plan_picture.proofs.Found.{looked}
use Rattle.plan_picture.proofs.places.number_of.Goals as goal

pub returns-then-eq : goal.returns-then-eq
returns-then-eq c = λ n wx ww.
    let xs = c.args.places.now in
    let w = c.args.wanted.now in
    let i = c.loop-number.number in
    let p = c.index-places-number.result in
    let at : slice_get xs i ≡ Some p = slice_get-get_or xs i p c.loop-number-test.true ∙ ap Some (sym c.index-places-number.is) in
    let rest = place_from (suc i) (configurations_of n (drop (suc i) xs)) (configuration_of n w) in
    sym (ap (λ b. cond b (Some i) rest) (sym c.eq.ensures ∙ c.if-eq.true)) ∙ sym (looked n xs i p w wx ww at) ∙ c.loop-number.invariant n wx ww

pub loop-number-preserved : goal.loop-number-preserved
loop-number-preserved c = λ n wx ww.
    let xs = c.args.places.now in
    let w = c.args.wanted.now in
    let i = c.loop-number.number in
    let p = c.index-places-number.result in
    let at : slice_get xs i ≡ Some p = slice_get-get_or xs i p c.loop-number-test.true ∙ ap Some (sym c.index-places-number.is) in
    let rest = place_from (suc i) (configurations_of n (drop (suc i) xs)) (configuration_of n w) in
    let next : i + 1 ≡ suc i = omega arith in
    ap (λ k. place_from k (configurations_of n (drop k xs)) (configuration_of n w)) next
    ∙ sym (ap (λ b. cond b (Some i) rest) (sym c.eq.ensures ∙ c.if-eq.false)) ∙ sym (looked n xs i p w wx ww at) ∙ c.loop-number.invariant n wx ww
