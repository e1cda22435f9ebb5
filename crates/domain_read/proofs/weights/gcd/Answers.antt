use Rattle.std.proofs.Common.{◌≡◌, ◌<◌, sym, arith}
use Rattle.std.proofs.lemmas.Nat.Gcd.{IsGcd-from_mod, IsGcd-from_zero, le_of_dvd}
use Rattle.domain_read.proofs.Multiples.{gcd_is}
use Rattle.domain_read.proofs.weights.gcd.Goals as goal

pub loop-lesser-preserved : goal.loop-lesser-preserved
loop-lesser-preserved c =
    (omega (arith, c.loop-lesser-test.true), λ g h. c.loop-lesser.invariant.1 g (IsGcd-from_mod c.loop-lesser.greater c.loop-lesser.lesser g h))

pub returns-clause-value : goal.returns-clause-value
returns-clause-value c =
    let none : c.loop-lesser.lesser ≡ 0 = omega (arith, c.loop-lesser-test.false) in
    let some : 0 < c.loop-lesser.greater = c.loop-lesser.invariant.0 in
    sym (gcd_is c.args.a c.args.b c.loop-lesser.greater c.requires.a some (c.loop-lesser.invariant.1 c.loop-lesser.greater (IsGcd-from_zero c.loop-lesser.greater c.loop-lesser.lesser none)))

pub returns-clause-within : goal.returns-clause-within
returns-clause-within c =
    let none : c.loop-lesser.lesser ≡ 0 = omega (arith, c.loop-lesser-test.false) in
    le_of_dvd c.requires.a (c.loop-lesser.invariant.1 c.loop-lesser.greater (IsGcd-from_zero c.loop-lesser.greater c.loop-lesser.lesser none)).0
