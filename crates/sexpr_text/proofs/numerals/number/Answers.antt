use Rattle.std.proofs.Common.{◌≡◌, ◌<◌, ◌∙◌, ap, take, arith}
use Rattle.std.specs.Str.Parse.{digits_value}
use Rattle.sexpr_text.proofs.Digits.{number_so_far, small_number}
use Rattle.std.proofs.lemmas.List.{take_all}
use Rattle.sexpr_text.proofs.numerals.number.Goals as goal

pub overflow_mul-number : goal.overflow_mul-number
overflow_mul-number c =
    let s = number_so_far c.args.digits.now c.loop-digit.digit-index c.requires (omega arith) in
    let e : c.loop-digit.number ≡ digits_value 10 (take c.loop-digit.digit-index c.args.digits.now) = c.loop-digit.invariant in
    let more = s.more in let small = s.small in omega arith

pub overflow_add-number : goal.overflow_add-number
overflow_add-number c =
    let s = number_so_far c.args.digits.now c.loop-digit.digit-index c.requires (omega arith) in
    let e : c.loop-digit.number ≡ digits_value 10 (take c.loop-digit.digit-index c.args.digits.now) = c.loop-digit.invariant in
    let more = s.more in let small = s.small in omega arith

pub loop-digit-preserved : goal.loop-digit-preserved
loop-digit-preserved c =
    let s = number_so_far c.args.digits.now c.loop-digit.digit-index c.requires (omega arith) in
    let e : c.loop-digit.number ≡ digits_value 10 (take c.loop-digit.digit-index c.args.digits.now) = c.loop-digit.invariant in
    let more = s.more in omega arith

pub returns-clause-bound : goal.returns-clause-bound
returns-clause-bound c =
    let e : c.loop-digit.number ≡ digits_value 10 c.args.digits.now = c.loop-digit.invariant ∙ ap (digits_value 10) (take_all c.loop-digit.digit-index c.args.digits.now (omega (arith, c.loop-digit-test.false))) in
    let small : digits_value 10 c.args.digits.now < 1000000000 = small_number c.args.digits.now c.requires in
    omega arith
