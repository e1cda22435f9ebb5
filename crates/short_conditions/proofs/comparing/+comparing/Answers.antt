use Rattle.std.proofs.Common.{◌<◌, length, refl, arith}
use Rattle.short_conditions.proofs.SimpleLemmas.{same_All, same_Any, same_more}
use Rattle.short_conditions.proofs.comparing.+comparing.Goals as goal

pub are_same-returns-in-All-other : goal.are_same-returns-in-All-other
are_same-returns-in-All-other t c same =
    same_All c.args.cond.now c.args.other.now c.in-All.parts c.in-All-other.parts_there c.deref-in-All-other.result.now c.deref-in-All-other-2.result.now c.in-All.is c.in-All-other.is
    c.deref-in-All-other.ensures.value c.deref-in-All-other-2.ensures.value (c.are_same_lists.ensures same)

pub are_same-returns-in-Any-other : goal.are_same-returns-in-Any-other
are_same-returns-in-Any-other t c same =
    same_Any c.args.cond.now c.args.other.now c.in-Any.parts c.in-Any-other.parts_there c.deref-in-Any-other.result.now c.deref-in-Any-other-2.result.now c.in-Any.is c.in-Any-other.is
    c.deref-in-Any-other.ensures.value c.deref-in-Any-other-2.ensures.value (c.are_same_lists-in-Any-other.ensures same)

pub are_same_lists-loop-place-preserved : goal.are_same_lists-loop-place-preserved
are_same_lists-loop-place-preserved t c value =
    let first : c.loop-place.place < length c.args.conds.now = omega arith in
    let second : c.loop-place.place < length c.args.others.now = omega arith in
    same_more c.args.conds.now c.args.others.now c.loop-place.place c.index-conds-place.result c.index-others-place.result value first second c.index-conds-place.is c.index-others-place.is
    (c.loop-place.invariant value) (c.if-not-are_same.ensures refl value)
