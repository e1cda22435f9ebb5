use Rattle.short_conditions.proofs.SimpleLemmas.{adds_All, adds_Any, adds_Is, adds_No, adds_Not, adds_Yes, adds_inner, parts_all, parts_more}
use Rattle.std.proofs.Common.{not}
use Rattle.short_conditions.proofs.shortening.+adding.Goals as goal

pub add_part-returns-in-Yes : goal.add_part-returns-in-Yes
add_part-returns-in-Yes t c = adds_Yes c.args.positive c.args.cond.now c.args.draft.now _ c.in-Yes.is c.add_constant.ensures

pub add_part-returns-in-No : goal.add_part-returns-in-No
add_part-returns-in-No t c = adds_No c.args.positive c.args.cond.now c.args.draft.now _ c.in-No.is c.add_constant-in-No.ensures

pub add_part-returns-in_ok-add_literal-in-Is : goal.add_part-returns-in_ok-add_literal-in-Is
add_part-returns-in_ok-add_literal-in-Is t c = adds_Is c.args.positive c.args.cond.now c.in-Is.fluent c.args.draft.now _ c.in-Is.is c.in_ok-add_literal-in-Is.ensures

pub add_part-returns-in_ok-add_part-in-Not : goal.add_part-returns-in_ok-add_part-in-Not
add_part-returns-in_ok-add_part-in-Not t c =
    adds_Not c.args.positive c.args.cond.now c.deref.result.now c.in-Not.part c.args.draft.now _ c.in-Not.is c.deref.ensures c.in_ok-add_part-in-Not.ensures

pub add_part-returns-in_ok-add_draft-in-All : goal.add_part-returns-in_ok-add_draft-in-All
add_part-returns-in_ok-add_draft-in-All t c =
    adds_All c.args.positive c.args.cond.now c.in-All.parts c.args.draft.now _ c.in-All.is
    (adds_inner c.args.positive c.args.positive c.in-All.parts.items c.deref-in-All.result.now c.new-inner.result c.add_parts.new.draft c.args.draft.now _
    c.deref-in-All.ensures.value c.new-inner.ensures c.in_ok-add_parts-in-All.ensures c.in_ok-add_draft-in-All.ensures)

pub add_part-returns-in_ok-add_draft-in-Any : goal.add_part-returns-in_ok-add_draft-in-Any
add_part-returns-in_ok-add_draft-in-Any t c =
    adds_Any c.args.positive c.args.cond.now c.in-Any.parts c.args.draft.now _ c.in-Any.is
    (adds_inner c.args.positive (not c.args.positive) c.in-Any.parts.items c.deref-in-Any.result.now c.new-inner-in-Any.result c.add_parts-in-Any.new.draft c.args.draft.now _
    c.deref-in-Any.ensures.value c.new-inner-in-Any.ensures c.in_ok-add_parts-in-Any.ensures c.in_ok-add_draft-in-Any.ensures)

pub add_parts-loop-part-preserved : goal.add_parts-loop-part-preserved
add_parts-loop-part-preserved t c =
    parts_more c.args.positive c.args.parts.now c.loop-part.part-index c.part-item.result c.args.draft.now c.loop-part.draft _ c.loop-part-test.true c.part-item.is c.loop-part.invariant c.in_ok-add_part.ensures

pub add_parts-returns : goal.add_parts-returns
add_parts-returns t c = parts_all c.args.positive c.args.parts.now c.loop-part.part-index c.args.draft.now _ c.loop-part-test.false c.loop-part.invariant
