use Rattle.std.proofs.Common.{not}
use Rattle.short_conditions.proofs.SimpleLemmas.{made_All, made_Any, made_No, made_Not, made_Yes, made_inner}
use Rattle.short_conditions.proofs.shortening.+signed_condition.Goals as goal

pub returns-in-Yes : goal.returns-in-Yes
returns-in-Yes t c = made_Yes c.args.positive c.args.cond.now _ c.in-Yes.is c.constant.ensures

pub returns-in-No : goal.returns-in-No
returns-in-No t c = made_No c.args.positive c.args.cond.now _ c.in-No.is c.constant-in-No.ensures

pub returns-in_ok-short-in-Not : goal.returns-in_ok-short-in-Not
returns-in_ok-short-in-Not t c =
    made_Not c.args.positive c.args.cond.now c.deref.result.now c.in-Not.part _ c.in-Not.is c.deref.ensures c.in_ok-short-in-Not.ensures

pub returns-in_ok-draft-in-All : goal.returns-in_ok-draft-in-All
returns-in_ok-draft-in-All t c =
    made_All c.args.positive c.args.cond.now c.in-All.parts _ c.in-All.is
    (made_inner c.args.positive c.args.positive c.in-All.parts.items c.deref-in-All.result.now c.in_ok-draft-in-All.draft _ c.deref-in-All.ensures.value c.in_ok-draft-in-All.ensures c.into_condition.ensures)

pub returns-in_ok-draft-in-Any : goal.returns-in_ok-draft-in-Any
returns-in_ok-draft-in-Any t c =
    made_Any c.args.positive c.args.cond.now c.in-Any.parts _ c.in-Any.is
    (made_inner c.args.positive (not c.args.positive) c.in-Any.parts.items c.deref-in-Any.result.now c.in_ok-draft-in-Any.draft _ c.deref-in-Any.ensures.value c.in_ok-draft-in-Any.ensures c.into_condition-in-Any.ensures)
