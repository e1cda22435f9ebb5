use Rattle.std.proofs.Common.{◌∙◌, sym}
use Rattle.relaxed_reach.specs.Literals.{has}
use Rattle.task_core.specs.States.{truth}
use Rattle.mutex_groups.proofs.CaseLemmas.{idle_keeps, moving_keeps}
use Rattle.mutex_groups.proofs.judging.keeps_at.Goals as goal

pub returns-then-not-can_be : goal.returns-then-not-can_be
returns-then-not-can_be c = λ _.
    let group = truth c.args.members.now in
    idle_keeps group c.args.fluent.0 (has c.literals_with-literals.result) c.args.action.now (λ value. c.literals_with-literals.ensures group value c.requires.others)
    (sym c.can_be.ensures ∙ c.if-not-can_be.true)

pub returns : goal.returns
returns c = λ moves.
    let group = truth c.args.members.now in
    moving_keeps group c.args.fluent.0 (has c.literals_with-literals.result) c.args.action.now (λ value. c.literals_with-literals.ensures group value c.requires.others)
    (rw c.deref.ensures.value at (c.outcomes_move.ensures moves))
