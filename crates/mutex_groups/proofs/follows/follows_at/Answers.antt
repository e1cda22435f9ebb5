use Rattle.std.proofs.Common.{◌∙◌, sym}
use Rattle.relaxed_reach.specs.Literals.{has}
use Rattle.task_core.specs.States.{truth}
use Rattle.list_laws.proofs.Booleans.{not_true}
use Rattle.mutex_groups.proofs.Soundness.{cannot_fail}
use Rattle.mutex_groups.proofs.follows.follows_at.Goals as goal

pub returns : goal.returns
returns c = λ never_false.
    let group = truth c.args.members.now in
    cannot_fail group c.args.fluent.0 c.args.cond.now (has c.literals_with-literals.result) (λ value. c.literals_with-literals.ensures group value c.requires.others)
    (sym c.can_be.ensures ∙ not_true c.can_be.result never_false)
