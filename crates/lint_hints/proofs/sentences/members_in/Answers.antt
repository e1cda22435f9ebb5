use Rattle.task_core.specs.States.{truth}
use Rattle.lint_hints.proofs.Members.{members_more}
use Rattle.lint_hints.proofs.sentences.members_in.Goals as goal

pub loop-number-preserved : goal.loop-number-preserved
loop-number-preserved c =
    members_more (truth c.args.group.now) c.loop-number.number c.get.result c.loop-number.members.items c.push_if.new.members.items c.loop-number.invariant c.in_ok-push_if.ensures c.get.ensures.value
