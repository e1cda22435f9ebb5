use Rattle.std.proofs.Common.{subst}
use Rattle.task_core.specs.Tasks.{fluent_count, system_of}
use Rattle.plan_check.specs.Plain.{HasMarkedStarts, HasUnmarkedStart}
use Rattle.plan_check.proofs.GraphVerdicts.{goal_below, marked_solves, unmarked_misses, weak_no, weak_yes}
use Rattle.plan_check.proofs.classes.check_weak.Goals as goal

pub returns-then-has_marked_starts-clause-verdict : goal.returns-then-has_marked_starts-clause-verdict
returns-then-has_marked_starts-clause-verdict g c = λ task word rules is h follow.
    weak_yes (system_of task) rules follow
    (marked_solves task c.args.goal.now is c.args.graph.now word rules h c.in_ok-marks.marks.items c.mark_leading.new.marks.items (λ i l. c.in_ok-marks.ensures.marked (fluent_count task) i (goal_below task c.args.goal.now is) l) c.in_ok-mark_leading.ensures.leading
    (subst (HasMarkedStarts c.args.graph.now) c.deref.ensures.value c.if-has_marked_starts.ensures))

pub returns-clause-verdict : goal.returns-clause-verdict
returns-clause-verdict g c = λ task word rules is h follow.
    weak_no (system_of task) rules follow
    (unmarked_misses task c.args.goal.now is c.args.graph.now word rules h c.in_ok-marks.marks.items c.mark_leading.new.marks.items (λ i l. c.in_ok-marks.ensures.marked (fluent_count task) i (goal_below task c.args.goal.now is) l) c.in_ok-mark_leading.ensures.leading
    (subst (HasUnmarkedStart c.args.graph.now) c.deref.ensures.value c.if-has_marked_starts.ensures))
