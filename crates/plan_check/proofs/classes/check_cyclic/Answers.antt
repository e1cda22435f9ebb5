use Rattle.std.proofs.Common.{length, subst}
use Rattle.task_core.specs.Tasks.{fluent_count, system_of}
use Rattle.plan_check.specs.Plain.{HasAllMarked, HasUnmarked}
use Rattle.plan_check.proofs.GraphVerdicts.{cyclic_ends, cyclic_no, cyclic_yes, ends_inside, ends_outside, goal_below, marked_may_end, unmarked_never_ends}
use Rattle.plan_check.proofs.classes.check_cyclic.Goals as goal

pub returns-then-has_end_outside-clause-verdict : goal.returns-then-has_end_outside-clause-verdict
returns-then-has_end_outside-clause-verdict g c = λ task word rules is h follow.
    cyclic_ends (system_of task) rules follow
    (ends_outside task c.args.goal.now is c.args.graph.now word rules h (c.if-has_end_outside.ensures (fluent_count task) (goal_below task c.args.goal.now is)))

pub returns-then-has_all_marked-clause-verdict : goal.returns-then-has_all_marked-clause-verdict
returns-then-has_all_marked-clause-verdict g c = λ task word rules is h follow.
    let marks = c.mark_leading.new.marks.items in
    cyclic_yes (system_of task) rules follow (ends_inside task c.args.goal.now is c.args.graph.now word rules h (c.if-has_end_outside.ensures (fluent_count task) (goal_below task c.args.goal.now is)))
    (marked_may_end task c.args.goal.now is c.args.graph.now word rules h c.in_ok-marks.marks.items c.mark_leading.new.marks.items (λ i l. c.in_ok-marks.ensures.marked (fluent_count task) i (goal_below task c.args.goal.now is) l) c.in_ok-mark_leading.ensures.leading
    (subst (λ m. HasAllMarked m marks) c.in_ok-mark_leading.ensures.count (subst (λ ms. HasAllMarked (length ms) ms) c.deref.ensures.value c.if-has_all_marked.ensures)))

pub returns-clause-verdict : goal.returns-clause-verdict
returns-clause-verdict g c = λ task word rules is h follow.
    let marks = c.mark_leading.new.marks.items in
    cyclic_no (system_of task) rules follow (ends_inside task c.args.goal.now is c.args.graph.now word rules h (c.if-has_end_outside.ensures (fluent_count task) (goal_below task c.args.goal.now is)))
    (unmarked_never_ends task c.args.goal.now is c.args.graph.now word rules h c.in_ok-marks.marks.items c.mark_leading.new.marks.items (λ i l. c.in_ok-marks.ensures.marked (fluent_count task) i (goal_below task c.args.goal.now is) l) c.in_ok-mark_leading.ensures.leading
    (ends_inside task c.args.goal.now is c.args.graph.now word rules h (c.if-has_end_outside.ensures (fluent_count task) (goal_below task c.args.goal.now is)))
    (subst (λ m. HasUnmarked m marks) c.in_ok-mark_leading.ensures.count (subst (λ ms. HasUnmarked (length ms) ms) c.deref.ensures.value c.if-has_all_marked.ensures)))
