use Rattle.std.proofs.Common.{◌≡◌, ◌∙◌, ap, arith, map, sym}
use Rattle.std.specs.Rc.{rc_str_bytes}
use Rattle.serde_json.specs.View.{view}
use Rattle.task_core.specs.States.{truth, vector}
use Rattle.task_core.specs.Tasks.{fluent_count, fluent_names}
use Rattle.task_core.specs.Vectors.{value_of}
use Rattle.task_core.proofs.TaskSystem.{value_of-vector}
use Rattle.plan_document.specs.Names.{name_data}
use Rattle.explain_command.specs.Documents.{changed_to}
use Rattle.explain_command.proofs.Changed.{changed_more}
use Rattle.explain_command.proofs.steps.changed_values.Goals as goal

pub loop-number-preserved : goal.loop-number-preserved
loop-number-preserved c =
    let n = fluent_count c.args.task.now in
    let i = c.loop-number.number in
    let before = vector n c.args.before.now in
    let after = vector n c.args.after.now in
    let old : truth c.args.before.now i ≡ value_of before i = sym (value_of-vector n c.args.before.now i (omega (arith, c.loop-number-test.true, c.len-number-end.ensures))) in
    let new : truth c.args.after.now i ≡ value_of after i = sym (value_of-vector n c.args.after.now i (omega (arith, c.loop-number-test.true, c.len-number-end.ensures))) in
    changed_more (fluent_names c.args.task.now) c.args.made before after i (map view c.loop-number.names.items) (map view c.push_if.new.names.items)
    (name_data (map rc_str_bytes c.fluent_name-name.result.now)) c.is_changed-wanted.result c.loop-number.invariant c.in_ok-push_if.ensures (ap name_data c.fluent_name-name.ensures)
    (c.is_changed-wanted.ensures ∙ ap (λ b. changed_to c.args.made b (truth c.args.after.now i)) old ∙ ap (changed_to c.args.made (value_of before i)) new)
