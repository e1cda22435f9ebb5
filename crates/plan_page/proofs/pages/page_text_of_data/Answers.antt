use Rattle.std.proofs.Common.{◌≡◌, false, rules}
use Rattle.plan_picture.specs.Values.{nodes_of}
use Rattle.plan_rules.specs.Rules.{plain_of}
use Rattle.serde_json.specs.View.{view}
use Rattle.serde_json.specs.Written.{has_float}
use Rattle.task_core.specs.Tasks.{action_names, fluent_count, fluent_names, system_of}
use Rattle.plan_page.proofs.NoFloats.{data_free}
use Rattle.plan_page.proofs.pages.page_text_of_data.Goals as goal

pub returns : goal.returns
returns c =
    let task = c.args.task.now in
    let nodes = nodes_of (fluent_count task) c.args.picture.now in
    let free : has_float (view c.in_ok-value.value) ≡ false = rw c.in_ok-value.ensures (data_free (fluent_names task) (action_names task) (system_of task) (plain_of c.args.plan.now) nodes) in
    search (rules, c.to_string.ensures.text, free, c.in_ok-value.ensures)
