use Rattle.std.proofs.Common.{◌≡◌, map}
use Rattle.plan_page.specs.Pages.{true_below}
use Rattle.serde_json.specs.View.{view}
use Rattle.task_core.specs.States.{vector}
use Rattle.task_core.specs.Tasks.{fluent_count}
use Rattle.plan_document.specs.Data.{count_data}
use Rattle.plan_page.proofs.values.true_fluents.Given as goal

abbrev pub invariant-loop-number : goal.invariant-loop-number
invariant-loop-number l = map view l.numbers.items ≡ map count_data (true_below (vector (fluent_count l.task) l.state) l.number)
