use Rattle.std.proofs.Common.{◌≡◌, map}
use Rattle.plan_page.specs.Pages.{outcomes_below}
use Rattle.serde_json.specs.View.{view}
use Rattle.task_core.specs.Tasks.{system_of}
use Rattle.plan_document.specs.Data.{count_data}
use Rattle.plan_page.proofs.values.outcome_counts.Given as goal

abbrev pub invariant-loop-number : goal.invariant-loop-number
invariant-loop-number l = map view l.counts.items ≡ map count_data (outcomes_below (system_of l.task) l.number)
