use Rattle.std.proofs.Common.{◌≡◌, map, take}
use Rattle.plan_document.specs.Data.{count_data}
use Rattle.serde_json.specs.View.{view}
use Rattle.explain_command.proofs.besides.number_values.Given as goal

abbrev pub invariant-loop-number : goal.invariant-loop-number
invariant-loop-number l = map view l.values.items ≡ map count_data (take l.number-index l.numbers)
