use Rattle.std.proofs.Common.{◌≡◌, map, take}
use Rattle.plan_document.specs.Data.{count_data}
use Rattle.plan_picture.specs.Runs.{PlainMove}
use Rattle.plan_picture.specs.Values.{move_value}
use Rattle.serde_json.specs.View.{view}
use Rattle.plan_page.proofs.told.rule_counts.Given as goal

abbrev pub invariant-loop-next : goal.invariant-loop-next
invariant-loop-next l = map view l.counts.items ≡ map count_data (map (λ (move : PlainMove). move.rule) (map move_value (take l.next-index l.moves)))
