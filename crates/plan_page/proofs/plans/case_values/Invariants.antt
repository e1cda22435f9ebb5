use Rattle.std.proofs.Common.{◌≡◌, map, take}
use Rattle.plan_page.specs.Pages.{case_data}
use Rattle.plan_rules.specs.Rules.{case_of}
use Rattle.serde_json.specs.View.{view}
use Rattle.plan_page.proofs.plans.case_values.Given as goal

abbrev pub invariant-loop-case : goal.invariant-loop-case
invariant-loop-case l = map view l.list.items ≡ map case_data (map case_of (take l.case-index l.cases))
