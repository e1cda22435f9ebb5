use Rattle.std.proofs.Common.{◌≡◌, map, take}
use Rattle.plan_page.specs.Pages.{literal_data}
use Rattle.serde_json.specs.View.{view}
use Rattle.plan_page.proofs.values.cube_value.Given as goal

abbrev pub invariant-loop-literal : goal.invariant-loop-literal
invariant-loop-literal l = map view l.literals.items ≡ map literal_data (take l.literal-index l.cube)
