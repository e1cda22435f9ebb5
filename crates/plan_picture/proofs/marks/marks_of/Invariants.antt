use Rattle.std.proofs.Common.{◌≡◌, ℕ, ◌||◌, drop, map}
use Rattle.plan_picture.specs.Labels.{is_marked}
use Rattle.plan_picture.specs.Pictures.{PlainStep}
use Rattle.plan_picture.specs.Texts.{is_on}
use Rattle.plan_picture.specs.Values.{edge_value}
use Rattle.plan_picture.proofs.marks.marks_of.Given as goal

abbrev pub invariant-loop-edge : goal.invariant-loop-edge
invariant-loop-edge l = (number : ℕ) (step : PlainStep)
    → (is_marked l.marks.keys number step || is_on (map edge_value (drop l.edge-index l.edges)) number step)
    ≡ is_on (map edge_value l.edges) number step
