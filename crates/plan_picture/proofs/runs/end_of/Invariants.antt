-- Where the rest of the edges ends.
use Rattle.std.proofs.Common.{◌≡◌, drop, map}
use Rattle.plan_picture.specs.Runs.{end_of}
use Rattle.plan_picture.specs.Values.{edge_value}
use Rattle.plan_picture.proofs.runs.end_of.Given as goal

abbrev pub invariant-loop-edge : goal.invariant-loop-edge
invariant-loop-edge l = end_of l.place (map edge_value (drop l.edge-index l.edges)) ≡ end_of l.fn.place (map edge_value l.edges)
