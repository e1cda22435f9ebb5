use Rattle.std.proofs.Common.{◌≡◌, ◌^◌}
use Rattle.domain_read.proofs.weights.power_of_ten.Given as goal

abbrev pub invariant-loop-step : goal.invariant-loop-step
invariant-loop-step l = l.power ≡ 10 ^ l.step
