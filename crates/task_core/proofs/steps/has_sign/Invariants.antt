-- The loop goes on while no literal has the sign.
use Rattle.std.proofs.Common.{◌≡◌, drop}
use Rattle.std.specs.List.{list_any}
use Rattle.task_core.specs.Vectors.{same_value}
use Rattle.task_core.proofs.steps.has_sign.Given as goal

abbrev pub invariant-loop-lit : goal.invariant-loop-lit
invariant-loop-lit l = list_any (λ lit. same_value lit.positive l.positive) (drop l.lit-index l.lits) ≡ list_any (λ lit. same_value lit.positive l.positive) l.lits
