use Rattle.std.proofs.Common.{◌≡◌, ◌++◌, drop}
use Rattle.std.specs.List.{flat_map}
use Rattle.cert_check.specs.Programs.{literal_steps}
use Rattle.cert_check.proofs.programs.add_literals.Given as goal

-- the steps so far, and those of the literals that are left
abbrev pub invariant-loop-lit : goal.invariant-loop-lit
invariant-loop-lit l = l.steps.items ++ flat_map literal_steps (drop l.lit-index l.cube) ≡ l.fn.steps.items ++ flat_map literal_steps l.cube
