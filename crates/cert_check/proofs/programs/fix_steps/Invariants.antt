use Rattle.std.proofs.Common.{◌≡◌, ◌++◌, drop, map}
use Rattle.cert_check.specs.Programs.{fix_step, fix_steps}
use Rattle.cert_check.proofs.programs.fix_steps.Given as goal

-- the steps so far, and those of the literals that are left
abbrev pub invariant-loop-lit : goal.invariant-loop-lit
invariant-loop-lit l = l.steps.items ++ map fix_step (drop l.lit-index l.cube) ≡ fix_steps l.cube
