use Rattle.std.specs.Prelude.{◌≡◌, drop}
use Rattle.task_core.specs.Cubes.{matches}
use Rattle.task_core.specs.States.{vector}
use Rattle.task_core.specs.Tasks.{fluent_count}
use Rattle.plan_rules.proofs.following.has_all.Given as goal

-- the state has each literal so far
abbrev pub invariant-loop-lit : goal.invariant-loop-lit
invariant-loop-lit l =
    matches (drop l.lit-index l.cube) (vector (fluent_count l.task) l.state) ≡ matches l.cube (vector (fluent_count l.task) l.state)
