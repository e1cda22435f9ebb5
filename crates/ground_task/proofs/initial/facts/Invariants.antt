use Rattle.std.proofs.Common.{◌≡◌, ℕ, false}
use Rattle.std.specs.Prelude.{nat_lt, if◌then◌else◌}
use Rattle.ground_instances.specs.Tables.{setting_in}
use Rattle.pddl_system.specs.Systems.{facts_of}
use Rattle.task_core.specs.States.{truth}
use Rattle.task_core.specs.Vectors.{value_of}
use Rattle.ground_task.proofs.initial.facts.Given as goal

abbrev pub invariant-loop-place : goal.invariant-loop-place
invariant-loop-place l = (f : ℕ) → truth l.state f ≡ (if nat_lt f l.place then value_of (facts_of (setting_in l.setting) l.fluents) f else false)
