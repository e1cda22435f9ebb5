use Rattle.std.specs.Prelude.{◌-◌, length, map}
use Rattle.plan_rules.specs.Denoted.{denoted_contexts}
use Rattle.rule_lookup.specs.Guides.{rules_of}
use Rattle.run_replay.specs.Running.{HasRun}
use Rattle.run_replay.specs.Traces.{most_steps}
use Rattle.task_core.specs.States.{vector}
use Rattle.task_core.specs.Tasks.{action_count, fluent_count, system_of}
use Rattle.run_replay.proofs.runs.run_guide.Given as goal

-- the run has come so far
abbrev pub invariant-loop-end : goal.invariant-loop-end
invariant-loop-end g l = HasRun
    (system_of l.start.task.now) (denoted_contexts (rules_of l.guide)) (fluent_count l.start.task.now) (action_count l.start.task.now) (vector (fluent_count l.start.task.now) l.start.first)
    ((goal.World-dyn g (l.initial.world.vtable, l.initial.world.value)).left l.initial.world.value)
    (map (λ monitor. (goal.Monitor-dyn g (monitor.vtable, monitor.value)).shown monitor.value) l.initial.monitors.items)
    l.run.steps.items l.run.state l.run.context
    ((goal.World-dyn g (l.world.vtable, l.world.value)).left l.world.value)
    (map (λ monitor. (goal.Monitor-dyn g (monitor.vtable, monitor.value)).shown monitor.value) l.monitors.items)

abbrev pub decreases-loop-end : goal.decreases-loop-end
decreases-loop-end g l = most_steps - length l.run.steps.items
