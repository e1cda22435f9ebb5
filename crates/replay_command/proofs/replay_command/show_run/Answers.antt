use Rattle.std.proofs.Common.{List, map, subst, sym, ℕ}
use Rattle.plan_rules.specs.Plans.{IsPlanOf}
use Rattle.plan_rules.specs.Rules.{plain_of}
use Rattle.run_replay.specs.TraceTexts.{tallies_of}
use Rattle.task_core.specs.States.{IsWithin}
use Rattle.task_core.specs.Systems.{System}
use Rattle.task_core.specs.Tasks.{action_names, system_of}
use Rattle.command_base.specs.Values.{answer_of}
use Rattle.replay_command.specs.ReplayCommand.{Tallies}
use Rattle.replay_command.proofs.ReplayRuns.{same_replay}
use Rattle.replay_command.proofs.replay_command.show_run.Goals as goal

pub show_steps-requires-clause-in_task : goal.show_steps-requires-clause-in_task
show_steps-requires-clause-in_task g c =
    let P : System → Type 0 = λ sys. IsPlanOf sys.fluents sys.actions c.args.start.now.plan.now in
    subst P (sym c.in_ok-short.ensures.system) c.requires.in_task

pub show_steps-requires-clause-within : goal.show_steps-requires-clause-within
show_steps-requires-clause-within g c =
    let P : System → Type 0 = λ sys. IsWithin sys.fluents c.args.start.now.first in
    subst P (sym c.in_ok-short.ensures.system) c.requires.within

pub returns : goal.returns
returns g c =
    let task = c.args.start.now.task.now in
    let short = c.in_ok-short.short in
    let tallies : Tallies = tallies_of (map (λ monitor. (goal.Monitor-dyn g (monitor.vtable, monitor.value)).shown monitor.value) c.args.monitors.now.items) in
    let words : List ℕ = (goal.World-dyn g (c.args.world.now.vtable, c.args.world.now.value)).left c.args.world.now.value in
    same_replay tallies (system_of short) (system_of task) (action_names short) (action_names task) (plain_of c.args.start.now.plan.now) c.args.start.now.first words
    (answer_of c.show_steps.result) c.in_ok-short.ensures.system c.in_ok-short.ensures.actions c.show_steps.ensures
