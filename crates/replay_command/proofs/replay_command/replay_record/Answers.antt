use Rattle.std.proofs.Common.{map}
use Rattle.pddl_ast.specs.Values.{problem_value}
use Rattle.plan_rules.specs.Rules.{plain_of}
use Rattle.run_replay.specs.Records.{record_value}
use Rattle.run_replay.specs.TraceTexts.{tallies_of}
use Rattle.task_core.specs.States.{vector}
use Rattle.task_core.specs.Tasks.{action_names, fluent_count, initial_states, system_of}
use Rattle.task_core.specs.Vectors.{Vector}
use Rattle.command_base.specs.Answers.{Answer}
use Rattle.command_base.specs.Following.{most_followed}
use Rattle.command_base.specs.InitialStates.{empty_init}
use Rattle.replay_command.specs.ReplayCommand.{IsReplayed, trace_under}
use Rattle.command_base.specs.Values.{answer_of}
use Rattle.replay_command.proofs.ReplayAnswers.{first_answer}
use Rattle.replay_command.proofs.replay_command.replay_record.Goals as goal
use Rattle.task_core.specs.Initials.{HasTooManyInitial}

pub returns : goal.returns
returns g c =
    let task = c.args.request.now.task.now in
    let Then : Vector → Answer → Type 0 = λ first. IsReplayed
    (tallies_of (map (λ monitor. (goal.Monitor-dyn g (monitor.vtable, monitor.value)).shown monitor.value) c.args.monitors.now.items))
    (system_of task) (action_names task) (trace_under (system_of task) (plain_of c.args.request.now.plan.now) first c.args.recorded.words.items) in
    first_answer (HasTooManyInitial task most_followed) (empty_init c.args.request.now.asked.now.problem.now (problem_value c.args.request.now.problem.now)) (initial_states task) c.args.request.now.asked.now.recorded.now (record_value c.args.recorded) (vector (fluent_count task) c.in_ok-first.first) Then (answer_of c.show_run.result)
    c.in_ok-first.ensures.few c.in_ok-first.ensures.first (rw c.in_ok-load_world.ensures at c.show_run.ensures)
