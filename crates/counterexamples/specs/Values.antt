-- Private: what the code's own types stand for, over n fluents.
use Rattle.std.specs.Prelude.{ℕ, Option, map}
use Rattle.std.specs.Option.{option_map}
use Rattle.counterexamples.specs.Findings.{Ending, PlainFound, comes_back, in_goal, never_ending, never_in_goal}
use Rattle.goal_witness.specs.Lines.{line_value}
use Rattle.counterexamples.specs.Findings.{goal_missed, not_executable, outside_goal, without_next, without_rule}
use Rattle.counterexamples.specs.declared.endings.Ending.{Ending as CodeEnding}
use Rattle.counterexamples.specs.declared.endings.Ending.TheVariants.{ComesBack, GoalMissed, InGoal, OutsideGoal}
use Rattle.counterexamples.specs.declared.endings.Ending.TheVariants.{NeverEnding, NeverInGoal}
use Rattle.counterexamples.specs.declared.endings.Ending.TheVariants.{NotExecutable, WithoutNext}
use Rattle.counterexamples.specs.declared.endings.Ending.TheVariants.{WithoutRule}
use Rattle.counterexamples.specs.declared.findings.Found.{Found}
use Rattle.counterexamples.specs.ForVerdicts.{PlainFinding}
use Rattle.counterexamples.specs.Stays.{PlainStays}
use Rattle.counterexamples.specs.Texts.{Source}
use Rattle.counterexamples.specs.declared.sources.Source.{Source as CodeSource}
use Rattle.counterexamples.specs.declared.stays.Stays.{Stays}
use Rattle.counterexamples.specs.declared.verdicts.Finding.{Finding}
use Rattle.plan_rules.specs.Rules.{plain_of}
use Rattle.plan_witness.specs.Values.{run_value}
use Rattle.task_core.specs.Tasks.{action_names, fluent_names}

abbrev pub ending_value : CodeEnding → Ending
ending_value InGoal = in_goal
ending_value (OutsideGoal parts) = outside_goal (map (λ part. part.now) parts.items)
ending_value (NotExecutable rule action parts) =
    not_executable rule action.0 (map (λ part. part.now) parts.items)
ending_value WithoutRule = without_rule
ending_value (WithoutNext rule action outcome) = without_next rule action.0 outcome
ending_value ComesBack = comes_back
ending_value NeverInGoal = never_in_goal
ending_value NeverEnding = never_ending
ending_value (GoalMissed fair lines) = goal_missed fair (map line_value lines.items)

abbrev pub found_value : ℕ → Found → PlainFound
found_value n found = record {
  number = found.number;
  run = run_value n found.run;
  stem = found.stem;
  ending = ending_value found.ending;
}

abbrev pub source_value : CodeSource → Source
source_value source = record {
  fluents = fluent_names source.task.now;
  actions = action_names source.task.now;
  plan = plain_of source.plan.now;
  lines = source.lines.now;
}

abbrev pub run_found_value : ℕ → Option Found → Option PlainFound
run_found_value n = option_map (found_value n)

abbrev pub stays_value : Stays → PlainStays
stays_value stays = record { numbers = stays.numbers.items; more = stays.more }

abbrev pub finding_value : ℕ → Finding → PlainFinding
finding_value n finding = record {
  run = run_found_value n finding.run;
  longest = run_found_value n finding.longest;
  stays = option_map stays_value finding.stays;
}
