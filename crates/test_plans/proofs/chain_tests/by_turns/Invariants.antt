use Rattle.std.proofs.Common.{◌≡◌, All, length, true}
use Rattle.ctl_syntax.specs.GoalValues.{EachInStage}
use Rattle.task_core.specs.Conditions.{ids_below, is_shallow}
use Rattle.task_core.specs.declared.conditions.Cond.{Cond}
use Rattle.test_plans.proofs.chain_tests.by_turns.Given as goal

abbrev pub invariant-loop-i : goal.invariant-loop-i
invariant-loop-i l = record {
  long : length l.stages.items ≡ l.i;
  names : All (EachInStage (λ (cond : Cond). ids_below 1 cond ≡ true)) l.stages.items;
  shallow : All (EachInStage (λ (cond : Cond). is_shallow cond ≡ true)) l.stages.items;
}
