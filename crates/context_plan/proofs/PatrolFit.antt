-- By a width of the working sets of a patrol goal, all that a search makes is small.
use Rattle.std.proofs.Common.{ℕ, ◌+◌, ◌^◌, List, sym, arith}
use Rattle.std.proofs.lemmas.List.{length-map}
use Rattle.list_laws.proofs.Numbers.{below_power}
use Rattle.dd_nodes.specs.Subfunctions.{Function}
use Rattle.dd_sets.specs.Rooms.{Small}
use Rattle.dd_sets.proofs.SizeLemmas.{every_small}
use Rattle.encode_task.specs.TaskSets.{initial_set, space_set}
use Rattle.preimage.specs.WorkingSets.{IsMadeByRound, first_every}
use Rattle.preimage.specs.WorkingSets.IsMadeByRound.{itself}
use Rattle.plan_theory.specs.GuardedSets.{anywhere}
use Rattle.plan_theory.specs.StageSets.{near}
use Rattle.task_core.specs.Cubes.{SetOfVectors}
use Rattle.task_core.specs.Systems.{System}
use Rattle.task_core.specs.Tasks.{fluent_count}
use Rattle.task_core.specs.declared.conditions.Cond.{Cond}
use Rattle.task_core.specs.declared.tasks.Task.{Task}
use Rattle.ctl_syntax.specs.Conditions.{states_of}
use Rattle.context_plan.specs.Chains.{visit_sets}
use Rattle.context_plan.specs.PatrolSizes.{PatrolFits, made_in, round_of, within_round}
use Rattle.context_plan.specs.PatrolWorkingSets.{IsRoundSet, BoundsPatrolSets, near_visit_in}
use Rattle.context_plan.specs.PatrolWorkingSets.IsRoundSet.{all_states, initial_states, left, near_visit}
use Rattle.context_plan.specs.PatrolWorkingSets.IsWorkingSet.{first_visits, of_round, of_visit, taken}
use Rattle.context_plan.specs.Scenes.{Start, guarded, sys_in, sys_of}
use Rattle.context_plan.specs.Sizes.{RoundFits}
use Rattle.context_plan.specs.WorkingSets.{function_of, hits_inside}
use Rattle.context_plan.proofs.Guards.{near_inside}
use Rattle.context_plan.proofs.SetFits.{rounds_fit}
use Rattle.context_plan.proofs.SizeSteps.{round_fits_same}

module _ (start : Start) (conds : List Cond) (wide : BoundsPatrolSets start.width start.task conds) where
  abbrev n : ℕ
  n = fluent_count start.task

  abbrev sys : System
  sys = sys_of start

  abbrev visits : List SetOfVectors
  visits = visit_sets conds

  -- the sets of a round set
  of_set : (guard : SetOfVectors) (set f : Function) → IsRoundSet start.task visits guard set → IsMadeByRound start.task first_every (hits_inside start.task guard set) set f → Small n start.width f
  of_set guard set f is made = wide.small f (of_round f (guard, set, is, made))

  round_fits : (guard set : SetOfVectors) → IsRoundSet start.task visits guard (function_of n set) → RoundFits (guarded start guard) set
  round_fits guard set is =
      rounds_fit start guard set (λ f made. of_set guard (function_of n set) f is made)
      (λ f made. of_set anywhere (space_set start.task) f all_states made)

  pub patrol_fits : PatrolFits start conds
  patrol_fits = record {
    initial = of_set anywhere (initial_set start.task) (initial_set start.task) initial_states itself;
    space = of_set anywhere (space_set start.task) (space_set start.task) all_states itself;
    visits = λ cond has set part. wide.small set (of_visit cond set has part);
    left = λ r. round_fits (round_of start conds r) (round_of start conds r) (left r);
    near = λ r i less k.
        round_fits_same (within_round start conds r) (near_visit_in sys visits r i k) (near (sys_in (within_round start conds r)) (made_in start conds r i) k)
        (λ v is. sym (near_inside sys (round_of start conds r) (made_in start conds r i) k v))
        (round_fits (round_of start conds r) (near_visit_in sys visits r i k) (near_visit r i k (let e = length-map conds states_of in omega arith)));
    first = λ r j few. wide.small _ (first_visits r j few);
    taken = λ i k a covered less below. wide.small _ (taken i k a covered less below);
  }

-- by a large width every set is small
pub widest_patrol : (task : Task) (conds : List Cond) → BoundsPatrolSets (2 ^ fluent_count task + 1) task conds
widest_patrol task conds = record {
  fluents = let p = below_power (fluent_count task) in omega arith;
  small = λ set is. every_small (fluent_count task) set;
}
