-- What a search answers.
use Rattle.std.proofs.Common.{◌≡◌, ℕ, ◌+◌, ◌^◌, ◌≤◌, Bool, true, false, [], IfOk, Result, Ok, Err, refl, sym, subst, ◌∙◌, arith}
use Rattle.std.specs.List.{list_all}
use Rattle.list_laws.proofs.Numbers.{below_power}
use Rattle.dd_sets.specs.declared.errors.SetErr.{SetErr}
use Rattle.encode_task.specs.Made.{MadeOf}
use Rattle.encode_task.specs.Slots.{Encoded}
use Rattle.fair_theory.specs.FairSets.{IsFairWin, SetGoal, covers_initial}
use Rattle.fair_theory.proofs.NoFairPlan.{none_without_cover}
use Rattle.slot_board.specs.Board.{Ends, Left, Stayed, TestFits, Scene}
use Rattle.task_core.specs.Cubes.{SetOfVectors}
use Rattle.task_core.specs.Tasks.{action_count, fluent_count, initial_states}
use Rattle.task_core.specs.Vectors.{value_of}
use Rattle.task_core.specs.declared.tasks.Task.{Task}
use Rattle.task_core.proofs.TaskSystem.{is_system}
use Rattle.fair_plan.specs.Boards.{IsThere, Origin, set_in, states_in, sys_of}
use Rattle.fair_plan.specs.Found.{CanBeHad, IsFairPlannersAnswer}
use Rattle.ctl_syntax.specs.declared.context_goals.ContextGoal.{ContextGoal}
use Rattle.ctl_syntax.specs.declared.context_goals.ContextGoal.TheVariants.{Until, Patrol}
use Rattle.plan_rules.specs.Plans.{IsContextOf, most_contexts}
use Rattle.fair_plan.specs.Goals.{IsFairGoalOver, contexts_of}
use Rattle.fair_plan.specs.Places.{place_count}
use Rattle.fair_plan.specs.declared.found.FairFound.TheVariants.{NoPlan}
use Rattle.fair_plan.proofs.Boards.{small}

-- by this width every set is small
pub wide_enough : (task : Task) → fluent_count task + 2 ≤ 2 ^ fluent_count task + 1
wide_enough task = let p = below_power (fluent_count task) in omega arith

-- the initial states are looked up
pub test_fits : (origin : Origin) (x : Scene) (place : ℕ) → TestFits origin.start (set_in x place)
test_fits origin x place = (small origin _, small origin (set_in x place))

-- whether the goal can be had
abbrev pub Won : Origin → Scene → SetGoal → Bool → Type 0
Won origin y goal won =
    IsThere origin y × (set : SetOfVectors) × IsFairWin (sys_of origin) goal set × (won ≡ covers_initial (sys_of origin) set)

pub won_ends : (origin : Origin) (x : Scene) (now : Encoded) (goal : SetGoal) (place win : ℕ) (result : Result Bool SetErr) → place ≡ win → IsFairWin (sys_of origin) goal (states_in x win) → Left origin.start now x.1 (Stayed origin.start x.0.sets now x.1) result
    → IfOk result (λ covered. covered ≡ list_all (λ state. set_in x place (value_of state)) (initial_states origin.start.task)) → Ends origin.start now x.1 (Won origin (now, x.1) goal) result
won_ends origin x now goal place win (Ok covered) is wins stayed answer =
    (record { at = stayed.at; sound = stayed.sound }, states_in x win, wins, subst (λ (k : ℕ). covered ≡ list_all (states_in x k) (initial_states origin.start.task)) is answer)
won_ends origin x now goal place win (Err e) is wins left answer = left

-- what is said of what was found
pub none_answer : (origin : Origin) (y : Scene) (goal : SetGoal) (won : Bool) → Won origin y goal won → won ≡ false → IsFairPlannersAnswer origin.start.task goal NoPlan
none_answer origin y goal won w lost = none_without_cover (sys_of origin) goal w.1 (is_system origin.start.task) w.2 (sym w.3 ∙ lost)

pub can_be_had : (origin : Origin) (y : Scene) (goal : SetGoal) (won : Bool) → Won origin y goal won → won ≡ true → CanBeHad (sys_of origin) goal
can_be_had origin y goal won w found = (w.1, w.2, sym w.3 ∙ found)

-- where a search begins
abbrev pub origin_of : (task : Task) (enc : Encoded) → MadeOf task enc → (places count : ℕ) → places ≡ place_count (action_count task) count → Origin
origin_of task enc made places count are = record {
  start = record {
    task = task;
    enc = enc;
    made = made;
    places = places;
    spare = 196;
    width = 2 ^ fluent_count task + 1;
    wide = wide_enough task;
    rough = [];
  };
  widest = refl;
  spare = omega arith;
  count = count;
  places = are;
}

-- how many contexts a plan has
pub contexts_fit : (fluents : ℕ) (goal : ContextGoal) (n : ℕ) → IsFairGoalOver fluents goal → n ≡ contexts_of goal → IsContextOf most_contexts n
contexts_fit fluents (Until chain) n over is = let few = over.few in record { first = omega (arith, is); last = omega (arith, is, few) }
contexts_fit fluents (Patrol visits) n over is = let few = over.few in let some = over.some in record { first = omega (arith, is, some); last = omega (arith, is, few) }
