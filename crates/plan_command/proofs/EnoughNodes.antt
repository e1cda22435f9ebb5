-- A limit that is tight for the sets of a task, or for those of its planners, is tight for the
-- nodes that are enough, by both numbers.
use Rattle.std.proofs.Common.{◌≡◌, ◌≤◌, ◌<◌, ◌+◌, ◌*◌, ◌^◌, ℕ, [], subst, sym, ◌∙◌, inl, inr, arith}
use Rattle.std.proofs.Math.Nat.{mul-le-mul_right}
use Rattle.list_laws.proofs.Numbers.{below_power_two}
use Rattle.ctl_syntax.specs.declared.context_goals.ContextGoal.{ContextGoal}
use Rattle.ctl_syntax.specs.declared.context_goals.ContextGoal.TheVariants.{Patrol, Until}
use Rattle.cyclic_plan.specs.WorkingSets.IsWorkingSet.{by_task as of_cyclic}
use Rattle.dd_nodes.specs.Subfunctions.{nodes}
use Rattle.dd_sets.proofs.SizeLemmas.{every_small}
use Rattle.dd_sets.specs.Laws.{NoRoomIsSmall, NoRoomIsTight, TightIsMonotone}
use Rattle.dd_sets.specs.Frames.{Owns}
use Rattle.dd_sets.specs.LiveSets.{IsSets, live_count, live_sets}
use Rattle.dd_sets.specs.Rooms.{NoRoom}
use Rattle.encode_task.specs.KeptSets.{kept_nodes}
use Rattle.encode_task.specs.Laws.{KeptSetsBoundNodes}
use Rattle.encode_task.specs.Made.{MadeOf}
use Rattle.encode_task.specs.Slots.{Encoded}
use Rattle.encode_task.specs.WorkingSets.{AreSmall, IsMadeByEncode}
use Rattle.context_plan.specs.PatrolWorkingSets.IsWorkingSet.{of_task as of_patrol}
use Rattle.context_plan.specs.WorkingSets.IsWorkingSet.{of_task as of_until}
use Rattle.reach_plan.specs.WorkingSets.IsWorkingSet.{by_task as of_reach}
use Rattle.task_core.specs.Systems.{most_outcomes}
use Rattle.task_core.specs.Tasks.{action_count, fluent_count, system_of}
use Rattle.task_core.specs.declared.classes.Class.{Class}
use Rattle.task_core.specs.declared.classes.Class.TheVariants.{Cyclic, Strong, Weak}
use Rattle.task_core.specs.declared.tasks.Task.{Task}
use Rattle.plan_command.specs.Enough.{BoundsGoalSets, BoundsSets, IsTightForClass, IsTightForGoal, LacksClassRoom, LacksGoalRoom, enough_by_sets}
use Rattle.task_sets.proofs.FullTables.{filled_after}
use Rattle.task_sets.proofs.NodeRooms.{tight_for_sets, tight_for_live}
use Rattle.task_sets.specs.FullTables.{AreEncoded, IsFilled, IsFullTry, IsTightToEncode}
use Rattle.ctl_syntax.specs.GoalSizes.{count_of}

pub slots_of_planner : (L A M : ℕ) → L ≤ A * (M + 1) + 5 → L + (3 * A + 32) ≤ A * (M + 0 + 6) + 8 * 0 + 256
slots_of_planner L A M few =
    let e : A * (M + 1) + 3 * A ≤ A * (M + 0 + 6) = grind arith in
    omega arith

slots_of_goal : (n L A M : ℕ) → L ≤ A * (M + 1) + 5 → L + (A * (n + 3) + 8 * n + 236) ≤ A * (M + n + 6) + 8 * n + 256
slots_of_goal n L A M few =
    let e : A * (M + 1) + A * (n + 3) ≤ A * (M + n + 6) = grind arith in
    omega arith

-- what bounds the sets of a search bounds those of the task
wide_of : (class : Class) (t : Task) (w : ℕ) → BoundsSets class t w → fluent_count t + 2 ≤ w
wide_of Weak t w bounds = bounds.wide
wide_of Strong t w bounds = bounds.wide
wide_of Cyclic t w bounds = bounds.wide

task_small : (class : Class) (t : Task) (w : ℕ) → BoundsSets class t w → AreSmall (fluent_count t) w (IsMadeByEncode t)
task_small Weak t w bounds = λ set made. bounds.each set (of_reach set made)
task_small Strong t w bounds = λ set made. bounds.each set (of_reach set made)
task_small Cyclic t w bounds = λ set made. bounds.each set (of_cyclic set made)

-- and each set has fewer nodes than there are lists of truth values
pub all_bounds : (class : Class) (t : Task) → BoundsSets class t (2 ^ fluent_count t + 1)
all_bounds Weak t = record { wide = below_power_two (fluent_count t); each = λ set made. every_small (fluent_count t) set }
all_bounds Strong t = record { wide = below_power_two (fluent_count t); each = λ set made. every_small (fluent_count t) set }
all_bounds Cyclic t = record { wide = below_power_two (fluent_count t); each = λ set made. every_small (fluent_count t) set }

pub all_goal_bounds : (goal : ContextGoal) (t : Task) → BoundsGoalSets goal t (2 ^ fluent_count t + 1)
all_goal_bounds (Until chain) t = record { fluents = below_power_two (fluent_count t); small = λ set made. every_small (fluent_count t) set }
all_goal_bounds (Patrol visits) t = record { fluents = below_power_two (fluent_count t); small = λ set made. every_small (fluent_count t) set }

wide_of_goal : (goal : ContextGoal) (t : Task) (w : ℕ) → BoundsGoalSets goal t w → fluent_count t + 2 ≤ w
wide_of_goal (Until chain) t w bounds = bounds.fluents
wide_of_goal (Patrol visits) t w bounds = bounds.fluents

small_of_goal : (goal : ContextGoal) (t : Task) (w : ℕ) → BoundsGoalSets goal t w → AreSmall (fluent_count t) w (IsMadeByEncode t)
small_of_goal (Until chain) t w bounds = λ set made. bounds.small set (of_until set made)
small_of_goal (Patrol visits) t w bounds = λ set made. bounds.small set (of_patrol set made)

-- while the sets of the task are made, few nodes are fewer than are enough by the sets
few_for_sets : (t : Task) (n w limit : ℕ) → limit < kept_nodes t + 220 * w + 13 * (w * w) → limit < enough_by_sets n t w
few_for_sets t n w limit few =
    let more : 220 * w ≤ (action_count t * (n + 3) + 8 * n + 236) * w = mul-le-mul_right w (omega arith) in
    omega arith

-- that the table is full while the sets of a task are made
module _ (monotone : TightIsMonotone) (t : Task) (limit : ℕ) (tight : IsTightToEncode limit t) where
  pub class_at_sets : (class : Class) → IsTightForClass class limit t
  class_at_sets class = record {
    by_sizes = tight_for_sets monotone t 0 limit tight.by_sizes;
    by_sets = λ w bounds. few_for_sets t 0 w limit (tight.by_sets w (wide_of class t w bounds) (task_small class t w bounds));
    full = inl tight;
  }

  pub goal_at_sets : (goal : ContextGoal) → IsTightForGoal goal limit t
  goal_at_sets goal =
      let n = count_of goal in
      record {
        by_sizes = tight_for_sets monotone t n limit tight.by_sizes;
        by_sets = λ w bounds. few_for_sets t n w limit (tight.by_sets w (wide_of_goal goal t w bounds) (small_of_goal goal t w bounds));
        full = inl tight;
      }

-- that a search finds no room over the sets of a task
module _ (monotone : TightIsMonotone) (tight_law : NoRoomIsTight) (small_law : NoRoomIsSmall) (bound_law : KeptSetsBoundNodes) (t : Task) (limit : ℕ) (before after : Encoded)
    (encoded : AreEncoded limit t before) (sound : IsSets after.sets) where
  of_vars : before.sets.vars ≡ fluent_count t
  of_vars = encoded.made.ready.vars ∙ encoded.made.fluents

  few_by_sets : (n more w : ℕ) → more ≤ action_count t * (n + 3) + 8 * n + 236 → NoRoom w more 16 before.sets after.sets → limit < enough_by_sets n t w
  few_by_sets n more w fewer none =
      let sets = before.sets in
      let less : sets.limit < nodes sets.vars (live_sets sets) + more * w + (16 + 1) * (w * w) = small_law w sets after.sets more 16 none encoded.order in
      let bound : nodes sets.vars (live_sets sets) ≤ kept_nodes t =
      subst (λ (v : ℕ). nodes v (live_sets sets) ≤ kept_nodes t) (sym of_vars) (bound_law t sets encoded.are_kept) in
      let slots : more * w ≤ (action_count t * (n + 3) + 8 * n + 236) * w = mul-le-mul_right w fewer in
      omega (arith, encoded.limit)

  filled : (w more : ℕ) → MadeOf t after → Owns before.sets after.sets [] → NoRoom w more 16 before.sets after.sets → IsFilled limit t
  filled w more made slots none = filled_after limit t before after encoded made slots sound none.at_limit

  pub class_at_search : (class : Class) → LacksClassRoom class t before after → IsTightForClass class limit t
  class_at_search class lacks =
      let most = 3 * action_count t + 32 in
      let w = 2 ^ fluent_count t + 1 in
      let none = lacks.no_room w (all_bounds class t) in
      record {
        by_sizes = tight_for_live monotone t 0 before.sets limit most of_vars encoded.limit encoded.order
            (slots_of_planner (live_count before.sets) (action_count t) (most_outcomes (system_of t) * (fluent_count t + 1)) encoded.few)
            (tight_law w before.sets after.sets most 16 none);
        by_sets = λ w bounds. few_by_sets 0 most w (omega arith) (lacks.no_room w bounds);
        full = inr (filled w most lacks.made lacks.slots none);
      }

  pub goal_at_search : (goal : ContextGoal) → LacksGoalRoom goal t before after → IsTightForGoal goal limit t
  goal_at_search goal lacks =
      let n = count_of goal in
      let most = action_count t * (n + 3) + 8 * n + 236 in
      let w = 2 ^ fluent_count t + 1 in
      let none = lacks.no_room w (all_goal_bounds goal t) in
      record {
        by_sizes = tight_for_live monotone t n before.sets limit most of_vars encoded.limit encoded.order
            (slots_of_goal n (live_count before.sets) (action_count t) (most_outcomes (system_of t) * (fluent_count t + 1)) encoded.few)
            (tight_law w before.sets after.sets most 16 none);
        by_sets = λ w bounds. few_by_sets n most w (omega arith) (lacks.no_room w bounds);
        full = inr (filled w most lacks.made lacks.slots none);
      }

-- that the try over the fluents in their own order found the table full
module _ (monotone : TightIsMonotone) (tight_law : NoRoomIsTight) (small_law : NoRoomIsSmall) (bound_law : KeptSetsBoundNodes) (t : Task) (limit : ℕ) where
  pub class_at_try : (class : Class) → IsFullTry limit t (LacksClassRoom class t) → IsTightForClass class limit t
  class_at_try class (inl tight) = class_at_sets monotone t limit tight class
  class_at_try class (inr searched) =
      class_at_search monotone tight_law small_law bound_law t limit searched.before searched.after searched.encoded searched.sound class searched.lacks_room

  pub goal_at_try : (goal : ContextGoal) → IsFullTry limit t (LacksGoalRoom goal t) → IsTightForGoal goal limit t
  goal_at_try goal (inl tight) = goal_at_sets monotone t limit tight goal
  goal_at_try goal (inr searched) =
      goal_at_search monotone tight_law small_law bound_law t limit searched.before searched.after searched.encoded searched.sound goal searched.lacks_room
