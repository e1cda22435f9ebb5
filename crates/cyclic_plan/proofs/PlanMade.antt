-- What the parts of the planner answer.
use Rattle.std.proofs.Common.{◌≡◌, ℕ, ◌+◌, ◌<◌, ◌^◌, true, cond, List, [], ◌∷◌, ◌++◌, map, length, Option, None, Some, refl, sym, ap, subst, ◌∙◌, arith}
use Rattle.std.specs.Option.{option_map, unwrap_or}
use Rattle.std.specs.List.{flat_map, list_all, list_any, range_with_len}
use Rattle.std.proofs.lemmas.Grind.{flat_map-append}
use Rattle.std.proofs.lemmas.List.{append-nil}
use Rattle.std.proofs.lemmas.Bool.{and_from, and_parts}
use Rattle.list_laws.proofs.Booleans.{same_truth}
use Rattle.plan_rules.specs.Rules.{PlanRule}
use Rattle.list_laws.proofs.Ranges.{range-more}
use Rattle.plan_theory.specs.LayerPlans.{rules_of_action, takers}
use Rattle.task_core.specs.declared.classes.Class.TheVariants.{Weak}
use Rattle.dd_nodes.specs.Subfunctions.{Function}
use Rattle.dd_sets.specs.LiveSets.{IsLive, everything, set_of}
use Rattle.dd_sets.specs.declared.slots.SetId.{SetId}
use Rattle.encode_task.specs.Made.{Holds, HoldsGoal}
use Rattle.encode_task.specs.Slots.{Encoded}
use Rattle.encode_task.specs.TaskSets.{goal_set}
use Rattle.encode_task.proofs.StateVectors.{cubes_agree}
use Rattle.task_core.specs.Conditions.{holds}
use Rattle.task_core.specs.Cubes.{Cube, SetOfVectors, cubes_of, half}
use Rattle.task_core.specs.Tasks.{action_count, fluent_count, in_space, initial_states, states_where, system_of}
use Rattle.task_core.specs.Vectors.{Vector, same_vector, value_of}
use Rattle.task_core.specs.declared.conditions.Cond.{Cond}
use Rattle.task_core.specs.declared.tasks.Task.{Task}
use Rattle.task_core.proofs.TaskSystem.{is_system, states_where_has, states_where_holds}
use Rattle.plan_theory.proofs.Weak.{same_vector-itself, same_vector-true}
use Rattle.list_laws.proofs.Elements.{list_all-agree, list_any-from, list_any-witness}
use Rattle.slot_board.specs.Rules.{rule_for}
use Rattle.slot_board.specs.Board.{set_at}
use Rattle.slot_board.specs.Board.{Moved, Start, Stayed}
use Rattle.cyclic_plan.specs.Stages.{HasNothing}
use Rattle.plan_theory.specs.Pairs.{is_goal, restricted}
use Rattle.cyclic_plan.specs.Takers.{HasTable}
use Rattle.plan_theory.specs.PairRounds.{round}
use Rattle.cyclic_plan.specs.Stages.{Agrees, HasNear, HasRound, Takings, none_taken}
use Rattle.cyclic_plan.proofs.StageSteps.{here, near_still, still}

-- the goal's slot holds the goal states
goal_is : (task : Task) (cond : Cond) (v : Vector) → length v ≡ fluent_count task → goal_set task cond (value_of v) ≡ list_any (same_vector v) (states_where task cond)
goal_is task cond v is =
    same_truth (goal_set task cond (value_of v)) (list_any (same_vector v) (states_where task cond))
    (λ h.
    let both = and_parts (in_space task v) (holds cond (value_of v)) h in
    list_any-from (same_vector v) (states_where task cond) v (states_where_has task cond v is both.0 both.1) (same_vector-itself v))
    (λ h.
    let w = list_any-witness (same_vector v) (states_where task cond) h in
    let e : v ≡ w.0 = same_vector-true v w.0 w.2 in
    let found = states_where_holds task cond w.0 w.1 in
    subst (λ u. goal_set task cond (value_of u) ≡ true) (sym e) (and_from (in_space task w.0) (holds cond (value_of w.0)) found.0.inside found.1))

pub goal_held : (start : Start) (slot : SetId) → start.enc.goal ≡ Some slot → IsLive start.enc.sets slot.0 × Agrees start (set_of start.enc.sets slot.0) (is_goal (system_of start.task))
goal_held start slot is = go start.enc.goal start.task.goal is refl start.made.goal
  where
    go : (o : Option SetId) (g : Option Cond) → o ≡ Some slot → start.task.goal ≡ g → HoldsGoal start.task start.enc.sets o g → IsLive start.enc.sets slot.0 × Agrees start (set_of start.enc.sets slot.0) (is_goal (system_of start.task))
    go None g e same h = absurd (let f : None ≡ Some slot = e in cc)
    go (Some own) None e same h = absurd h
    go (Some own) (Some cond) e same h =
        let f : own ≡ slot = cc in
        let at = subst (λ s. Holds start.enc.sets s (goal_set start.task cond)) f h in (
          at.live,
          λ v is.
              ap (λ (set : Function). set (value_of v)) at.holds ∙ goal_is start.task cond v is
              ∙ ap (λ (o : Option Cond). list_any (same_vector v) (unwrap_or (option_map (states_where start.task) o) [])) (sym same),
        )

pub begun : (start : Start) (enc mid now : Encoded) (old half new : List SetId) (slot : SetId) → HasNothing start enc old → enc.goal ≡ Some slot → Moved start enc.sets old mid half 0 (set_of enc.sets slot.0) → Moved start mid.sets half now new 1 everything
    → HasRound start now new (round (system_of start.task) 0) none_taken
begun start enc mid now old half new slot h is first second =
    let goal = goal_held start slot (sym (ap (λ (e : Encoded). e.goal) h.at.same) ∙ is) in
    let long : length old ≡ 7 + action_count start.task + action_count start.task = h.at.long ∙ h.places in
    record {
      at = second.at;
      fit = h.fit;
      places = h.places;
      sound = second.sound;
      is_left = (0, refl);
      holds_goal = still start mid now half new 1 _ second h.places 0 _ (omega arith) (λ e. absurd (omega arith))
          (here start enc mid old half 0 _ first h.places _ (λ v at. ap (λ (f : Function). f (value_of v)) (h.at.working.kept.sets slot.0 goal.0) ∙ goal.1 v at));
      holds_left = here start mid now half new 1 _ second h.places _ (λ v at. refl);
      holds_taken = λ a l.
          still start mid now half new 1 _ second h.places (7 + action_count start.task + a) (none_taken a) (omega arith) (λ e. absurd (omega arith))
          (still start enc mid old half 0 _ first h.places (7 + action_count start.task + a) (none_taken a) (omega arith) (λ e. absurd (omega arith))
          (λ v at. ap (λ (f : Function). f (value_of v)) (h.holds_nothing (7 + action_count start.task + a) (omega arith))));
    }

-- the test of the initial states leaves all places
pub near_stays : (start : Start) (enc now : Encoded) (slots : List SetId) (left : SetOfVectors) (taken : Takings) (near : SetOfVectors) → HasNear start enc slots left taken near → Stayed start enc.sets now slots → HasNear start now slots left taken near
near_stays start enc now slots left taken near h stayed =
    let long : length slots ≡ 7 + action_count start.task + action_count start.task = h.round.at.long ∙ h.round.places in
    let moved : Moved start enc.sets slots now slots 6 (set_at enc.sets slots 6) = record {
      at = stayed.at;
      sound = stayed.sound;
      here = stayed.each 6 (omega arith);
      others = λ other within differs. stayed.each other within;
    } in
    near_still start enc now slots slots 6 _ moved h.round.places left taken near h (λ e. absurd (omega arith)) (λ e. absurd (omega arith)) (λ e. absurd (omega arith)) (omega arith)

pub covered_is : (start : Start) (enc : Encoded) (slots : List SetId) (left : SetOfVectors) (taken : Takings) (near : SetOfVectors) → HasNear start enc slots left taken near
    → list_all (λ state. set_at enc.sets slots 1 (value_of state)) (initial_states start.task) ≡ list_all left (system_of start.task).initial
covered_is start enc slots left taken near h =
    list_all-agree (λ state. set_at enc.sets slots 1 (value_of state)) left (initial_states start.task) (λ s c. h.round.holds_left s ((is_system start.task).initial s c).vector)

-- the rules of one action more
pub rules_more : (start : Start) (enc : Encoded) (slots : List SetId) (h : HasTable start enc slots) (a place : ℕ) (before after : List PlanRule) (cubes : List Cube) → a < action_count start.task → place ≡ 7 + action_count start.task + a
    → before ≡ flat_map (rules_of_action Weak (restricted (system_of start.task) h.pairs) (2 ^ fluent_count start.task)) (range_with_len 0 a) → cubes ≡ cubes_of enc.sets.vars (λ state. set_at enc.sets slots place (value_of state)) → after ≡ before ++ map (rule_for a) cubes
    → after ≡ flat_map (rules_of_action Weak (restricted (system_of start.task) h.pairs) (2 ^ fluent_count start.task)) (range_with_len 0 (a + 1))
rules_more start enc slots h a place before after cubes l at is made more =
    let n = fluent_count start.task in
    let rules = rules_of_action Weak (restricted (system_of start.task) h.pairs) (2 ^ fluent_count start.task) in
    let taken : SetOfVectors = takers Weak (restricted (system_of start.task) h.pairs) (2 ^ fluent_count start.task) a in
    let vars : enc.sets.vars ≡ n = h.at.working.kept.vars ∙ start.made.ready.vars ∙ start.made.fluents in
    let same : cubes ≡ cubes_of n taken =
    made ∙ ap (λ k. cubes_of k (λ state. set_at enc.sets slots place (value_of state))) vars
    ∙ cubes_agree n 0 (λ state. set_at enc.sets slots place (value_of state)) taken
    (λ v len. ap (λ p. set_at enc.sets slots p (value_of v)) at ∙ h.taken a l v len) in
    more
    ∙ ap (λ xs. xs ++ map (rule_for a) cubes) is
    ∙ ap (λ cs. flat_map rules (range_with_len 0 a) ++ map (rule_for a) cs) same
    ∙ ap (λ xs. flat_map rules (range_with_len 0 a) ++ xs) (sym (append-nil (rules a)))
    ∙ sym (flat_map-append rules (range_with_len 0 a) (a ∷ []))
    ∙ ap (flat_map rules) (sym (range-more a))
