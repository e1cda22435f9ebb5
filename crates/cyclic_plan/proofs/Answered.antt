-- The planner's answer: what is said of it.
use Rattle.std.proofs.Common.{◌≡◌, ℕ, suc, ap, ◌<◌, ◌≤◌, ⊎_elim, ◌+◌, ◌*◌, arith, ◌^◌, Bool, true, false, List, All, Result, Ok, Err, IfOk, refl, sym, subst, ◌∙◌}
use Rattle.std.specs.List.{list_all}
use Rattle.std.proofs.lemmas.Bool.{cases_lt, false_from_ne_true, true≢false}
use Rattle.dd_sets.specs.declared.errors.SetErr.{SetErr}
use Rattle.dd_sets.specs.declared.errors.SetErr.TheVariants.{Full}
use Rattle.dd_sets.specs.declared.slots.SetId.{SetId}
use Rattle.encode_task.specs.Slots.{Encoded}
use Rattle.task_core.specs.Solutions.{HasNoSolution, IsStrongCyclicSolution}
use Rattle.task_core.specs.Tasks.{action_count, fluent_count, initial_states, system_of}
use Rattle.task_core.specs.declared.classes.Class.TheVariants.{Cyclic, Weak}
use Rattle.task_core.specs.declared.tasks.Task.{Task}
use Rattle.task_core.proofs.TaskSystem.{is_system}
use Rattle.plan_rules.specs.Denoted.{IsExecutable, denoted}
use Rattle.plan_rules.specs.Plans.{IsRuleOf}
use Rattle.plan_rules.specs.Rules.{PlanRule, rules_of}
use Rattle.plan_rules.specs.declared.rules.TablePlan.{TablePlan}
use Rattle.plan_theory.specs.Found.{IsPlanOfClass}
use Rattle.encode_task.specs.Made.{MadeOf}
use Rattle.plan_theory.proofs.PrintedWithin.{printed_within}
use Rattle.plan_rules.proofs.DenotedPairs.{denoted-table}
use Rattle.list_laws.proofs.Elements.{list_all-agree, list_all-at, list_all-from}
use Rattle.plan_theory.proofs.RoundSteps.{later_rounds, rounds_end, rounds_shrink_to}
use Rattle.task_core.specs.Systems.{IsVector}
use Rattle.task_core.specs.Vectors.{Vector, value_of}
use Rattle.task_core.specs.Cubes.{SetOfVectors}
use Rattle.cyclic_plan.specs.Answers.{Ends, RoundsEnd}
use Rattle.cyclic_plan.specs.Stages.{HasNear, HasRounds, Takings, kept_system, none_taken, takers_within}
use Rattle.cyclic_plan.specs.Steps.{AreStepsFrom}
use Rattle.slot_board.specs.declared.steps.Step.{Step}
use Rattle.cyclic_plan.proofs.PlanMade.{covered_is, near_stays}
use Rattle.cyclic_plan.specs.Takers.{HasTable, start_of}
use Rattle.dd_sets.specs.LiveSets.{LiveSets}
use Rattle.dd_sets.specs.Rooms.{NoRoom}
use Rattle.dd_sets.proofs.RoomSteps.{room_wider}
use Rattle.slot_board.specs.Board as board
use Rattle.slot_board.specs.Board.{At, HasNoRoom, Left, Start, Stayed, set_at}
use Rattle.cyclic_plan.specs.Stages.{AreTakersSmall, HasNothing, IsFit, place_count, rough_places}
use Rattle.cyclic_plan.specs.WorkingSets.{BoundsCyclicSets}
use Rattle.cyclic_plan.proofs.Fitting.{all_wide, takers_small}
use Rattle.plan_theory.specs.LargestSets.{covers, goal_or_pair}
use Rattle.plan_theory.specs.Pairs.{restricted}
use Rattle.plan_theory.specs.CyclicPlans.{cyclic_rules}
use Rattle.plan_theory.specs.PairRounds.{IsLastRound, kept, round}
use Rattle.plan_theory.proofs.CyclicPrinted.{cyclic_executable, cyclic_solves, near}
use Rattle.plan_theory.proofs.Survives.{last_is_largest, left_state, none_without_cover}

module _ (task : Task) (r : ℕ) (last : IsLastRound (system_of task) r) where
  -- the states that the last round leaves are the goal states and those of its pairs
  pub all_covered : list_all (round (system_of task) r) (system_of task).initial ≡ true → covers (system_of task) (kept (system_of task) (round (system_of task) r)) ≡ true
  all_covered all =
      let sys = system_of task in
      list_all-from (goal_or_pair sys (kept sys (round sys r))) sys.initial
      (λ s c. left_state sys (is_system task) r last s ((is_system task).initial s c).vector (list_all-at (round sys r) sys.initial s all c))

  not_covered : list_all (round (system_of task) r) (system_of task).initial ≡ false → covers (system_of task) (kept (system_of task) (round (system_of task) r)) ≡ false
  not_covered short =
      let sys = system_of task in
      let pairs = kept sys (round sys r) in
      false_from_ne_true (covers sys pairs) (λ h.
      true≢false (sym (list_all-from (round sys r) sys.initial (λ s c.
      let is = ((is_system task).initial s c).vector in
      sym (last s is) ∙ near sys pairs (is_system task) (last_is_largest sys (is_system task) r last).proper s is (list_all-at (goal_or_pair sys pairs) sys.initial s h c)))
      ∙ short))

  pub no_plan_is : list_all (round (system_of task) r) (system_of task).initial ≡ false → HasNoSolution Cyclic (system_of task)
  no_plan_is short =
      let sys = system_of task in
      none_without_cover sys (kept sys (round sys r)) (is_system task) (last_is_largest sys (is_system task) r last) (not_covered short)

-- nor is there a plan where some round leaves not all initial states: the last one leaves no others
pub lost_is : (task : Task) (r : ℕ) → list_all (round (system_of task) r) (system_of task).initial ≡ false → HasNoSolution Cyclic (system_of task)
lost_is task r short =
    let sys = system_of task in
    let last = rounds_end sys in
    let down : (s : Vector) → IsVector sys s → round sys last.0 s ≡ true → round sys r s ≡ true =
    λ s is h.
    ⊎_elim (λ (l : last.0 < r). later_rounds sys last.0 (is_system task) last.2 r (omega arith) s is ∙ h)
    (λ (l : r ≤ last.0). rounds_shrink_to sys s r last.0 l h)
    (cases_lt last.0 r) in
    no_plan_is task last.0 last.2
    (false_from_ne_true (list_all (round sys last.0) sys.initial)
    (λ all. true≢false (sym (list_all-from (round sys r) sys.initial (λ s c. down s ((is_system task).initial s c).vector (list_all-at (round sys last.0) sys.initial s all c))) ∙ short)))

-- what the rounds end with: a refusal, an early end, and the last round
pub rounds_refused : {T : Type 0} (start : Start) (now : Encoded) (slots : List SetId) (steps : List Step) (P : Type 0) (inner : Result T SetErr) (outer : Result Bool SetErr) (e : SetErr) → inner ≡ Err e → (x : SetErr) × (outer ≡ Err x) × (x ≡ e) → Left start now slots P inner → RoundsEnd start now slots steps outer
rounds_refused start now slots steps P inner outer e was p left =
    subst (RoundsEnd start now slots steps) (sym p.1) (let kept = subst (Left start now slots P) was left in (kept.0, λ full. kept.1 (sym p.2 ∙ full)))

pub near_covered_is : (start : Start) (enc : Encoded) (slots : List SetId) (left : SetOfVectors) (taken : Takings) (near : SetOfVectors) → HasNear start enc slots left taken near
    → list_all (λ state. set_at enc.sets slots 3 (value_of state)) (initial_states start.task) ≡ list_all near (system_of start.task).initial
near_covered_is start enc slots left taken near h =
    list_all-agree (λ state. set_at enc.sets slots 3 (value_of state)) near (initial_states start.task) (λ s c. h.holds_near s ((is_system start.task).initial s c).vector)

pub rounds_ended : (start : Start) (enc now : Encoded) (slots : List SetId) (steps : List Step) (r : ℕ) (result : Result Bool SetErr) → IsLastRound (system_of start.task) r → HasRounds start enc slots r → AreStepsFrom start (round (system_of start.task) r) 0 0 steps → Left start now slots (Stayed start enc.sets now slots) result
    → IfOk result (λ covered. covered ≡ list_all (λ state. set_at enc.sets slots 1 (value_of state)) (initial_states start.task)) → RoundsEnd start now slots steps result
rounds_ended start enc now slots steps r (Ok true) last h follows left answer = (
  r,
  last,
  sym (answer ∙ covered_is start enc slots (round (system_of start.task) r) none_taken (round (system_of start.task) (suc r)) h),
  near_stays start enc now slots (round (system_of start.task) r) none_taken (round (system_of start.task) (suc r)) h left,
  follows,
)
rounds_ended start enc now slots steps r (Ok false) last h follows left answer = (
  left.at,
  lost_is start.task r (sym (answer ∙ covered_is start enc slots (round (system_of start.task) r) none_taken (round (system_of start.task) (suc r)) h)),
)
rounds_ended start enc now slots steps r (Err e) last h follows left answer = left

pub rounds_found : (start : Start) (now : Encoded) (slots : List SetId) (steps : List Step) (result : Result Bool SetErr) (covered : Bool) → result ≡ Ok covered → covered ≡ true → RoundsEnd start now slots steps result
    → (r : ℕ) × IsLastRound (system_of start.task) r × (list_all (round (system_of start.task) r) (system_of start.task).initial ≡ true) × HasRounds start now slots r × AreStepsFrom start (round (system_of start.task) r) 0 0 steps
rounds_found start now slots steps result covered was is ends = subst (RoundsEnd start now slots steps) (was ∙ ap Ok is) ends

pub rounds_lost : (start : Start) (now : Encoded) (slots : List SetId) (steps : List Step) (result : Result Bool SetErr) (covered : Bool) → result ≡ Ok covered → covered ≡ false → RoundsEnd start now slots steps result → At start now slots × HasNoSolution Cyclic (system_of start.task)
rounds_lost start now slots steps result covered was is ends = subst (RoundsEnd start now slots steps) (was ∙ ap Ok is) ends

pub rounds_refusal : (start : Start) (now : Encoded) (slots : List SetId) (steps : List Step) (inner outer : Result Bool SetErr) (e : SetErr) → inner ≡ Err e → (x : SetErr) × (outer ≡ Err x) × (x ≡ e) → RoundsEnd start now slots steps inner → Ends start now slots outer
rounds_refusal start now slots steps inner outer e was p ends =
    subst (Ends start now slots) (sym p.1) (let kept = subst (RoundsEnd start now slots steps) was ends in (kept.0, λ full. kept.1 (sym p.2 ∙ full)))

-- the search's board has the printed table
pub table_is : (start : Start) (r : ℕ) (last : IsLastRound (system_of start.task) r) → list_all (round (system_of start.task) r) (system_of start.task).initial ≡ true → (now : Encoded) (slots : List SetId) (near : SetOfVectors)
    → HasNear start now slots (round (system_of start.task) r) (takers_within true (kept_system start (round (system_of start.task) r)) (2 ^ fluent_count start.task)) near → HasTable start now slots
table_is start r last all now slots near h =
    let sys = system_of start.task in
    record {
      at = h.round.at;
      places = h.round.places;
      sound = h.round.sound;
      pairs = kept sys (round sys r);
      largest = last_is_largest sys (is_system start.task) r last;
      covered = all_covered start.task r last all;
      taken = λ a l v is. h.round.holds_taken a l v is;
    }

-- and so a plan has it
pub plan_of_table : (start : Start) (now : Encoded) (slots : List SetId) (h : HasTable start now slots) (plan : TablePlan) → plan.class ≡ Cyclic → rules_of plan ≡ cyclic_rules (system_of start.task) h.pairs → IsPlanOfClass Cyclic start.task plan
plan_of_table start now slots h plan class is =
    let task = start.task in
    let sys = system_of task in
    record {
      of_class = class;
      printed = (h.pairs, h.largest, is);
      in_task = subst (λ (rules : List PlanRule). All (IsRuleOf (fluent_count task) (action_count task)) rules) (sym is)
          (printed_within Weak (restricted sys h.pairs) (2 ^ sys.fluents) (IsRuleOf (fluent_count task) (action_count task)) (λ cube a below lt. record { cube = below; action = lt }));
      table = denoted-table sys (is_system task) (rules_of plan);
      solves = subst (λ (rules : List PlanRule). IsStrongCyclicSolution sys (denoted sys rules)) (sym is) (cyclic_solves sys h.pairs (is_system task) h.largest.proper h.covered);
      executable = subst (IsExecutable sys) (sym is) (cyclic_executable sys h.pairs);
    }

-- what a refused step leaves of the search
pub ends_refused : {T : Type 0} (start : Start) (now : Encoded) (slots : List SetId) (P : Type 0) (inner : Result T SetErr) (outer : Result Bool SetErr) (e : SetErr) → inner ≡ Err e → (x : SetErr) × (outer ≡ Err x) × (x ≡ e) → Left start now slots P inner → Ends start now slots outer
ends_refused start now slots P inner outer e was p left =
    subst (Ends start now slots) (sym p.1) (let kept = subst (Left start now slots P) was left in (kept.0, λ full. kept.1 (sym p.2 ∙ full)))

-- what the end of a search says
pub ends_found : (start : Start) (now : Encoded) (slots : List SetId) (result : Result Bool SetErr) → result ≡ Ok true → Ends start now slots result → HasTable start now slots
ends_found start now slots result is ends = subst (Ends start now slots) is ends

pub ends_none : (start : Start) (now : Encoded) (slots : List SetId) (result : Result Bool SetErr) → result ≡ Ok false → Ends start now slots result → At start now slots × HasNoSolution Cyclic (system_of start.task)
ends_none start now slots result is ends = subst (Ends start now slots) is ends

pub ends_refusal : (start : Start) (now : Encoded) (slots : List SetId) (result : Result Bool SetErr) (e : SetErr) → result ≡ Err e → Ends start now slots result → At start now slots × (e ≡ Full → HasNoRoom start now)
ends_refusal start now slots result e is ends = subst (Ends start now slots) is ends

pub room_of : (task : Task) (enc : Encoded) (after : LiveSets) (width : ℕ) → NoRoom width (place_count (action_count task) + (action_count task + 17) + 8) 6 enc.sets after → NoRoom width (3 * action_count task + 32) 16 enc.sets after
room_of task enc after width full = room_wider enc.sets (place_count (action_count task) + (action_count task + 17) + 8) (3 * action_count task + 32) 6 16 (omega arith) (omega arith) full

-- the new board's places
pub first_places : (task : Task) (enc now : Encoded) (made : MadeOf task enc) (width : ℕ) (wide : BoundsCyclicSets width task) (places : ℕ) (slots : List SetId) → places ≡ place_count (action_count task)
    → board.HasNothing (record { task = task; enc = enc; made = made; places = places; spare = action_count task + 17; width = width; wide = wide.wide; rough = rough_places }) now slots → HasNothing (start_of task enc made width wide.wide) now slots
first_places task enc now made width wide places slots e h =
    let new : board.HasNothing (start_of task enc made width wide.wide) now slots =
    subst (λ n. board.HasNothing (record { task = task; enc = enc; made = made; places = n; spare = action_count task + 17; width = width; wide = wide.wide; rough = rough_places }) now slots) e h in
    record { at = new.at; fit = record { wide = wide; rough = refl }; places = refl; holds_nothing = new.holds_nothing }

-- a start with a width by which every set is small
abbrev pub any_start : (task : Task) (enc : Encoded) → MadeOf task enc → Start
any_start task enc made = start_of task enc made (2 ^ fluent_count task + 1) (all_wide task).wide

-- what the actions take in the last round is small
pub last_takers : (start : Start) (r : ℕ) → IsFit start → IsLastRound (system_of start.task) r → list_all (round (system_of start.task) r) (system_of start.task).initial ≡ true → AreTakersSmall start true (round (system_of start.task) r)
last_takers start r fit last all is k a within =
    let sys = system_of start.task in
    takers_small start fit (kept sys (round sys r)) (last_is_largest sys (is_system start.task) r last) (all_covered start.task r last all) k a within
