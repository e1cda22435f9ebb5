-- The search: whether the initial states are covered, and what it answers.
use Rattle.std.proofs.Common.{◌≡◌, ℕ, suc, ◌+◌, ◌-◌, ◌*◌, ◌<◌, ◌≤◌, Bool, true, false, IfOk, List, All, Result, Ok, Err, drop, length, sym, ap, subst, ◌∙◌, arith}
use Rattle.std.specs.List.{list_all}
use Rattle.std.proofs.lemmas.List.{length-map}
use Rattle.dd_nodes.specs.Subfunctions.{Function}
use Rattle.dd_sets.specs.Rooms.{NoRoom}
use Rattle.dd_sets.proofs.RoomSteps.{room_wider}
use Rattle.dd_sets.specs.declared.errors.SetErr.{SetErr}
use Rattle.dd_sets.specs.declared.errors.SetErr.TheVariants.{Full}
use Rattle.dd_sets.specs.declared.slots.SetId.{SetId}
use Rattle.encode_task.specs.Made.{MadeOf}
use Rattle.encode_task.specs.Slots.{Encoded}
use Rattle.slot_board.specs.Board as board
use Rattle.slot_board.specs.Board.{HasNoRoom, Scene}
use Rattle.plan_theory.specs.UntilChains.{UntilSets, covers_until, until_contexts, until_win, until_win_at}
use Rattle.plan_theory.specs.UntilPlans.{HasNoUntilPlan, IsUntilPlan}
use Rattle.plan_theory.specs.UntilPrinted.{until_rules}
use Rattle.plan_theory.proofs.UntilRules.{acts_as_until, until_rules_within}
use Rattle.plan_theory.proofs.UntilSound.{plan_solves}
use Rattle.ctl_syntax.specs.GoalValues.{stage_sets}
use Rattle.ctl_syntax.specs.declared.context_goals.UntilChain.{UntilChain}
use Rattle.plan_rules.specs.Denoted.{denoted_contexts}
use Rattle.plan_rules.specs.Plans.{IsContextRuleOf}
use Rattle.plan_rules.specs.Rules.{ContextRule, context_rules_of}
use Rattle.plan_rules.specs.declared.rules.AutoPlan.{AutoPlan}
use Rattle.list_laws.proofs.Elements.{list_all-agree}
use Rattle.task_core.specs.Cubes.{SetOfVectors}
use Rattle.task_core.specs.Tasks.{action_count, fluent_count, system_of}
use Rattle.task_core.specs.Vectors.{value_of}
use Rattle.task_core.specs.declared.tasks.Task.{Task}
use Rattle.task_core.proofs.TaskSystem.{is_system}
use Rattle.context_plan.specs.Answers.{Ends, IsAnswer, IsPlanOf}
use Rattle.context_plan.specs.Chains.{until_sets}
use Rattle.context_plan.specs.Found.{IfNoPlan, IfPlan}
use Rattle.context_plan.specs.Scenes.{HasNothing, IsAt, Left, SameStates, Start, Worked, board_of, place_count, rough_places, states_at, sys_of, win_place}
use Rattle.context_plan.specs.Steps.{HasTakers, Won}
use Rattle.context_plan.specs.Tables.{HasTable, start_of}
use Rattle.context_plan.specs.declared.found.FoundAuto.{FoundAuto}
use Rattle.context_plan.specs.declared.found.FoundAuto.TheVariants.{NoPlan, Plan}

-- the test of the initial states leaves all places
pub stayed_worked : (start : Start) (enc now : Encoded) (slots : List SetId) → board.Stayed (board_of start) enc.sets now slots → Worked start (enc, slots) (now, slots)
stayed_worked start enc now slots stayed =
    let states : Function → SetOfVectors = λ f v. f (value_of v) in
    record {
      ready = record { at = stayed.at; sound = stayed.sound };
      kept = λ k high within. ap states (stayed.each k within);
    }

-- the states of the first context
pub covered_is : (start : Start) (x : Scene) (chain : UntilSets) → Won start x chain 0 → list_all (states_at x (win_place 0)) (sys_of start).initial ≡ covers_until (sys_of start) chain
covered_is start x chain h =
    list_all-agree (states_at x (win_place 0)) (until_win_at (sys_of start) chain 1) (sys_of start).initial
    (λ v c.
    h.wins 0 (omega arith) (omega arith) v ((is_system start.task).initial v c).vector
    ∙ ap (λ k. until_win (sys_of start) chain.keep (drop k chain.stages) v) (let e : 0 ≡ 1 - 1 = omega arith in e))

-- no place holds a state at the beginning
pub blank : (start : Start) (x : Scene) → HasNothing start x → (k : ℕ) → 8 ≤ k → k < length x.1 → SameStates start (states_at x k) (λ v. false)
blank start x h k high within v is = ap (λ (f : Function). f (value_of v)) (h.holds_nothing k within)

-- the number of stages
pub stage_count : (chain : UntilChain) (n : ℕ) → n ≡ length chain.stages.items → length (until_sets chain).stages ≡ n
stage_count chain n e = length-map chain.stages.items stage_sets ∙ sym e

-- what is said of the plan
pub plan_is : (task : Task) (chain : UntilSets) (plan : AutoPlan) → suc (length chain.stages) ≤ 1000000 → covers_until (system_of task) chain ≡ true → plan.contexts ≡ until_contexts chain → context_rules_of plan ≡ until_rules (system_of task) chain → IsPlanOf task chain plan
plan_is task chain plan few covered contexts printed =
    let sys = system_of task in
    record {
      contexts = contexts;
      printed = printed;
      in_task = record {
        number = record { first = omega (arith, contexts); last = omega (arith, contexts) };
        each =
            subst (λ (n : ℕ). All (IsContextRuleOf (fluent_count task) (action_count task) n) (context_rules_of plan)) (sym contexts)
            (subst (λ (rules : List ContextRule). All (IsContextRuleOf (fluent_count task) (action_count task) (until_contexts chain)) rules) (sym printed) (until_rules_within sys chain));
      };
      solves =
          subst (λ (rules : List ContextRule). IsUntilPlan sys chain (denoted_contexts rules)) (sym printed)
          (plan_solves sys (is_system task) chain (denoted_contexts (until_rules sys chain)) (acts_as_until sys chain (is_system task)) covered);
    }

-- the printed table is on the board
pub table_is : (start : Start) (x : Scene) (chain : UntilSets) (n : ℕ) → length chain.stages ≡ start.stages → start.stages ≡ n → HasTakers start x chain (suc n) → covers_until (sys_of start) chain ≡ true → HasTable start x chain
table_is start x chain n long is_n h covered = record {
  stages = long;
  takers = subst (λ k. HasTakers start x chain (suc k)) (sym is_n) h;
  covered = covered;
}

-- what a refused step leaves of the search
pub ends_refused : {T : Type 0} (start : Start) (x : Scene) (chain : UntilSets) (P : Type 0) (inner : Result T SetErr) (outer : Result Bool SetErr) (e : SetErr) → inner ≡ Err e → (f : SetErr) × (outer ≡ Err f) × (f ≡ e) → Left start x P inner → Ends start x chain outer
ends_refused start x chain P inner outer e was p left =
    subst (Ends start x chain) (sym p.1) (let kept = subst (Left start x P) was left in (kept.0, λ full. kept.1 (sym p.2 ∙ full)))

pub ends_unanswered : {T : Type 0} (start : Start) (x : Scene) (chain : UntilSets) (P : T → Type 0) (inner : Result T SetErr) (outer : Result Bool SetErr) (e : SetErr) → inner ≡ Err e → (f : SetErr) × (outer ≡ Err f) × (f ≡ e) → board.Ends (board_of start) x.0 x.1 P inner → Ends start x chain outer
ends_unanswered start x chain P inner outer e was p ends =
    subst (Ends start x chain) (sym p.1) (let kept = subst (board.Ends (board_of start) x.0 x.1 P) was ends in (kept.0, λ full. kept.1 (sym p.2 ∙ full)))

-- what the end of a search says
pub ends_found : (start : Start) (x : Scene) (chain : UntilSets) (result : Result Bool SetErr) → result ≡ Ok true → Ends start x chain result → HasTable start x chain
ends_found start x chain result is ends = subst (Ends start x chain) is ends

pub ends_none : (start : Start) (x : Scene) (chain : UntilSets) (result : Result Bool SetErr) → result ≡ Ok false → Ends start x chain result → IsAt start x × HasNoUntilPlan (system_of start.task) chain
ends_none start x chain result is ends = subst (Ends start x chain) is ends

pub ends_refusal : (start : Start) (x : Scene) (chain : UntilSets) (result : Result Bool SetErr) (e : SetErr) → result ≡ Err e → Ends start x chain result → IsAt start x × (e ≡ Full → HasNoRoom (board_of start) x.0)
ends_refusal start x chain result e is ends = subst (Ends start x chain) is ends

pub room_of : (start : Start) (now : Encoded) → HasNoRoom (board_of start) now → NoRoom start.width (action_count start.task * (start.stages + 3) + 8 * start.stages + 236) 16 start.enc.sets now.sets
room_of start now full =
    room_wider start.enc.sets (place_count (action_count start.task) start.stages + (action_count start.task + 6 * start.stages + 218) + 8) (action_count start.task * (start.stages + 3) + 8 * start.stages + 236) (length rough_places + 4) 16
    (room (action_count start.task) start.stages) (omega arith) full
  where
    room : (a n : ℕ) → place_count a n + (a + 6 * n + 218) + 8 ≤ a * (n + 3) + 8 * n + 236
    room a n = omega arith

-- what is said of an answer
pub answer_plan : (task : Task) (chain : UntilSets) (P : AutoPlan → Type 0) (result : Result FoundAuto SetErr) → ((plan : AutoPlan) → IsPlanOf task chain plan → P plan) → IfOk result (IsAnswer task chain) → IfOk result (λ found. IfPlan found P)
answer_plan task chain P (Ok (Plan plan)) each is = each plan is
answer_plan task chain P (Ok NoPlan) each is = tt
answer_plan task chain P (Err e) each is = tt

pub answer_no_plan : (task : Task) (chain : UntilSets) (result : Result FoundAuto SetErr) → IfOk result (IsAnswer task chain) → IfOk result (λ found. IfNoPlan found (HasNoUntilPlan (system_of task) chain))
answer_no_plan task chain (Ok (Plan plan)) is = tt
answer_no_plan task chain (Ok NoPlan) is = is
answer_no_plan task chain (Err e) is = tt

pub first_places : (task : Task) (enc now : Encoded) (made : MadeOf task enc) (n w places spare : ℕ) (wide : fluent_count task + 2 ≤ w) (slots : List _) → places ≡ place_count (action_count task) n → spare ≡ action_count task + 6 * n + 218
    → board.HasNothing (record { task = task; enc = enc; made = made; places = places; spare = spare; width = w; wide = wide; rough = rough_places }) now slots → HasNothing (start_of task enc made n w wide) (now, slots)
first_places task enc now made n w places spare wide slots e f h =
    subst (λ k. board.HasNothing (record { task = task; enc = enc; made = made; places = place_count (action_count task) n; spare = k; width = w; wide = wide; rough = rough_places }) now slots) f
    (subst (λ k. board.HasNothing (record { task = task; enc = enc; made = made; places = k; spare = spare; width = w; wide = wide; rough = rough_places }) now slots) e h)
