-- The search for the plan of a patrol goal: what it answers.
use Rattle.std.proofs.Common.{◌≡◌, ℕ, ◌+◌, ◌≤◌, ◌<◌, true, IsErrOf, IfOk, List, All, Result, Ok, Err, length, sym, ap, subst, ◌∙◌, inr, arith}
use Rattle.std.specs.List.{list_all}
use Rattle.std.proofs.lemmas.List.{length-map}
use Rattle.dd_nodes.specs.Subfunctions.{Function}
use Rattle.dd_sets.specs.declared.errors.SetErr.{SetErr}
use Rattle.dd_sets.specs.declared.errors.SetErr.TheVariants.{Full}
use Rattle.dd_sets.specs.declared.slots.SetId.{SetId}
use Rattle.encode_task.specs.Slots.{Encoded}
use Rattle.slot_board.specs.Board as board
use Rattle.slot_board.specs.Board.{HasNoRoom, Scene, set_at}
use Rattle.ctl_syntax.specs.Conditions.{states_of}
use Rattle.plan_theory.proofs.PatrolRules.{acts_as_patrol, patrol_rules_within}
use Rattle.plan_theory.proofs.PatrolSound.{plan_solves}
use Rattle.list_laws.proofs.Elements.{list_all-agree}
use Rattle.plan_theory.specs.PatrolPlans.{HasNoPatrolPlan, IsPatrolPlan}
use Rattle.plan_theory.specs.PatrolPrinted.{patrol_rules}
use Rattle.plan_theory.specs.Patrols.{covers_patrol, patrol_set}
use Rattle.plan_rules.specs.Denoted.{denoted_contexts}
use Rattle.plan_rules.specs.Plans.{IsContextRuleOf}
use Rattle.plan_rules.specs.Rules.{ContextRule, context_rules_of}
use Rattle.plan_rules.specs.declared.rules.AutoPlan.{AutoPlan}
use Rattle.task_core.specs.Cubes.{SetOfVectors}
use Rattle.task_core.specs.Tasks.{action_count, fluent_count, system_of}
use Rattle.task_core.specs.Vectors.{value_of}
use Rattle.task_core.specs.declared.conditions.Cond.{Cond}
use Rattle.task_core.specs.declared.tasks.Task.{Task}
use Rattle.task_core.proofs.TaskSystem.{is_system}
use Rattle.context_plan.specs.Chains.{visit_sets}
use Rattle.context_plan.specs.Found.{IfNoPlan, IfPlan}
use Rattle.context_plan.specs.PatrolAnswers.{IsPatrolAnswer, IsPatrolPlanOf, PatrolEnds}
use Rattle.context_plan.specs.PatrolSteps.{HasPatrol, HasPatrolTable, visit_place}
use Rattle.context_plan.specs.Scenes.{IsAt, Left, Start, board_of, states_at, sys_of, takers_place}
use Rattle.context_plan.specs.declared.found.FoundAuto.{FoundAuto}
use Rattle.context_plan.specs.declared.found.FoundAuto.TheVariants.{NoPlan, Plan}
use Rattle.context_plan.proofs.SizeSteps.{placed_small}
use Rattle.context_plan.proofs.TakenSteps.{takers_within}
use Rattle.context_plan.proofs.VisitSteps.{visit_low}

pub visit_count : (conds : List Cond) (n : ℕ) → n ≡ length conds → length (visit_sets conds) ≡ n
visit_count conds n e = length-map conds states_of ∙ sym e

pub patrol_table : (start : Start) (conds : List Cond) (x : Scene) → HasPatrol start conds x start.stages → covers_patrol (sys_of start) (visit_sets conds) ≡ true → HasPatrolTable start conds x
patrol_table start conds x h covered = record { patrol = h; covered = covered }

-- what is said of the plan
pub patrol_plan_is : (task : Task) (visits : List SetOfVectors) (plan : AutoPlan) → 1 ≤ length visits → length visits ≤ 1000000 → covers_patrol (system_of task) visits ≡ true → plan.contexts ≡ length visits → context_rules_of plan ≡ patrol_rules (system_of task) visits → IsPatrolPlanOf task visits plan
patrol_plan_is task visits plan some few covered contexts printed =
    let sys = system_of task in
    record {
      contexts = contexts;
      printed = printed;
      in_task = record {
        number = record { first = omega (arith, contexts); last = omega (arith, contexts) };
        each =
            subst (λ (n : ℕ). All (IsContextRuleOf (fluent_count task) (action_count task) n) (context_rules_of plan)) (sym contexts)
            (subst (λ (rules : List ContextRule). All (IsContextRuleOf (fluent_count task) (action_count task) (length visits)) rules) (sym printed) (patrol_rules_within sys visits));
      };
      solves =
          subst (λ (rules : List ContextRule). IsPatrolPlan sys visits (denoted_contexts rules)) (sym printed)
          (plan_solves sys (is_system task) visits (denoted_contexts (patrol_rules sys visits)) (acts_as_patrol sys visits (is_system task)) some covered);
    }

-- the initial states are looked up among those of the plan
pub patrol_test : (start : Start) (conds : List Cond) (x : Scene) → HasPatrol start conds x 0 → board.TestFits (board_of start) (set_at x.0.sets x.1 8)
patrol_test start conds x h = (h.fits.initial, placed_small start x h.ready.at 8 (visit_low start x h.ready.at h.some 8 (omega arith)) (inr (omega arith)))

pub patrol_covered : (start : Start) (conds : List Cond) (x : Scene) → HasPatrol start conds x 0 → list_all (states_at x 8) (sys_of start).initial ≡ covers_patrol (sys_of start) (visit_sets conds)
patrol_covered start conds x h =
    list_all-agree (states_at x 8) (patrol_set (sys_of start) (visit_sets conds)) (sys_of start).initial
    (λ v c. h.left v ((is_system start.task).initial v c).vector)

-- the test leaves all places
pub patrol_stayed : (start : Start) (conds : List Cond) (enc now : Encoded) (slots : List SetId) (n : ℕ) → HasPatrol start conds (enc, slots) n → board.Stayed (board_of start) enc.sets now slots → HasPatrol start conds (now, slots) n
patrol_stayed start conds enc now slots n h stayed =
    let states : Function → SetOfVectors = λ f v. f (value_of v) in
    let still : (k : ℕ) → k < length slots → states_at (now, slots) k ≡ states_at (enc, slots) k = λ k within. ap states (stayed.each k within) in
    let low : (k : ℕ) → k < 11 + start.stages → states_at (now, slots) k ≡ states_at (enc, slots) k = λ k before. still k (visit_low start (enc, slots) h.ready.at h.some k before) in
    let late : (i a : ℕ) → i < start.stages → a < action_count start.task → states_at (now, slots) (takers_place (action_count start.task) start.stages i + a) ≡ states_at (enc, slots) (takers_place (action_count start.task) start.stages i + a) =
    λ i a less below. let within = takers_within start (enc, slots) h.ready.at i (omega arith) in still (takers_place (action_count start.task) start.stages i + a) (omega arith) in
    record {
      fits = h.fits;
      count = h.count;
      some = h.some;
      ready = record { at = stayed.at; sound = stayed.sound; guard = λ v is. ap (λ (f : SetOfVectors). f v) (low 5 (omega arith)) ∙ h.ready.guard v is };
      left = λ v is. ap (λ (f : SetOfVectors). f v) (low 8 (omega arith)) ∙ h.left v is;
      mets = λ i less v is. ap (λ (f : SetOfVectors). f v) (low (visit_place i) (omega arith)) ∙ h.mets i less v is;
      taken = λ i a early less below v is. ap (λ (f : SetOfVectors). f v) (late i a less below) ∙ h.taken i a early less below v is;
      untaken = λ i a from less below v is. ap (λ (f : SetOfVectors). f v) (late i a less below) ∙ h.untaken i a from less below v is;
    }

-- what a refused step leaves of the search
pub patrol_ends_refused : {T : Type 0} (start : Start) (x : Scene) (visits : List SetOfVectors) (P : Type 0) (inner : Result T SetErr) (outer : Result FoundAuto SetErr) (e : SetErr) → inner ≡ Err e → (f : SetErr) × (outer ≡ Err f) × (f ≡ e) → Left start x P inner → PatrolEnds start x visits outer
patrol_ends_refused start x visits P inner outer e was p left =
    subst (PatrolEnds start x visits) (sym p.1) (let kept = subst (Left start x P) was left in (kept.0, λ full. kept.1 (sym p.2 ∙ full)))

-- what the end of a search says
pub patrol_ends_lost : {T : Type 0} (start : Start) (x : Scene) (visits : List SetOfVectors) (P : T → Type 0) (inner : Result T SetErr) (outer : Result FoundAuto SetErr) (e : SetErr) → inner ≡ Err e → (f : SetErr) × (outer ≡ Err f) × (f ≡ e) → board.Ends (board_of start) x.0 x.1 P inner → PatrolEnds start x visits outer
patrol_ends_lost start x visits P inner outer e was p ends =
    subst (PatrolEnds start x visits) (sym p.1) (let kept = subst (board.Ends (board_of start) x.0 x.1 P) was ends in (kept.0, λ full. kept.1 (sym p.2 ∙ full)))

pub ends_at : (start : Start) (x : Scene) (visits : List SetOfVectors) (result : Result FoundAuto SetErr) → PatrolEnds start x visits result → IsAt start x
ends_at start x visits (Ok found) ends = ends.0
ends_at start x visits (Err e) ends = ends.0

pub ends_answer : (start : Start) (x : Scene) (visits : List SetOfVectors) (result : Result FoundAuto SetErr) → PatrolEnds start x visits result → IfOk result (IsPatrolAnswer start.task visits)
ends_answer start x visits (Ok found) ends = ends.1
ends_answer start x visits (Err e) ends = tt

pub ends_full : (start : Start) (x : Scene) (visits : List SetOfVectors) (result : Result FoundAuto SetErr) → PatrolEnds start x visits result → IsErrOf result Full → HasNoRoom (board_of start) x.0
ends_full start x visits (Ok found) ends full = absurd (let h : Ok found ≡ Err Full = full in cc)
ends_full start x visits (Err e) ends full = ends.1 (let h : Err e ≡ Err Full = full in cc)

-- what is said of an answer
pub patrol_answer_plan : (task : Task) (visits : List SetOfVectors) (P : AutoPlan → Type 0) (result : Result FoundAuto SetErr) → ((plan : AutoPlan) → IsPatrolPlanOf task visits plan → P plan) → IfOk result (IsPatrolAnswer task visits) → IfOk result (λ found. IfPlan found P)
patrol_answer_plan task visits P (Ok (Plan plan)) each is = each plan is
patrol_answer_plan task visits P (Ok NoPlan) each is = tt
patrol_answer_plan task visits P (Err e) each is = tt

pub patrol_answer_none : (task : Task) (visits : List SetOfVectors) (result : Result FoundAuto SetErr) → IfOk result (IsPatrolAnswer task visits) → IfOk result (λ found. IfNoPlan found (HasNoPatrolPlan (system_of task) visits))
patrol_answer_none task visits (Ok (Plan plan)) is = tt
patrol_answer_none task visits (Ok NoPlan) is = is
patrol_answer_none task visits (Err e) is = tt
