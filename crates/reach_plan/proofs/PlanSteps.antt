-- The rules of the plan, from what the actions take.
use Rattle.std.proofs.Common.{◌≡◌, ℕ, ◌+◌, ◌<◌, ◌≤◌, List, [], ◌∷◌, ◌++◌, map, length, refl, sym, ap, subst, ◌∙◌, arith, append-nil, All, Bool, true, false, Result, Ok, Err, IfOk}
use Rattle.std.specs.Prelude.{OnErr}
use Rattle.std.specs.List.{Contains, flat_map, range_with_len}
use Rattle.std.proofs.lemmas.List.Concat.{flat_map-append}
use Rattle.dd_nodes.specs.Subfunctions.{Function}
use Rattle.dd_sets.specs.Frames.{Owns}
use Rattle.dd_sets.specs.LiveSets.{LiveSets, live_count}
use Rattle.dd_sets.specs.declared.errors.SetErr.{SetErr}
use Rattle.dd_sets.specs.declared.slots.SetId.{SetId}
use Rattle.dd_sets.proofs.FrameLemmas.{kept_chain, not_before}
use Rattle.dd_sets.specs.Rooms.{NoRoom}
use Rattle.dd_sets.proofs.RoomSteps.{room_owned}
use Rattle.encode_task.specs.Made.{MadeOf}
use Rattle.encode_task.specs.Slots.{Encoded}
use Rattle.encode_task.proofs.StateVectors.{cubes_agree}
use Rattle.plan_rules.specs.Denoted.{denoted, IsExecutable}
use Rattle.plan_rules.specs.Plans.{IsRuleOf}
use Rattle.plan_rules.specs.Rules.{PlanRule, rules_of}
use Rattle.plan_rules.specs.declared.rules.TablePlan.{TablePlan}
use Rattle.slot_board.specs.Board.{At, Ends, Start, Working, set_at, slot_at}
use Rattle.task_core.specs.Cubes.{cubes_of}
use Rattle.task_core.specs.Solutions.{HasNoSolution, IsSolution}
use Rattle.task_core.specs.Systems.{System}
use Rattle.task_core.specs.Tasks.{action_count, fluent_count, system_of}
use Rattle.task_core.specs.Vectors.{value_of}
use Rattle.task_core.specs.declared.classes.Class.{Class}
use Rattle.task_core.specs.declared.classes.Class.TheVariants.{Cyclic, Strong, Weak}
use Rattle.task_core.specs.declared.tasks.Task.{Task}
use Rattle.task_core.proofs.TaskSystem.{is_system}
use Rattle.plan_theory.specs.Classes.{IsFoundByLayers}
use Rattle.plan_theory.specs.Found.{IsPlanOfClass}
use Rattle.plan_theory.specs.PrintedRules.{ArePrintedRules}
use Rattle.plan_theory.specs.Layers.{IsLastLayer}
use Rattle.plan_theory.specs.LayerPlans.{printed_rules, rules_of_action, takers}
use Rattle.reach_plan.specs.Searches.{HasProgress, MayRetrace, SearchLeft}
use Rattle.reach_plan.specs.Steps.{LeadToLast, Progress, after_steps, at_goal}
use Rattle.slot_board.specs.declared.steps.Step.{Step}
use Rattle.reach_plan.specs.SetRules.{rules_of_place}
use Rattle.slot_board.specs.Rules.{rule_for}
use Rattle.reach_plan.specs.Takers.{HoldTakers, IsDecided}
use Rattle.reach_plan.specs.WorkingSets.{BoundsReachSets}
use Rattle.plan_theory.proofs.ClassLayers.{printed_executable}
use Rattle.plan_theory.proofs.LeastBounds.{solves_by_class}
use Rattle.plan_theory.proofs.PrintedWithin.{printed_within}
use Rattle.list_laws.proofs.Ranges.{range-more}
use Rattle.plan_rules.proofs.DenotedPairs.{denoted-table}
use Rattle.list_laws.proofs.Elements.{Contains-cons, Contains-head, Contains-range_with_len-below}

-- the rules of one number more
pub rules_more : (f : ℕ → List PlanRule) (a : ℕ) (old new : List PlanRule) → old ≡ flat_map f (range_with_len 0 a) → new ≡ old ++ f a → new ≡ flat_map f (range_with_len 0 (a + 1))
rules_more f a old new before more =
    more ∙ ap (λ xs. xs ++ f a) before
    ∙ sym (ap (flat_map f) (range-more a) ∙ flat_map-append f (range_with_len 0 a) (a ∷ []) ∙ ap (λ xs. flat_map f (range_with_len 0 a) ++ xs) (append-nil (f a)))

flat_map_agree : (f g : ℕ → List PlanRule) (xs : List ℕ) → ((a : ℕ) → Contains xs a → f a ≡ g a) → flat_map f xs ≡ flat_map g xs
flat_map_agree f g [] same = refl
flat_map_agree f g (x ∷ xs) same = (λ j. same x (Contains-head x xs) j ++ flat_map_agree f g xs (λ a among. same a (Contains-cons x xs a among)) j)

-- where some layer is the last one there is a solution
pub not_none : (class : Class) → IsFoundByLayers class → (task : Task) (K : ℕ) → IsLastLayer class (system_of task) K → HasNoSolution class (system_of task) → ⊥
not_none class by_layers task K last none =
    let sys = system_of task in
    none (denoted sys (printed_rules class sys K)) (denoted-table sys (is_system task) (printed_rules class sys K)) (solves_by_class class by_layers sys K (is_system task) last)

-- the rules of the layers are those that are printed of a class that is found by layers
by_layers_printed : (class : Class) → IsFoundByLayers class → (sys : System) (K : ℕ) (rules : List PlanRule) → IsLastLayer class sys K → rules ≡ printed_rules class sys K → ArePrintedRules class sys rules
by_layers_printed Weak by_layers sys K rules last is = (K, last, is)
by_layers_printed Strong by_layers sys K rules last is = (K, last, is)
by_layers_printed Cyclic by_layers sys K rules last is = absurd by_layers

-- and so a plan has them
pub planned : (class : Class) → IsFoundByLayers class → (task : Task) (K : ℕ) (plan : TablePlan) → IsLastLayer class (system_of task) K → plan.class ≡ class → rules_of plan ≡ printed_rules class (system_of task) K → IsPlanOfClass class task plan
planned class by_layers task K plan last of_class is =
    let sys = system_of task in
    record {
      of_class = of_class;
      printed = by_layers_printed class by_layers sys K (rules_of plan) last is;
      in_task = subst (λ (rules : List PlanRule). All (IsRuleOf (fluent_count task) (action_count task)) rules) (sym is)
          (printed_within class sys K (IsRuleOf (fluent_count task) (action_count task)) (λ cube a below lt. record { cube = below; action = lt }));
      table = denoted-table sys (is_system task) (rules_of plan);
      solves = subst (λ (rules : List PlanRule). IsSolution class sys (denoted sys rules)) (sym is) (solves_by_class class by_layers sys K (is_system task) last);
      executable = subst (IsExecutable sys) (sym is) (printed_executable class sys K);
    }

-- the rules of the places' sets are the printed rules
pub printed_by_places : (class : Class) (task : Task) (enc : Encoded) (slots : List SetId) → MadeOf task enc → (has : HoldTakers class task enc.sets slots) → flat_map (rules_of_place enc.sets slots) (range_with_len 0 (action_count task)) ≡ printed_rules class (system_of task) has.layers
printed_by_places class task enc slots made has = flat_map_agree (rules_of_place enc.sets slots) (rules_of_action class (system_of task) has.layers) (range_with_len 0 (action_count task)) same
  where
    vars : enc.sets.vars ≡ fluent_count task
    vars = made.ready.vars ∙ made.fluents

    same : (a : ℕ) → Contains (range_with_len 0 (action_count task)) a → rules_of_place enc.sets slots a ≡ rules_of_action class (system_of task) has.layers a
    same a among =
        let below : a < action_count task = Contains-range_with_len-below (action_count task) a among in
        ap (λ (m : ℕ). map (rule_for a) (cubes_of m (λ state. set_at enc.sets slots a (value_of state)))) vars
        ∙ ap (map (rule_for a)) (cubes_agree (fluent_count task) 0 (λ state. set_at enc.sets slots a (value_of state)) (takers class (system_of task) has.layers a) (λ v is. has.takes a v below is))

-- what the first pass found
pub is_decided : (class : Class) (start : Start) (now : Encoded) (slots : List SetId) (steps : List Step) (covered : Bool) → SearchLeft class start now slots steps covered → IsDecided class start.task steps covered
is_decided class start now slots steps true left = left.leads
is_decided class start now slots steps false left = left.none

pub left_at : (class : Class) (start : Start) (now : Encoded) (slots : List SetId) (steps : List Step) (covered : Bool) → SearchLeft class start now slots steps covered → At start now slots
left_at class start now slots steps true left = left.at
left_at class start now slots steps false left = left.at

pub decided_by : (class : Class) (start : Start) (now : Encoded) (slots : List SetId) (steps : List Step) (result : Result Bool SetErr) → Ends start now slots (SearchLeft class start now slots steps) result → IfOk result (IsDecided class start.task steps)
decided_by class start now slots steps (Ok covered) ends = is_decided class start now slots steps covered ends
decided_by class start now slots steps (Err e) ends = tt

-- where a search with so many places begins
abbrev pub start_of : (task : Task) (enc : Encoded) → MadeOf task enc → ℕ → ℕ → (width : ℕ) → fluent_count task + 2 ≤ width → List ℕ → Start
start_of task enc made places spare width wide rough = record { task = task; enc = enc; made = made; places = places; spare = spare; width = width; wide = wide; rough = rough }

-- slots that were taken after others were ended
pub working_after : (a b c : LiveSets) (slots : List SetId) → Owns a b [] → Working b c slots → Working a c slots
working_after a b c slots first second =
    let count : live_count b ≡ live_count a + 0 = first.count in
    let more : live_count c ≡ live_count b + length slots = second.count in
    record {
      kept = kept_chain a b c first.kept second.kept;
      live = second.live;
      free = λ i l. not_before a b first.kept (slot_at slots i) (second.free i l);
      apart = second.apart;
      others = λ slot none. second.others slot none ∙ first.live slot;
      count = omega arith;
    }

pub owns_after : (a b c : LiveSets) → Owns a b [] → Owns b c [] → Owns a c []
owns_after a b c first second =
    let count : live_count b ≡ live_count a + 0 = first.count in
    let more : live_count c ≡ live_count b + 0 = second.count in
    record {
      kept = kept_chain a b c first.kept second.kept;
      new = tt;
      live = λ slot. second.live slot ∙ first.live slot;
      count = omega arith;
    }

-- the slots of the last layer
pub takers_held : (class : Class) (start : Start) (x now : Encoded) (old new : List SetId) (n : ℕ) (steps : List Step) → LeadToLast class start.task steps → HasProgress start x old n (after_steps class start.task (at_goal start.task) steps) → n ≡ action_count start.task → length new ≡ n
    → ((a : ℕ) → a < n → set_at now.sets new a ≡ set_at x.sets old a) → HoldTakers class start.task now.sets new
takers_held class start x now old new n steps leads found all long same = record {
  layers = leads.layers;
  last = leads.last;
  long = long ∙ all;
  takes = λ a v below is.
      ap (λ (f : Function). f (value_of v)) (same a (omega arith) ∙ found.by_layer.holds_taken a (omega arith) ∙ ap (λ (here : Progress). here.taken a) leads.led.there) ∙ leads.are_takers.takes a v below is;
}

-- what is so after every refusal
pub on_err : {T E : Type 0} (result : Result T E) (P : Type 0) → P → OnErr result P
on_err (Ok x) P is = tt
on_err (Err e) P is = is

-- no slot of a function's own
pub owns_working : (a b : LiveSets) → Owns a b [] → Working a b []
owns_working a b own = record {
  kept = own.kept;
  live = λ i l. absurd (omega arith);
  free = λ i l. absurd (omega arith);
  apart = λ i j l. absurd (omega arith);
  others = λ slot none. own.live slot;
  count = own.count;
}

-- a call that found no room after other slots were ended
pub room_after : (width : ℕ) (a b c : LiveSets) (many others : ℕ) → Owns a b [] → NoRoom width many others b c → NoRoom width many others a c
room_after width a b c many others own none = room_owned {w = width} a b [] own many many others 0 others tt (omega arith) (omega arith) none

-- where the two passes begin
abbrev pub first_pass : (task : Task) (enc : Encoded) → MadeOf task enc → ℕ → (width : ℕ) → fluent_count task + 2 ≤ width → Start
first_pass task enc made actions width wide = start_of task enc made 4 (actions + 12) width wide []

abbrev pub second_pass : (task : Task) (enc : Encoded) → MadeOf task enc → ℕ → (width : ℕ) → fluent_count task + 2 ≤ width → Start
second_pass task enc made actions width wide = start_of task enc made (actions + 4) 12 width wide ((actions + 3) ∷ [])

-- the second pass may make the steps of the first
pub may_retrace : (class : Class) (task : Task) (enc : Encoded) (made : MadeOf task enc) (actions width : ℕ) (wide : BoundsReachSets width class task) (steps : List Step) → LeadToLast class task steps → MayRetrace class (second_pass task enc made actions width wide.wide) actions steps
may_retrace class task enc made actions width wide steps leads = record { wide = wide; rough = Contains-head (actions + 3) []; layers = leads.layers; last = leads.last; along = leads.led.along }
