-- What shows a yes is reached by the plan.
use Rattle.std.proofs.Common.{◌≡◌, ◌∙◌, ◌<◌, ◌++◌, ℕ, List, [], ◌∷◌, None, Option, length, map, refl, sym, ap, subst, arith, ⊎_elim}
use Rattle.std.specs.List.{Contains}
use Rattle.std.proofs.lemmas.List.{length-append}
use Rattle.std.proofs.lemmas.Option.{none-some}
use Rattle.list_laws.proofs.Elements.{Contains-head, Contains-nil, some_element}
use Rattle.exec_graph.specs.Graphs.{IsGraphOf, PlainGraph}
use Rattle.exec_graph.specs.Orders.{in_first}
use Rattle.goal_witness.proofs.Endless.{found_round}
use Rattle.plan_check.specs.Verdicts.{IsYes}
use Rattle.plan_check.specs.declared.verdicts.Reason.TheVariants.{Terminal, Unreachable}
use Rattle.plan_rules.specs.Denoted.{denoted}
use Rattle.plan_rules.specs.Rules.{PlainPlan, PlanRule, table}
use Rattle.plan_rules.proofs.DenotedPairs.{denoted-table}
use Rattle.plan_witness.proofs.GraphRuns.{last_place, path_of, step_to}
use Rattle.plan_witness.specs.Ends.{IsEnd, IsEndInside}
use Rattle.plan_witness.specs.Lassos.{ComesBack}
use Rattle.plan_witness.specs.Runs.{NoneReached}
use Rattle.task_core.specs.Paths.{last_of}
use Rattle.task_core.specs.Solutions.{IsReached}
use Rattle.task_core.specs.Systems.{System, goal_states}
use Rattle.task_core.specs.Tables.{IsTerminal, Leads, Table}
use Rattle.task_core.specs.Tasks.{system_of}
use Rattle.task_core.specs.Vectors.{Vector}
use Rattle.task_core.specs.declared.classes.Class.{Class}
use Rattle.task_core.specs.declared.classes.Class.TheVariants.{Cyclic, Strong, Weak}
use Rattle.task_core.specs.declared.tasks.Task.{Task}
use Rattle.task_core.proofs.Paths.{path_append}
use Rattle.task_core.proofs.TaskSystem.{is_system}

-- a plan that never ends comes back somewhere
module _ (sys : System) (plan : PlainPlan) (graph : PlainGraph) (h : IsGraphOf sys plan graph) (never : NoneReached sys plan (IsEnd sys plan)) where
  abbrev Within : ℕ → Type 0
  Within i = i < graph.size

  onward_of : (i : ℕ) → Within i → (next : List ℕ) → graph.next i ≡ next → (j : ℕ) × Contains (graph.next i) j × Within j
  onward_of i l [] e =
      absurd (never (graph.configuration i) (h.reached i l)
      (λ y goes. let at = step_to sys plan graph h i y l goes in Contains-nil at.0 (subst (λ (js : List ℕ). Contains js at.0) e at.2)))
  onward_of i l (j ∷ next) e =
      let follows : Contains (graph.next i) j = subst (λ (js : List ℕ). Contains js j) (sym e) (Contains-head j next) in
      (j, follows, h.next_below i j l follows)

  pub comes_back : 0 < graph.size → NoneReached sys plan (ComesBack sys plan) → ⊥
  comes_back some none =
      let round = found_round graph.size graph.next Within (λ i l. l) (λ i l. onward_of i l (graph.next i) refl) 0 some in
      none (graph.configuration round.number) (h.reached round.number round.is)
      (record {
        next = graph.configuration round.follower;
        rest = map graph.configuration round.rest;
        path = path_of sys plan graph h round.number (round.follower ∷ round.rest) round.is round.walk;
        round = last_place graph.configuration round.follower round.rest ∙ ap graph.configuration round.round;
      })

-- a table that is a yes ends in the goal somewhere, if there is an initial state
module _ (task : Task) (written : Class) (rules : List PlanRule) (start : Vector) (initial : Contains (system_of task).initial start) where
  abbrev sys : System
  sys = system_of task

  abbrev plan : PlainPlan
  plan = table written rules

  abbrev pairs : Table
  pairs = denoted sys rules

  abbrev NoneInside : Type 0
  NoneInside = NoneReached sys plan (IsEndInside sys plan)

  inside_at : (s : Vector) → IsReached sys pairs s → IsTerminal pairs s → Contains (goal_states sys) s → NoneInside → ⊥
  inside_at s reached terminal goal none = none (in_first s) (reached, refl) (record { end = λ y goes. terminal goes.0.action goes.0.pair; inside = goal })

  at_start : IsReached sys pairs start
  at_start = record { start = start; initial = initial; path = record { rest = []; path = tt; ends = refl } }

  terminal_at : (s : Vector) → IsEnd sys plan (in_first s) → IsTerminal pairs s
  terminal_at s end a pair =
      let t = some_element (sys.next s a) (denoted-table sys (is_system task) rules s a pair).1 in
      end (in_first t.0) (record { action = a; pair = pair; outcome = t.1 }, refl)

  -- none follows the last state of a longest path
  ends_longest : (bound : Option ℕ) → IsYes sys rules Strong bound → NoneInside → ⊥
  ends_longest bound judged none = ⊎_elim
      (λ has.
      let s = last_of has.start has.rest in
      let reached : IsReached sys pairs s = record { start = has.start; initial = has.initial; path = record { rest = has.rest; path = has.path; ends = refl } } in
      let end : IsEnd sys plan (in_first s) = λ y goes.
      let most = judged.bounded.2.most (length (has.rest ++ y.state ∷ []))
      (record { start = has.start; initial = has.initial; rest = has.rest ++ y.state ∷ []; path = path_append (Leads sys pairs) has.start has.rest (y.state ∷ []) has.path (goes.0, tt); long = refl }) in
      let more = length-append has.rest (y.state ∷ []) in
      let long = has.long in
      omega (arith, most, more, long) in
      let terminal = terminal_at s end in
      inside_at s reached terminal (judged.free Terminal s reached terminal) none)
      (λ without. without.1 start initial)
      judged.bounded.2.attained

  pub ends_inside : (class : Class) (bound : Option ℕ) → IsYes sys rules class bound → NoneInside → ⊥
  ends_inside Weak bound judged none =
      let may = judged.free Unreachable start initial in
      inside_at may.end (record { start = start; initial = initial; path = may.reached }) may.terminal may.goal none
  ends_inside Strong bound judged none = ends_longest bound judged none
  ends_inside Cyclic bound judged none =
      let may = judged.free Unreachable start at_start in
      let reached : IsReached sys pairs may.end = record { start = start; initial = initial; path = may.reached } in
      inside_at may.end reached may.terminal (judged.free Terminal may.end reached may.terminal) none

-- a strong plan that is a yes has a bound
pub has_bound : (sys : System) (rules : List PlanRule) → IsYes sys rules Strong None → ⊥
has_bound s rules judged = none-some judged.bounded.0 judged.bounded.1
