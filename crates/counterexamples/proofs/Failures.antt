-- What shows why a plan fails is reached by the plan.
use Rattle.std.proofs.Common.{◌≡◌, ◌∙◌, List, [], ◌∷◌, map, refl, ap}
use Rattle.std.specs.List.{Contains}
use Rattle.list_laws.proofs.Elements.{some_element}
use Rattle.task_core.specs.ContextPlans.{Configuration}
use Rattle.task_core.specs.Paths.{IsPath, last_of}
use Rattle.task_core.specs.Solutions.{IsReached, MayEnd, MayReachGoal}
use Rattle.task_core.specs.Systems.{IsSystem, System}
use Rattle.task_core.specs.Tables.{IsTerminal, Leads, Table}
use Rattle.task_core.specs.Tasks.{system_of}
use Rattle.task_core.specs.Vectors.{Vector}
use Rattle.task_core.specs.declared.classes.Class.{Class}
use Rattle.task_core.specs.declared.classes.Class.TheVariants.{Cyclic, Strong, Weak}
use Rattle.task_core.proofs.TaskSystem.{is_system}
use Rattle.plan_check.specs.declared.verdicts.Reason.TheVariants.{Cycle, Formula, Stuck, Terminal, Unexecutable, Unreachable}
use Rattle.plan_rules.specs.Denoted.{denoted}
use Rattle.plan_rules.specs.Rules.{PlainPlan, PlanRule, table}
use Rattle.plan_rules.proofs.DenotedPairs.{denoted-table}
use Rattle.exec_graph.specs.Executions.{GoesTo, IsReachedBy}
use Rattle.exec_graph.specs.Orders.{in_first}
use Rattle.plan_witness.specs.Ends.{IsEnd, IsEndInside, LeadsTo}
use Rattle.counterexamples.specs.Shown.{ContextFailuresAreShown, FailuresAreShown}

module _ (sys : System) (ok : IsSystem sys) (written : Class) (rules : List PlanRule) where
  abbrev plan : PlainPlan
  plan = table written rules

  abbrev pairs : Table
  pairs = denoted sys rules

  -- a path of the table is one of the plan
  pub lift : (x : Configuration) (rest : List Vector) → IsPath (Leads sys pairs) x.state rest → IsPath (GoesTo sys plan) x (map in_first rest)
  lift x [] path = tt
  lift x (s ∷ rest) (leads, path) = ((leads, refl), lift (in_first s) rest path)

  lift_last : (s : Vector) (rest : List Vector) → last_of (in_first s) (map in_first rest) ≡ in_first (last_of s rest)
  lift_last s [] = refl
  lift_last s (t ∷ rest) = lift_last t rest

  -- and the other way round
  pub lower : (x : Configuration) (rest : List Configuration) → IsPath (GoesTo sys plan) x rest → IsPath (Leads sys pairs) x.state (map (λ (y : Configuration). y.state) rest)
  lower x [] path = tt
  lower x (y ∷ rest) (goes, path) = (goes.0, lower y rest path)

  lower_last : (x : Configuration) (rest : List Configuration) → last_of x.state (map (λ (y : Configuration). y.state) rest) ≡ (last_of x rest).state
  lower_last x [] = refl
  lower_last x (y ∷ rest) = lower_last y rest

  reached : (s : Vector) → IsReached sys pairs s → IsReachedBy sys plan (in_first s)
  reached s r = (r, refl)

  starts : (s : Vector) → Contains sys.initial s → IsReached sys pairs s
  starts s initial = record { start = s; initial = initial; path = record { rest = []; path = tt; ends = refl } }

  ends : (s : Vector) → IsTerminal pairs s → IsEnd sys plan (in_first s)
  ends s terminal y goes = terminal goes.0.action goes.0.pair

  pub terminal_at : (x : Configuration) → IsEnd sys plan x → IsTerminal pairs x.state
  terminal_at x end a pair =
      let t = some_element (sys.next x.state a) (denoted-table sys ok rules x.state a pair).1 in
      end (in_first t.0) (record { action = a; pair = pair; outcome = t.1 }, refl)

  reaches_goal : (x : Configuration) → LeadsTo sys plan (IsEndInside sys plan) x → MayReachGoal sys pairs x.state
  reaches_goal x leads = record {
    end = (last_of x leads.rest).state;
    reached = record { rest = map (λ (y : Configuration). y.state) leads.rest; path = lower x leads.rest leads.path; ends = lower_last x leads.rest };
    terminal = terminal_at (last_of x leads.rest) leads.ends.end;
    goal = leads.ends.inside;
  }

  may_end : (x : Configuration) → LeadsTo sys plan (IsEnd sys plan) x → MayEnd sys pairs x.state
  may_end x leads = record {
    end = (last_of x leads.rest).state;
    reached = record { rest = map (λ (y : Configuration). y.state) leads.rest; path = lower x leads.rest leads.path; ends = lower_last x leads.rest };
    terminal = terminal_at (last_of x leads.rest) leads.ends;
  }

pub shown : FailuresAreShown
shown task written class rules Unexecutable has none = none (in_first has.state) (reached (system_of task) (is_system task) written rules has.state has.reached) has.rule
shown task written class rules Stuck has none = absurd has
shown task written Weak rules Terminal has none = absurd has
shown task written Strong rules Terminal has none =
    none (in_first has.end) (reached (system_of task) (is_system task) written rules has.end has.reached)
    (record { end = ends (system_of task) (is_system task) written rules has.end has.terminal; outside = has.outside })
shown task written Cyclic rules Terminal has none =
    none (in_first has.end) (reached (system_of task) (is_system task) written rules has.end has.reached)
    (record { end = ends (system_of task) (is_system task) written rules has.end has.terminal; outside = has.outside })
shown task written Weak rules Cycle has none = absurd has
shown task written Strong rules Cycle has none =
    let sys = system_of task in
    let ok = is_system task in
    none (in_first has.state) (reached sys ok written rules has.state has.reached)
    (record {
      next = in_first has.next;
      rest = map in_first has.rest;
      path = lift sys ok written rules (in_first has.state) (has.next ∷ has.rest) has.path;
      round = lift_last sys ok written rules has.next has.rest ∙ ap in_first has.round;
    })
shown task written Cyclic rules Cycle has none = absurd has
shown task written Weak rules Unreachable has none =
    let sys = system_of task in
    let ok = is_system task in
    none (in_first has.start) (reached sys ok written rules has.start (starts sys ok written rules has.start has.initial))
    (record { initial = record { state = has.initial; context = refl }; misses = λ leads. has.misses (reaches_goal sys ok written rules (in_first has.start) leads) })
shown task written Strong rules Unreachable has none = absurd has
shown task written Cyclic rules Unreachable has none =
    let sys = system_of task in
    let ok = is_system task in
    none (in_first has.state) (reached sys ok written rules has.state has.reached) (λ leads. has.endless (may_end sys ok written rules (in_first has.state) leads))
shown task written class rules Formula has none = absurd has

pub shown_in_contexts : ContextFailuresAreShown
shown_in_contexts task contexts rules goal Unexecutable has other none = none has.place has.reached has.refused
shown_in_contexts task contexts rules goal Stuck has other none = none has.place has.reached has.stuck
shown_in_contexts task contexts rules goal Terminal has other none = has
shown_in_contexts task contexts rules goal Cycle has other none = has
shown_in_contexts task contexts rules goal Unreachable has other none = has
shown_in_contexts task contexts rules goal Formula has other none = other refl
