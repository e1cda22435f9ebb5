-- A task with another initial state.
use Rattle.std.proofs.Common.{◌≡◌, ◌≢◌, ◌&&◌, ℕ, Bool, true, false, cond, if◌then◌else◌, List, [], ◌∷◌, None, Option, Some, length, map, refl, subst, sym, ap, ◌∙◌, slice_get}
use Rattle.std.specs.List.{filter}
use Rattle.std.specs.Option.{option_and_then, option_map, option_map_or}
use Rattle.dead_ends.specs.DeadEnds.{HasPlanFrom, IsDeadEnd, from_state}
use Rattle.dead_ends.specs.Planners.{IsFoundFor}
use Rattle.dead_ends.specs.Started.{IsLike, StartsAt}
use Rattle.plan_rules.specs.declared.rules.TablePlan.{TablePlan}
use Rattle.plan_theory.specs.declared.answers.Found.TheVariants.{NoPlan, Plan}
use Rattle.std.specs.Prelude.{Vec}
use Rattle.std.specs.declared.alloc.Global.{Global}
use Rattle.std.specs.declared.rc.RcStr.{RcStr}
use Rattle.plan_rules.specs.Denoted.{denoted}
use Rattle.plan_rules.specs.Rules.{rules_of}
use Rattle.task_core.specs.Actions.{after}
use Rattle.task_core.specs.Conditions.{holds}
use Rattle.task_core.specs.Initial.{after_entries, facts_of}
use Rattle.task_core.specs.Solutions.{HasNoSolution, IsSolution}
use Rattle.task_core.specs.Systems.{System}
use Rattle.task_core.specs.Tables.{IsTable, Table}
use Rattle.task_core.specs.Tasks.{fluent_count, in_space, initial_states, initial_vectors, system_of}
use Rattle.task_core.specs.Vectors.{Vector, all_vectors, value_of}
use Rattle.task_core.specs.declared.actions.GroundAction.{GroundAction}
use Rattle.task_core.specs.declared.actions.Outcome.{Outcome}
use Rattle.task_core.specs.declared.classes.Class.{Class}
use Rattle.task_core.specs.declared.conditions.Cond.{Cond}
use Rattle.task_core.specs.declared.tasks.Task.{Task}

-- the system with other initial states
abbrev pub with_initial : System → List Vector → System
with_initial sys states = record sys { initial = states }

-- what a system is of the parts of a task, but for its initial states
abbrev parts_system : Vec (Vec (RcStr Global) Global) Global → Vec GroundAction Global → Option Cond → Cond → List Vector → System
parts_system fluents actions goal invariant states =
    let n : ℕ = length fluents.items in
    let inside : Vector → Bool = λ v. holds invariant (value_of v) in
    let outcomes : ℕ → List Outcome = λ a. option_map_or (λ (action : GroundAction). action.outcomes.items) (slice_get actions.items a) [] in
    let allowed : Vector → ℕ → Bool = λ v a. inside v && option_map_or (λ (action : GroundAction). holds action.exec (value_of v)) (slice_get actions.items a) false in
    let nexts : Vector → ℕ → List Vector = λ v a. map (λ (o : Outcome). after n o v) (outcomes a) in
    record {
      fluents = n;
      in_space = inside;
      actions = length actions.items;
      outcomes = λ a. length (outcomes a);
      initial = states;
      goal = option_map (λ (cond : Cond). filter (λ v. inside v && holds cond (value_of v)) (all_vectors n)) goal;
      next = λ v a. if allowed v a then filter inside (nexts v a) else [];
      after = λ v a o. if allowed v a then option_and_then (λ w. if inside w then Some w else None) (slice_get (nexts v a) o) else None;
    }

same_parts : (task : Task) (states : List Vector) → with_initial (system_of task) states ≡ parts_system task.fluents task.actions task.goal task.invariant states
same_parts task states = refl

-- tasks that differ in their initial states at most have the same system but for them
pub like_system : (task other : Task) (states : List Vector) → IsLike task other → with_initial (system_of other) states ≡ with_initial (system_of task) states
like_system task other states like =
    same_parts other states
    ∙ (λ i. parts_system (like.fluents i) (like.actions i) (like.goal i) (like.invariant i) states)
    ∙ sym (same_parts task states)

kept_if : (inside : Vector → Bool) (v : Vector) (b : Bool) → inside v ≡ b → filter inside (v ∷ []) ≡ cond b (v ∷ []) []
kept_if inside v b e = ap (λ (c : Bool). cond c (v ∷ []) []) e

-- the vectors of a task that begins in one
vectors_only : (task : Task) (v : Vector) → StartsAt v task → initial_vectors task ≡ v ∷ []
vectors_only task v starts =
    ap (after_entries (fluent_count task) (facts_of (fluent_count task) task.init)) starts.entries ∙ ap (λ (w : Vector). w ∷ []) starts.facts

-- its initial states, where there are some
start_only : (task : Task) (v : Vector) → StartsAt v task → initial_states task ≢ [] → initial_states task ≡ v ∷ []
start_only task v starts some = go (in_space task v) refl where
  go : (b : Bool) → in_space task v ≡ b → initial_states task ≡ v ∷ []
  go true e = ap (filter (in_space task)) (vectors_only task v starts) ∙ kept_if (in_space task) v true e
  go false e = absurd (some (ap (filter (in_space task)) (vectors_only task v starts) ∙ kept_if (in_space task) v false e))

-- so its system is that of the other from the vector
pub start_system : (task other : Task) (v : Vector) → IsLike task other → StartsAt v other → initial_states other ≢ [] → system_of other ≡ from_state (system_of task) v
start_system task other v like starts some =
    ap (with_initial (system_of other)) (start_only other v starts some) ∙ like_system task other (v ∷ []) like

pub plan_from : (class : Class) (task other : Task) (v : Vector) → IsLike task other → StartsAt v other → (plan : TablePlan) → IsFoundFor class other (Plan plan) → HasPlanFrom class (system_of task) v
plan_from class task other v like starts plan (some, found) =
    let same = start_system task other v like starts some in
    let rows : Table = denoted (system_of other) (rules_of plan) in
    record {
      rows = rows;
      table = subst (λ (sys : System). IsTable sys rows) same found.table;
      solves = subst (λ (sys : System). IsSolution class sys rows) same found.solves;
    }

pub none_from : (class : Class) (task other : Task) (v : Vector) → IsLike task other → StartsAt v other → IsFoundFor class other NoPlan → IsDeadEnd class (system_of task) v
none_from class task other v like starts (some, none) =
    subst (HasNoSolution class) (start_system task other v like starts some) none

-- likeness
pub like_itself : (task : Task) → IsLike task task
like_itself task = record { fluents = refl; actions = refl; goal = refl; invariant = refl }

pub like_then : (a b c : Task) → IsLike a b → IsLike b c → IsLike a c
like_then a b c first second = record {
  fluents = second.fluents ∙ first.fluents;
  actions = second.actions ∙ first.actions;
  goal = second.goal ∙ first.goal;
  invariant = second.invariant ∙ first.invariant;
}

pub like_count : (task other : Task) → IsLike task other → fluent_count other ≡ fluent_count task
like_count task other like = ap (λ (names : Vec (Vec (RcStr Global) Global) Global). length names.items) like.fluents

-- from where there is a plan, by tasks that are alike
pub plan_alike : (class : Class) (task other : Task) (v : Vector) → IsLike task other → HasPlanFrom class (system_of other) v → HasPlanFrom class (system_of task) v
plan_alike class task other v like has = record {
  rows = has.rows;
  table = subst (λ (sys : System). IsTable sys has.rows) (like_system task other (v ∷ []) like) has.table;
  solves = subst (λ (sys : System). IsSolution class sys has.rows) (like_system task other (v ∷ []) like) has.solves;
}

pub dead_alike : (class : Class) (task other : Task) (v : Vector) → IsLike task other → IsDeadEnd class (system_of other) v → IsDeadEnd class (system_of task) v
dead_alike class task other v like = subst (HasNoSolution class) (like_system task other (v ∷ []) like)
