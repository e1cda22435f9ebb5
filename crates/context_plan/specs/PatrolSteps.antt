-- Private: what the parts of a search for a patrol goal leave on its board. At place 8 stand the states
-- that are left, at 9 those of them with an action that stays among them, at 10 those from which each
-- visit so far can be made among them, and from 11 on, for each visit, those in which it is made.
-- Rounds, visits and contexts are counted from 0.
use Rattle.std.specs.Prelude.{◌≡◌, ℕ, suc, ◌+◌, ◌*◌, ◌<◌, ◌≤◌, ◌==◌, Bool, false, not, ◌&&◌, List, ◌++◌}
use Rattle.std.specs.Prelude.{length, true}
use Rattle.plan_theory.specs.LayerPlans.{is_action}
use Rattle.plan_theory.specs.Patrols.{covers_patrol, patrol_set, visited}
use Rattle.plan_theory.specs.PatrolPrinted.{patrol_action, patrol_next, visit_in}
use Rattle.plan_theory.specs.Safe.{some_must_lead}
use Rattle.plan_rules.specs.Rules.{ContextRule}
use Rattle.task_core.specs.Cubes.{SetOfVectors}
use Rattle.task_core.specs.Tasks.{action_count}
use Rattle.task_core.specs.Vectors.{Vector}
use Rattle.task_core.specs.declared.conditions.Cond.{Cond}
use Rattle.slot_board.specs.Board.{Scene}
use Rattle.context_plan.specs.Chains.{visit_sets}
use Rattle.context_plan.specs.PatrolSizes.{PatrolFits, made_in, round_of, within_round}
use Rattle.context_plan.specs.PatrolWorkingSets.{first_visits_in, visit_at}
use Rattle.context_plan.specs.Scenes.{IsGuarded, IsReady, SameStates, Start, guarded}
use Rattle.context_plan.specs.Scenes.{states_at, sys_of, takers_place}
use Rattle.context_plan.specs.declared.patrol_rules.Part.{Part}
use Rattle.context_plan.specs.declared.patrol_rules.Part.TheVariants.{Made, Others, Whole}

-- the place of the states in which a visit is made
abbrev pub visit_place : ℕ → ℕ
visit_place i = 11 + i

-- no state takes an action yet
abbrev pub IsBlank : Start → Scene → Type 0
IsBlank start x = (k : ℕ) → 10 + 2 * start.stages ≤ k → k < length x.1
    → SameStates start (states_at x k) (λ v. false)

-- the states that a round leaves
pub record IsLeft (start : Start) (conds : List Cond) (x : Scene) (r : ℕ) : Type 0 where
  pub fits : PatrolFits start conds
  pub count : start.stages ≡ length conds
  pub some : 1 ≤ start.stages
  pub ready : IsReady start x
  pub blank : IsBlank start x
  pub left : SameStates start (states_at x 8) (round_of start conds r)

-- and those of them from which one can stay among them
pub record HasStay (start : Start) (conds : List Cond) (x : Scene) (r : ℕ) : Type 0 where
  pub fits : PatrolFits start conds
  pub count : start.stages ≡ length conds
  pub some : 1 ≤ start.stages
  pub ready : IsGuarded (within_round start conds r) x
  pub blank : IsBlank start x
  pub left : SameStates start (states_at x 8) (round_of start conds r)
  pub stay : SameStates start (states_at x 9)
      (λ v. round_of start conds r v && some_must_lead (sys_of start) (round_of start conds r) v)

-- and those from which each of the first n visits can be made among them, and where they are made
pub record HasVisits (start : Start) (conds : List Cond) (x : Scene) (r n : ℕ) : Type 0 where
  pub stay : HasStay start conds x r
  pub kept : SameStates start (states_at x 10)
      (first_visits_in (sys_of start) (visit_sets conds) r n)
  pub mets : (i : ℕ) → i < n
      → SameStates start (states_at x (visit_place i)) (made_in start conds r i)

-- and where the next one is made
pub record HasMet (start : Start) (conds : List Cond) (x : Scene) (r n : ℕ) : Type 0 where
  pub visits : HasVisits start conds x r n
  pub met : SameStates start (states_at x (visit_place n)) (made_in start conds r n)

-- where a visit is made in the states of the plan
abbrev pub made_at_last : Start → List Cond → ℕ → SetOfVectors
made_at_last start conds i = visited (sys_of start) (patrol_set (sys_of start) (visit_sets conds))
    (visit_at (visit_sets conds) i)

-- the states of the plan to which an action is given in the context of a visit
abbrev pub visit_takers : Start → List Cond → ℕ → ℕ → SetOfVectors
visit_takers start conds i a v = patrol_set (sys_of start) (visit_sets conds) v
    && is_action a (patrol_action (sys_of start) (visit_sets conds) (suc i) v)

-- the states of the plan, where each visit is made, and of the first n contexts the states that take
-- each action
pub record HasPatrol (start : Start) (conds : List Cond) (x : Scene) (n : ℕ) : Type 0 where
  pub fits : PatrolFits start conds
  pub count : start.stages ≡ length conds
  pub some : 1 ≤ start.stages
  pub ready : IsGuarded (guarded start (patrol_set (sys_of start) (visit_sets conds))) x
  pub left : SameStates start (states_at x 8) (patrol_set (sys_of start) (visit_sets conds))
  pub mets : (i : ℕ) → i < start.stages
      → SameStates start (states_at x (visit_place i)) (made_at_last start conds i)
  pub taken : (i a : ℕ) → i < n → i < start.stages → a < action_count start.task
      → SameStates start
      (states_at x (takers_place (action_count start.task) start.stages i + a))
      (visit_takers start conds i a)
  pub untaken : (i a : ℕ) → n ≤ i → i < start.stages → a < action_count start.task
      → SameStates start
      (states_at x (takers_place (action_count start.task) start.stages i + a)) (λ v. false)

-- all of that, and the initial states are states of the plan
pub record HasPatrolTable (start : Start) (conds : List Cond) (x : Scene) : Type 0 where
  pub patrol : HasPatrol start conds x start.stages
  pub covered : covers_patrol (sys_of start) (visit_sets conds) ≡ true

-- which of the states that take an action: all, those in which the visit is made, or the others
abbrev pub is_in : Part → Bool → Bool
is_in Whole made = true
is_in Made made = made
is_in Others made = not made

-- they are those that go on in a context
abbrev pub GoesOn : List SetOfVectors → Part → ℕ → ℕ → Type 0
GoesOn visits part c j =
    (v : Vector) → (patrol_next visits c v == j) ≡ is_in part (visit_in visits c v)

-- such a part of the states that take an action stands at 2
pub record PutsPart (part : Part) (start : Start) (conds : List Cond) (x : Scene) (i a : ℕ)
    : Type 0 where
  pub table : HasPatrolTable start conds x
  pub states : SameStates start (states_at x 2) (λ v. visit_takers start conds i a v
      && is_in part (visit_in (visit_sets conds) (suc i) v))

-- rules were added
pub record ListsPatrol (start : Start) (conds : List Cond) (x : Scene)
    (before after more : List ContextRule) : Type 0 where
  pub table : HasPatrolTable start conds x
  pub listed : after ≡ before ++ more
