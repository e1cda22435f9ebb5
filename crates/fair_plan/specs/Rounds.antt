-- Private: what the rounds of a search leave on its board. At place 1 stand the states that were near
-- before a pass, at 2 those from which a target can be come to, at 3 those from which one can stay
-- among those of the round, at 4 the states of the round, at 5 those that are left, and at 6 the
-- guard; and from 8 on, for each action, the states in which it may be taken.
use Rattle.std.specs.Prelude.{◌≡◌, ℕ, ◌+◌, ◌<◌, ◌≤◌, Bool, true, false, ◌&&◌, ◌||◌, length, get_or, List, All, map}
use Rattle.std.specs.List.{Contains}
use Rattle.ctl_syntax.specs.Conditions.{states_of}
use Rattle.dd_nodes.specs.NodeList.{Values}
use Rattle.dd_nodes.specs.Subfunctions.{Function}
use Rattle.dd_ops.specs.Operations.{and_of, or_of}
use Rattle.fair_theory.specs.FairSets.{Asked, CanComeTo, HasAllComing, IsFairBound, anywhere}
use Rattle.preimage.specs.Preimages.{strong_preimage, weak_preimage}
use Rattle.preimage.specs.WorkingSets.{some_below}
use Rattle.plan_theory.specs.Layers.{may_lead, must_lead}
use Rattle.plan_theory.specs.Safe.{some_must_lead}
use Rattle.task_core.specs.Cubes.{SetOfVectors}
use Rattle.task_core.specs.Systems.{IsVector}
use Rattle.plan_theory.specs.UntilChains.{SetStage}
use Rattle.plan_rules.specs.Plans.{IsContextRuleOf}
use Rattle.plan_rules.specs.Rules.{context_rule_of}
use Rattle.plan_rules.specs.declared.rules.AutoRule.{AutoRule}
use Rattle.task_core.specs.Tasks.{fluent_count}
use Rattle.task_core.specs.Vectors.{Vector, value_of}
use Rattle.task_core.specs.declared.conditions.Cond.{Cond}
use Rattle.slot_board.specs.Board.{Scene}
use Rattle.fair_plan.specs.Boards.{IsThere, Origin, actions_of, set_in, states_in, sys_of}
use Rattle.fair_plan.specs.Places.{pairs_end}

-- places from one on, but for one, have their sets
abbrev pub Keeps : Origin → Scene → Scene → ℕ → ℕ → Type 0
Keeps origin x y from changed =
    (k : ℕ) → k < origin.start.places → from ≤ k → (k ≡ changed → ⊥) → set_in y k ≡ set_in x k

-- where action a can be executed, and every outcome lies in the states of the round
abbrev pub led_at : Origin → Scene → ℕ → Function
led_at origin x a = strong_preimage origin.start.task a (set_in x 4)

-- the states in which one action may be taken stand at its place, and those from which it stays among
-- those of the round are joined to what stood at 3
pub record PairsOne (origin : Origin) (x y : Scene) (a : ℕ) : Type 0 where
  pub others : (k : ℕ) → k < origin.start.places → (k ≡ 3 → ⊥) → (k ≡ 8 + a → ⊥)
      → set_in y k ≡ set_in x k
  pub pairs : set_in y (8 + a) ≡ and_of (led_at origin x a) (set_in x 6)
  pub stay : set_in y 3 ≡ or_of (set_in x 3) (led_at origin x a)

-- for the first n actions there are the states in which they may be taken, and the states from which
-- one of them stays among those of the round are joined to what stood at 3
pub record Pairs (origin : Origin) (x y : Scene) (n : ℕ) : Type 0 where
  pub low : (k : ℕ) → k < 8 → (k ≡ 3 → ⊥) → set_in y k ≡ set_in x k
  pub high : (k : ℕ) → k < origin.start.places → pairs_end (actions_of origin) ≤ k
      → set_in y k ≡ set_in x k
  pub pairs : (a : ℕ) → a < n → set_in y (8 + a) ≡ and_of (led_at origin x a) (set_in x 6)
  pub stay : (values : Values) → set_in y 3 values
      ≡ (set_in x 3 values || some_below (led_at origin x) n values)

-- a round began: its states are those that were left, and from those at 3 one can stay among them
pub record BeginsRound (origin : Origin) (x y : Scene) : Type 0 where
  pub kept : (k : ℕ) → 5 ≤ k → k < 8 → set_in y k ≡ set_in x k
  pub high : (k : ℕ) → k < origin.start.places → pairs_end (actions_of origin) ≤ k
      → set_in y k ≡ set_in x k
  pub last : set_in y 4 ≡ set_in x 5
  pub pairs : (a : ℕ) → a < actions_of origin → set_in y (8 + a)
      ≡ and_of (strong_preimage origin.start.task a (set_in x 5)) (set_in x 6)
  pub stay : (values : Values) → set_in y 3 values
      ≡ some_below (λ a. strong_preimage origin.start.task a (set_in x 5)) (actions_of origin) values

-- what is kept of a set: its part in another one, where that is asked for
abbrev pub kept_of : Bool → Function → Function → Function
kept_of true f g = and_of f g
kept_of false f g = f

-- of what is left that part is left from which one can stay, where that is asked for
pub record KeepsStaying (origin : Origin) (x y : Scene) (stays : Bool) : Type 0 where
  pub keeps : Keeps origin x y 0 5
  pub left : set_in y 5 ≡ kept_of stays (set_in x 5) (set_in x 3)

-- an action may be taken in the states of a guard from which every outcome lies in a set
abbrev pub HasPairs : Origin → Scene → SetOfVectors → SetOfVectors → Type 0
HasPairs origin x left guard =
    (a : ℕ) → a < actions_of origin → (v : Vector) → IsVector (sys_of origin) v
    → states_in x (8 + a) v ≡ (must_lead (sys_of origin) left v a && guard v)

-- from each state at place 2 a target can be come to
abbrev pub IsNear : Origin → Scene → SetOfVectors → SetOfVectors → SetOfVectors → Type 0
IsNear origin x left guard target =
    (v : Vector) → IsVector (sys_of origin) v → states_in x 2 v ≡ true
    → CanComeTo (sys_of origin) left guard target v

-- a set has all that another has
abbrev pub IsPart : Function → Function → Type 0
IsPart f g = (values : Values) → f values ≡ true → g values ≡ true

-- whether an action may be taken in states that aren't near is told; what it needs for that stands at 0
pub record LooksForRest (origin : Origin) (x y : Scene) (a : ℕ) (some : Bool) : Type 0 where
  pub there : IsThere origin y
  pub keeps : (k : ℕ) → k < origin.start.places → (k ≡ 0 → ⊥) → set_in y k ≡ set_in x k
  pub none : some ≡ false → (values : Values) → set_in x (8 + a) values ≡ true
      → set_in x 2 values ≡ true

-- the states are added from which an action that may be taken leads to one that is near
pub record AddsNear (origin : Origin) (x y : Scene) (a : ℕ) : Type 0 where
  pub keeps : (k : ℕ) → k < origin.start.places → (k ≡ 0 → ⊥) → (k ≡ 2 → ⊥)
      → set_in y k ≡ set_in x k
  pub near : set_in y 2 ≡ or_of (set_in x 2)
      (and_of (weak_preimage origin.start.task a (set_in x 2)) (set_in x (8 + a)))

-- the states that are near are added from which one of the first n actions may lead to a state that
-- was near before
pub record Passes (origin : Origin) (x y : Scene) (n : ℕ) : Type 0 where
  pub keeps : Keeps origin x y 3 0
  pub before : set_in y 1 ≡ set_in x 2
  pub more : IsPart (set_in x 2) (set_in y 2)
  pub has : (a : ℕ) → a < n → (v : Vector) → IsVector (sys_of origin) v
      → states_in x (8 + a) v ≡ true → may_lead (sys_of origin) (states_in x 2) v a ≡ true
      → states_in y 2 v ≡ true
  pub near : (left guard target : SetOfVectors) → HasPairs origin x left guard
      → IsNear origin x left guard target → IsNear origin y left guard target

-- passes over all actions were made, one after another
pub record Grows (origin : Origin) (x y : Scene) : Type 0 where
  pub keeps : Keeps origin x y 3 0
  pub more : IsPart (set_in x 2) (set_in y 2)
  pub last : IsPart (set_in y 1) (set_in y 2)
  pub has : (a : ℕ) → a < actions_of origin → (v : Vector) → IsVector (sys_of origin) v
      → states_in x (8 + a) v ≡ true → may_lead (sys_of origin) (states_in y 1) v a ≡ true
      → states_in y 2 v ≡ true
  pub near : (left guard target : SetOfVectors) → HasPairs origin x left guard
      → IsNear origin x left guard target → IsNear origin y left guard target

-- the states at 2 are those from which a target can be come to
pub record ComesNear (origin : Origin) (left guard target : SetOfVectors) (near : SetOfVectors)
    : Type 0 where
  pub all : HasAllComing (sys_of origin) left guard target near
  pub each : (v : Vector) → IsVector (sys_of origin) v → near v ≡ true
      → CanComeTo (sys_of origin) left guard target v

pub record HasNear (origin : Origin) (x y : Scene) : Type 0 where
  pub keeps : Keeps origin x y 3 0
  pub near : (left guard : SetOfVectors) → HasPairs origin x left guard
      → ComesNear origin left guard (states_in x 2) (states_in y 2)

-- of the states that are left, those are left from which a target at a place can be come to
pub record ComesTo (origin : Origin) (x y : Scene) (place : ℕ) : Type 0 where
  pub keeps : Keeps origin x y 3 5
  pub set : Function
  pub left : set_in y 5 ≡ and_of (set_in x 5) set
  pub near : (left guard : SetOfVectors) → HasPairs origin x left guard
      → ComesNear origin left guard (states_in x place) (λ v. set (value_of v))

-- the guard of what is asked for stands at 6, and its targets from a place on
pub record HasAims (origin : Origin) (asked : Asked) (first : ℕ) (x : Scene) : Type 0 where
  pub guard : (v : Vector) → IsVector (sys_of origin) v → states_in x 6 v ≡ asked.guard v
  pub targets : (i : ℕ) → i < length asked.targets → (v : Vector) → IsVector (sys_of origin) v
      → states_in x (first + i) v ≡ get_or asked.targets i anywhere v

-- the targets of a round are to be looked at
pub record HasTargets (origin : Origin) (asked : Asked) (first count : ℕ) (x : Scene) : Type 0 where
  pub pairs : HasPairs origin x (states_in x 4) asked.guard
  pub aims : HasAims origin asked first x
  pub long : length asked.targets ≡ count

-- the first i targets were looked at
pub record ComesToAll (origin : Origin) (asked : Asked) (first : ℕ) (x y : Scene) (i : ℕ)
    : Type 0 where
  pub keeps : Keeps origin x y 3 5
  pub part : IsPart (set_in y 5) (set_in x 5)
  pub bound : IsFairBound (sys_of origin) asked (states_in x 4)
      → IsFairBound (sys_of origin) asked (states_in x 5)
      → IsFairBound (sys_of origin) asked (states_in y 5)
  pub comes : (j : ℕ) → j < i → j < length asked.targets → (v : Vector)
      → IsVector (sys_of origin) v → states_in y 5 v ≡ true
      → CanComeTo (sys_of origin) (states_in x 4) asked.guard (get_or asked.targets j anywhere) v

-- a search for the largest set begins with the states inside
pub record Begins (origin : Origin) (asked : Asked) (stays : Bool) (first count : ℕ) (x : Scene)
    : Type 0 where
  pub aims : HasAims origin asked first x
  pub inside : (v : Vector) → IsVector (sys_of origin) v → states_in x 5 v ≡ asked.inside v
  pub staying : asked.stays ≡ stays
  pub long : length asked.targets ≡ count

-- it goes on with a bound inside
pub record GoesOn (origin : Origin) (asked : Asked) (first : ℕ) (x : Scene) : Type 0 where
  pub aims : HasAims origin asked first x
  pub inside : (v : Vector) → IsVector (sys_of origin) v → states_in x 5 v ≡ true
      → asked.inside v ≡ true
  pub bound : IsFairBound (sys_of origin) asked (states_in x 5)

-- a round was made: what is left has what is asked for, by actions that stay in the states of the
-- round
pub record HasRound (origin : Origin) (asked : Asked) (first : ℕ) (x : Scene) : Type 0 where
  pub on : GoesOn origin asked first x
  pub part : IsPart (set_in x 5) (set_in x 4)
  pub stays : asked.stays ≡ true → (v : Vector) → IsVector (sys_of origin) v
      → states_in x 5 v ≡ true → some_must_lead (sys_of origin) (states_in x 4) v ≡ true
  pub comes : (target : SetOfVectors) → Contains asked.targets target → (v : Vector)
      → IsVector (sys_of origin) v → states_in x 5 v ≡ true
      → CanComeTo (sys_of origin) (states_in x 4) asked.guard target v

-- the states of the first n visits stand from a place on
abbrev pub HasVisits : Origin → List Cond → ℕ → Scene → ℕ → Type 0
HasVisits origin visits first x n =
    (i : ℕ) → i < n → (v : Vector) → IsVector (sys_of origin) v
    → states_in x (first + i) v ≡ get_or (map states_of visits) i anywhere v

-- the guard of a stage stands at its place, all states are left, and where the stage is met stands at a
-- place
pub record AimsAt (origin : Origin) (stage : SetStage) (x y : Scene) (later met : ℕ) : Type 0 where
  pub guard : (v : Vector) → IsVector (sys_of origin) v → states_in y 6 v ≡ stage.guard v
  pub left : (v : Vector) → IsVector (sys_of origin) v → states_in y 5 v ≡ true
  pub aim : (v : Vector) → IsVector (sys_of origin) v
      → states_in y met v ≡ (stage.target v && states_in x later v)

-- more states are near
pub record Climbs (x y : Scene) : Type 0 where
  pub before : set_in y 1 ≡ set_in x 1
  pub more : IsPart (set_in x 2) (set_in y 2)

pub record ClimbsOnce (x y : Scene) : Type 0 where
  pub before : set_in y 1 ≡ set_in x 2
  pub more : IsPart (set_in x 2) (set_in y 2)

-- rules are those of a plan for the task with so many contexts
abbrev pub AreRules : Origin → ℕ → List AutoRule → Type 0
AreRules origin contexts rules =
    All (IsContextRuleOf (fluent_count origin.start.task) (actions_of origin) contexts)
    (map context_rule_of rules)

-- rules were added that are those of a plan with so many contexts, where the contexts fit
abbrev pub Lists : Origin → (ℕ → Type 0) → List AutoRule → List AutoRule → Type 0
Lists origin Fits before after =
    (contexts : ℕ) → Fits contexts → AreRules origin contexts before
    → AreRules origin contexts after
