-- Private: what the slots of a verdict hold. At place 0 stands where the rules that were read match,
-- at 1 where they differ, at 4 what grows from where the rules are at their end, at 5 where no rule
-- counts that can't be followed, and at 6 what shrinks; 2 and 3 are for what is made on the way. From
-- 7 on there is, for each action, where it is taken.
use Rattle.std.specs.Prelude.{◌≡◌, ◌≢◌, ◌↔◌, ℕ, ◌+◌, ◌<◌, ◌≤◌, Bool, true, false, List, [], ◌∷◌, ◌++◌, All, IsSome, IsTrue, length}
use Rattle.std.specs.List.{list_all}
use Rattle.dd_nodes.specs.NodeList.{Values}
use Rattle.dd_nodes.specs.Subfunctions.{Function}
use Rattle.dd_ops.specs.Operations.{minus_of}
use Rattle.dd_sets.specs.LiveSets.{IsSets, nothing}
use Rattle.dd_sets.specs.declared.slots.SetId.{SetId}
use Rattle.encode_task.specs.Slots.{Encoded}
use Rattle.encode_task.specs.TaskSets.{cube_set}
use Rattle.slot_board.specs.Board.{At, Start, set_at}
use Rattle.slot_board.specs.declared.board.Outcomes.{Outcomes}
use Rattle.task_core.specs.Cubes.{Cube}
use Rattle.task_core.specs.Solutions.{IsReached}
use Rattle.task_core.specs.Systems.{System}
use Rattle.task_core.specs.Tasks.{action_count, fluent_count, initial_states, system_of}
use Rattle.task_core.specs.Vectors.{Vector, value_of}
use Rattle.task_core.specs.declared.classes.Class.{Class}
use Rattle.plan_rules.specs.Plans.{IsRuleOf}
use Rattle.plan_rules.specs.Rules.{PlanRule}
use Rattle.judge_sets.specs.Fixpoints.{IsBegin, IsGrown, IsShrunk}
use Rattle.judge_sets.specs.Fixpoints.{here_of, hits_of, lost_of, rest_of}
use Rattle.first_match.specs.FirstMatch.{EachRuleCounts, RulesAgree, SolvesAsRun, run_table}
use Rattle.judge_sets.specs.declared.verdict.TableVerdict.{TableVerdict}
use Rattle.judge_sets.specs.TableSets.{differ_set, end_set, followed_by, matched_set, step_set, taken_set}
use Rattle.judge_sets.specs.WorkingSets.{BoundsTableSets}

-- the places
abbrev pub place_count : ℕ → ℕ
place_count actions = 7 + actions

-- where a verdict began, and the rules that it is about
pub record Scene : Type 0 where
  pub start : Start
  pub rules : List PlanRule
  pub wide : BoundsTableSets start.width start.task rules
  pub places : start.places ≡ 7 + action_count start.task
  pub in_task : All (IsRuleOf (fluent_count start.task) (action_count start.task)) rules
  pub goal : IsSome start.task.goal

-- the slots are there
pub record IsThere (scene : Scene) (now : Encoded) (slots : List SetId) : Type 0 where
  pub at : At scene.start now slots
  pub sound : IsSets now.sets

-- the first j rules are read
pub record HasRead (scene : Scene) (now : Encoded) (slots : List SetId) (before : List PlanRule)
    : Type 0 where
  pub there : IsThere scene now slots
  pub matched : set_at now.sets slots 0 ≡ matched_set before
  pub differ : set_at now.sets slots 1 ≡ differ_set before
  pub taken : (a : ℕ) → a < action_count scene.start.task
      → set_at now.sets slots (7 + a) ≡ taken_set before a

-- and a cube is made
pub record HasCube (scene : Scene) (now : Encoded) (slots : List SetId) (before : List PlanRule)
    (literals : Cube) : Type 0 where
  pub read : HasRead scene now slots before
  pub cube : set_at now.sets slots 2 ≡ cube_set literals

-- the steps of the first n actions are made of what these take
pub record HasPart (scene : Scene) (now : Encoded) (slots : List SetId) (n : ℕ) : Type 0 where
  pub there : IsThere scene now slots
  pub differ : set_at now.sets slots 1 ≡ differ_set scene.rules
  pub good : set_at now.sets slots 4 ≡ end_set scene.start.task scene.rules
  pub followed : set_at now.sets slots 5 ≡ followed_by scene.start.task scene.rules n
  pub steps : (a : ℕ) → a < n → a < action_count scene.start.task
      → set_at now.sets slots (7 + a) ≡ step_set scene.start.task scene.rules a
  pub taken : (a : ℕ) → n ≤ a → a < action_count scene.start.task
      → set_at now.sets slots (7 + a) ≡ taken_set scene.rules a

-- those of all actions are
pub record HasSteps (scene : Scene) (now : Encoded) (slots : List SetId) : Type 0 where
  pub there : IsThere scene now slots
  pub differ : set_at now.sets slots 1 ≡ differ_set scene.rules
  pub followed : set_at now.sets slots 5
      ≡ followed_by scene.start.task scene.rules (action_count scene.start.task)
  pub steps : (a : ℕ) → a < action_count scene.start.task
      → set_at now.sets slots (7 + a) ≡ step_set scene.start.task scene.rules a

-- what grows has come to this set
pub record HasGrown (scene : Scene) (outcomes : Outcomes) (now : Encoded) (slots : List SetId)
    (set : Function) : Type 0 where
  pub by_steps : HasSteps scene now slots
  pub good : set_at now.sets slots 4 ≡ set
  pub grown : IsGrown outcomes scene.start.task scene.rules set

-- what grows has come to some set
pub record GrowsStill (scene : Scene) (outcomes : Outcomes) (now : Encoded) (slots : List SetId)
    : Type 0 where
  pub set : Function
  pub has : HasGrown scene outcomes now slots set

-- what shrinks has come to this set
pub record HasShrunk (scene : Scene) (now : Encoded) (slots : List SetId) (from set : Function)
    : Type 0 where
  pub by_steps : HasSteps scene now slots
  pub stays : set_at now.sets slots 6 ≡ set
  pub begin : IsBegin scene.start.task scene.rules from
  pub shrunk : IsShrunk scene.start.task scene.rules from set

-- what shrinks has come to some set
pub record ShrinksStill (scene : Scene) (now : Encoded) (slots : List SetId) (from : Function)
    : Type 0 where
  pub set : Function
  pub has : HasShrunk scene now slots from set

-- a set has all that another has over n fluents, and a vector more
pub record HasMore (n : ℕ) (before after : Function) : Type 0 where
  pub part : (values : Values) → before values ≡ true → after values ≡ true
  pub vector : Vector
  pub long : length vector ≡ n
  pub has : after (value_of vector) ≡ true
  pub lacks : before (value_of vector) ≡ false

-- by no action among the first n has a set anything to gain, and to lose
abbrev pub GainsNone : Outcomes → Scene → Function → ℕ → Type 0
GainsNone outcomes scene set n =
    (a : ℕ) → a < n → hits_of outcomes scene.start.task scene.rules set a ≡ nothing

abbrev pub LosesNone : Scene → Function → ℕ → Type 0
LosesNone scene set n =
    (a : ℕ) → a < n → lost_of scene.start.task scene.rules set a ≡ nothing

-- after a pass over the first n actions from a set: a set with more, where one was gained; else the
-- same set
pub record HasGained (scene : Scene) (outcomes : Outcomes) (now : Encoded) (slots : List SetId)
    (before : Function) (n : ℕ) (gained : Bool) : Type 0 where
  pub set : Function
  pub has : HasGrown scene outcomes now slots set
  pub more : gained ≡ true → HasMore (fluent_count scene.start.task) before set
  pub same : gained ≡ false → (set ≡ before) × GainsNone outcomes scene set n

pub record HasLost (scene : Scene) (now : Encoded) (slots : List SetId) (from before : Function)
    (n : ℕ) (lost : Bool) : Type 0 where
  pub set : Function
  pub has : HasShrunk scene now slots from set
  pub fewer : lost ≡ true → HasMore (fluent_count scene.start.task) set before
  pub same : lost ≡ false → (set ≡ before) × LosesNone scene set n

-- a rule stands behind others in the rules of a verdict
abbrev pub IsNextRule : Scene → List PlanRule → PlanRule → Type 0
IsNextRule scene before rule =
    (after : List PlanRule) × (scene.rules ≡ before ++ rule ∷ after)

-- where the next rule differs from those before it is joined to where these do
pub record HasTold (scene : Scene) (now : Encoded) (slots : List SetId) (before : List PlanRule)
    (rule : PlanRule) : Type 0 where
  pub there : IsThere scene now slots
  pub matched : set_at now.sets slots 0 ≡ matched_set before
  pub differ : set_at now.sets slots 1 ≡ differ_set (before ++ rule ∷ [])
  pub cube : set_at now.sets slots 2 ≡ cube_set rule.cube
  pub taken : (a : ℕ) → a < action_count scene.start.task
      → set_at now.sets slots (7 + a) ≡ taken_set before a

-- the next rule is read, and where it counts stands at 3
pub record HasJoined (scene : Scene) (now : Encoded) (slots : List SetId) (before : List PlanRule)
    (rule : PlanRule) : Type 0 where
  pub read : HasRead scene now slots (before ++ rule ∷ [])
  pub own : set_at now.sets slots 3 ≡ minus_of (cube_set rule.cube) (matched_set before)

-- the steps of an action that begin outside what has grown stand at 2, and those of them that lead
-- into it at 3; whether there are any is told
pub record HasRest (scene : Scene) (outcomes : Outcomes) (now : Encoded) (slots : List SetId)
    (set : Function) (a : ℕ) (some : Bool) : Type 0 where
  pub has : HasGrown scene outcomes now slots set
  pub rest : set_at now.sets slots 2 ≡ rest_of scene.start.task scene.rules set a
  pub none : some ≡ false → rest_of scene.start.task scene.rules set a ≡ nothing

pub record HasHits (scene : Scene) (outcomes : Outcomes) (now : Encoded) (slots : List SetId)
    (set : Function) (a : ℕ) (some : Bool) : Type 0 where
  pub has : HasGrown scene outcomes now slots set
  pub hits : set_at now.sets slots 3 ≡ hits_of outcomes scene.start.task scene.rules set a
  pub none : some ≡ false → hits_of outcomes scene.start.task scene.rules set a ≡ nothing
  pub any : some ≡ true → hits_of outcomes scene.start.task scene.rules set a ≢ nothing

-- the steps of an action that begin in what is left stand at 2, and those of them that may lead out
-- of it at 3
pub record HasHere (scene : Scene) (now : Encoded) (slots : List SetId) (from set : Function) (a : ℕ)
    (some : Bool) : Type 0 where
  pub has : HasShrunk scene now slots from set
  pub here : set_at now.sets slots 2 ≡ here_of scene.start.task scene.rules set a
  pub none : some ≡ false → here_of scene.start.task scene.rules set a ≡ nothing

pub record HasOut (scene : Scene) (now : Encoded) (slots : List SetId) (from set : Function) (a : ℕ)
    (some : Bool) : Type 0 where
  pub has : HasShrunk scene now slots from set
  pub out : set_at now.sets slots 3 ≡ lost_of scene.start.task scene.rules set a
  pub none : some ≡ false → lost_of scene.start.task scene.rules set a ≡ nothing
  pub any : some ≡ true → lost_of scene.start.task scene.rules set a ≢ nothing

-- after one action: a set with more, where one was gained, or with fewer, where one was lost; else
-- the same set, and by the action there is nothing to gain, or to lose
pub record IsGainBy (scene : Scene) (outcomes : Outcomes) (now : Encoded) (slots : List SetId)
    (before : Function) (a : ℕ) (gained : Bool) : Type 0 where
  pub set : Function
  pub has : HasGrown scene outcomes now slots set
  pub more : gained ≡ true → HasMore (fluent_count scene.start.task) before set
  pub same : gained ≡ false
      → (set ≡ before) × (hits_of outcomes scene.start.task scene.rules set a ≡ nothing)

pub record IsLossBy (scene : Scene) (now : Encoded) (slots : List SetId) (from before : Function)
    (a : ℕ) (lost : Bool) : Type 0 where
  pub set : Function
  pub has : HasShrunk scene now slots from set
  pub fewer : lost ≡ true → HasMore (fluent_count scene.start.task) set before
  pub same : lost ≡ false
      → (set ≡ before) × (lost_of scene.start.task scene.rules set a ≡ nothing)

-- what grows has nothing to gain any more, and what shrinks nothing to lose
pub record HasAllGrown (scene : Scene) (outcomes : Outcomes) (now : Encoded) (slots : List SetId)
    : Type 0 where
  pub set : Function
  pub has : HasGrown scene outcomes now slots set
  pub none : GainsNone outcomes scene set (action_count scene.start.task)

pub record HasAllShrunk (scene : Scene) (now : Encoded) (slots : List SetId) (from : Function)
    : Type 0 where
  pub set : Function
  pub has : HasShrunk scene now slots from set
  pub none : LosesNone scene set (action_count scene.start.task)

-- whether a set has each initial state
abbrev pub has_initial : Scene → Function → Bool
has_initial scene set =
    list_all (λ s. set (value_of s)) (initial_states scene.start.task)

-- a set has each state that the table may reach
abbrev pub HoldsAsReached : Scene → Function → Type 0
HoldsAsReached scene set =
    (s : Vector) → IsReached (system_of scene.start.task)
    (run_table (system_of scene.start.task) scene.rules) s → set (value_of s) ≡ true

-- all that a verdict says
pub record IsJudged (class : Class) (sys : System) (rules : List PlanRule) (verdict : TableVerdict)
    : Type 0 where
  pub solves : IsTrue verdict.solves ↔ SolvesAsRun class sys rules
  pub agrees : IsTrue verdict.agrees ↔ RulesAgree sys rules
  pub each_counts : IsTrue verdict.each_counts ↔ EachRuleCounts sys rules
