-- Private: how one part of a goal fails, and which part inside fails after it.
use Rattle.std.specs.Prelude.{◌<◌, ◌+◌, ℕ, Bool, true, false, List, [], ◌∷◌}
use Rattle.ctl_syntax.specs.Goals.{CtlTree, CtlTrees, plain, negation, all, any, implication, ax}
use Rattle.ctl_syntax.specs.Goals.{ex, af, ef, ag, eg, au, eu, aw, ew, no_goal, goal_then}
use Rattle.ctl_syntax.specs.Values.{ctl_value}
use Rattle.task_core.specs.Tasks.{fluent_count}
use Rattle.task_core.specs.declared.conditions.Cond.{Cond}
use Rattle.goal_witness.specs.Failures.{FailsAlong, How, PlainLink}
use Rattle.goal_witness.specs.Links.{how_value}
use Rattle.goal_witness.specs.Scenes.{IsFalseAtNumber, place_in, plan_in, sys_in}
use Rattle.goal_witness.specs.declared.failing.Failing.{Failing}
use Rattle.goal_witness.specs.declared.failing.Failing.TheVariants.{Ends, Leads}
use Rattle.plan_witness.specs.declared.scenes.Scene.{Scene}

abbrev mutual
  -- Private: how many forms a goal is made of
  pub goal_size : {P : Type 0} → CtlTree P → ℕ
  goal_size (plain p) = 1
  goal_size (negation g) = goal_size g + 1
  goal_size (all gs) = goals_size gs + 1
  goal_size (any gs) = goals_size gs + 1
  goal_size (implication g h) = goal_size g + goal_size h + 1
  goal_size (ax g) = goal_size g + 1
  goal_size (ex g) = goal_size g + 1
  goal_size (af g) = goal_size g + 1
  goal_size (ef g) = goal_size g + 1
  goal_size (ag g) = goal_size g + 1
  goal_size (eg g) = goal_size g + 1
  goal_size (au g h) = goal_size g + goal_size h + 1
  goal_size (eu g h) = goal_size g + goal_size h + 1
  goal_size (aw g h) = goal_size g + goal_size h + 1
  goal_size (ew g h) = goal_size g + goal_size h + 1

  -- Private: and those of some goals together
  pub goals_size : {P : Type 0} → CtlTrees P → ℕ
  goals_size no_goal = 0
  goals_size (goal_then g gs) = goal_size g + goals_size gs

-- Private: the parts show along which runs the goal fails from the configuration of a number on
abbrev pub FailsFrom : Scene → CtlTree Cond → ℕ → List PlainLink → Type 0
FailsFrom scene goal i = FailsAlong (sys_in scene) (plan_in scene) goal (place_in scene i)

-- Private: the part is false at the configuration of number j, and what shows that shows, after the
-- goal's own part, that the goal is false at that of number i
pub record LeadsInside (scene : Scene) (goal : CtlTree Cond) (i : ℕ) (how : How) (part : CtlTree Cond)
    (j : ℕ) : Type 0 where
  pub inside : IsFalseAtNumber scene part j
  pub smaller : goal_size part < goal_size goal
  pub joins : (links : List PlainLink) → FailsFrom scene part j links
      → FailsFrom scene goal i ((record { part = goal; how = how }) ∷ links)

-- Private: how a goal fails at the configuration of number i
abbrev pub IsFailing : Scene → CtlTree Cond → ℕ → Failing → Type 0
IsFailing scene goal i (Ends how) =
    FailsFrom scene goal i
    ((record { part = goal; how = how_value (fluent_count scene.task.now) how }) ∷ [])
IsFailing scene goal i (Leads how part j) =
    LeadsInside scene goal i (how_value (fluent_count scene.task.now) how) (ctl_value part.now) j

-- Private: g holds until h does, and h comes about; or, where it is weak, g may hold for ever
abbrev pub until_of : Bool → CtlTree Cond → CtlTree Cond → CtlTree Cond
until_of true g h = aw g h
until_of false g h = au g h
