-- The sets of which a verdict takes the last: those that grow from the states in which the rules are
-- at their end, backward along the steps of the table, and those that shrink to the states from
-- which the steps never lead out.
use Rattle.std.specs.Prelude.{ℕ, ◌<◌, List}
use Rattle.dd_nodes.specs.Subfunctions.{DependsOnly, Function}
use Rattle.dd_ops.specs.Operations.{and_of, minus_of, or_of}
use Rattle.dd_sets.specs.LiveSets.{everything}
use Rattle.task_core.specs.Tasks.{action_count, fluent_count}
use Rattle.task_core.specs.declared.classes.Class.{Class}
use Rattle.task_core.specs.declared.classes.Class.TheVariants.{Weak, Strong, Cyclic}
use Rattle.task_core.specs.declared.tasks.Task.{Task}
use Rattle.plan_rules.specs.Rules.{PlanRule}
use Rattle.slot_board.specs.Board.{led}
use Rattle.slot_board.specs.declared.board.Outcomes.{Outcomes}
use Rattle.judge_sets.specs.TableSets.{differ_set, end_set, followed_by, step_set}

-- which outcomes of a step are to lead back to where the rules are at their end: every one for
-- strong plans, at least one for the others
abbrev pub outcomes_of : Class → Outcomes
outcomes_of Weak = Outcomes.Some
outcomes_of Strong = Outcomes.Every
outcomes_of Cyclic = Outcomes.Some

-- what of an action's steps lies outside a set, and what of that leads into the set
abbrev pub rest_of : Task → List PlanRule → Function → ℕ → Function
rest_of task rules set a = minus_of (step_set task rules a) set

abbrev pub hits_of : Outcomes → Task → List PlanRule → Function → ℕ → Function
hits_of outcomes task rules set a =
    and_of (led outcomes task a set) (rest_of task rules set a)

-- the sets that grow from where the rules are at their end: with what the steps of one action lead
-- into the set so far, the actions in any order
pub data IsGrown (outcomes : Outcomes) (task : Task) (rules : List PlanRule) : Function → Type 0 where
  begun : IsGrown outcomes task rules (end_set task rules)
  grown : (set : Function) (a : ℕ) → a < action_count task → DependsOnly 0 (fluent_count task) set
      → IsGrown outcomes task rules set
      → IsGrown outcomes task rules (or_of set (hits_of outcomes task rules set a))

-- the steps of an action that begin in a set, and those of them that may lead out of it
abbrev pub here_of : Task → List PlanRule → Function → ℕ → Function
here_of task rules set a = and_of (step_set task rules a) set

abbrev pub lost_of : Task → List PlanRule → Function → ℕ → Function
lost_of task rules set a = minus_of (here_of task rules set a) (led Outcomes.Every task a set)

-- the sets that shrink from a set: without what the steps of one action may lead out of the set so
-- far, the actions in any order
pub data IsShrunk (task : Task) (rules : List PlanRule) (from : Function) : Function → Type 0 where
  whole : IsShrunk task rules from from
  shrunk : (set : Function) (a : ℕ) → a < action_count task → DependsOnly 0 (fluent_count task) set
      → IsShrunk task rules from set
      → IsShrunk task rules from (minus_of set (lost_of task rules set a))

-- the sets that a verdict shrinks: where the rule that counts can be followed; where all rules that
-- match have one action; and what has grown from where the rules are at their end
pub data IsBegin (task : Task) (rules : List PlanRule) : Function → Type 0 where
  followed : IsBegin task rules (followed_by task rules (action_count task))
  agreeing : IsBegin task rules (minus_of everything (differ_set rules))
  good : (set : Function) → IsGrown Outcomes.Some task rules set → IsBegin task rules set
