-- Why a plan with contexts misses a goal: an initial state in which the goal is false, and the runs along
-- which it fails.
use Rattle.std.specs.Prelude.{◌≡◌, ◌++◌, ℕ, List, length}
use Rattle.ctl_syntax.specs.Goals.{CtlTree}
use Rattle.plan_check.specs.ContextVerdicts.{ExecutesAlways, IsTrueAt, MayMissFormula, NeverStuck}
use Rattle.plan_rules.specs.Denoted.{denoted_contexts}
use Rattle.plan_rules.specs.Rules.{ContextRule, PlainPlan, automaton}
use Rattle.task_core.specs.ContextPlans.{IsInitial}
use Rattle.task_core.specs.Systems.{System}
use Rattle.task_core.specs.declared.conditions.Cond.{Cond}
use Rattle.goal_witness.specs.Failures.{FailsAlong, PlainLink}
use Rattle.plan_witness.specs.Runs.{IsRunOf, PlainRun}
use Rattle.plan_witness.specs.Values.{run_value}
use Rattle.goal_witness.specs.Links.{back_steps, links_value, stem_steps}
use Rattle.goal_witness.specs.declared.witnesses.Witness.{Witness}

-- a run, after how many steps it is where it comes back to, and the parts of the goal that fail on it; a
-- run that doesn't come back has no more steps
pub record PlainWitness : Type 0 where
  pub run : PlainRun
  pub stem : ℕ
  pub links : List PlainLink

-- what a Witness says, over n fluents
abbrev pub witness_value : ℕ → Witness → PlainWitness
witness_value n witness = record {
  run = run_value n witness.run;
  stem = witness.stem;
  links = links_value n witness.links.items;
}

-- the run begins in an initial state, and the parts show along it that the goal is false there
pub record IsWitness (sys : System) (plan : PlainPlan) (goal : CtlTree Cond)
    (witness : PlainWitness) : Type 0 where
  pub initial : IsInitial sys witness.run.start
  pub run_of : IsRunOf sys plan witness.run.start witness.run.steps
  pub fails : FailsAlong sys plan goal witness.run.start witness.links
  pub steps : witness.run.steps ≡ stem_steps witness.links ++ back_steps witness.links
  pub stem : witness.stem ≡ length (stem_steps witness.links)

-- the plan has contexts, it can always be executed and goes on, and some initial state hasn't the goal
pub record MissesGoal (sys : System) (plan : PlainPlan) (goal : CtlTree Cond) : Type 0 where
  pub contexts : ℕ
  pub rules : List ContextRule
  pub is : plan ≡ automaton contexts rules
  pub executes : ExecutesAlways sys (denoted_contexts rules)
  pub goes_on : NeverStuck sys (denoted_contexts rules)
  pub misses : MayMissFormula sys (IsTrueAt sys (denoted_contexts rules) goal)
