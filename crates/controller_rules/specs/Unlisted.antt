-- What is asked of the rules of a table whose states aren't listed, since they are too many.
use Rattle.std.specs.Prelude.{◌≡◌, true, List}
use Rattle.std.specs.List.{Contains}
use Rattle.plan_rules.specs.Denoted.{denoted}
use Rattle.plan_rules.specs.Rules.{PlanRule, table}
use Rattle.task_core.specs.Cubes.{matches}
use Rattle.task_core.specs.Solutions.{IsReached, IsSolution}
use Rattle.task_core.specs.Systems.{Exec, System}
use Rattle.task_core.specs.Vectors.{Vector}
use Rattle.task_core.specs.declared.classes.Class.{Class}
use Rattle.first_match.specs.FirstMatch.{run_table}
use Rattle.controller_rules.specs.AsRun.{HasNoHiddenRule, HasOneMove}

-- the rules are those of a controller of the class, but that a rule needn't serve in a state that they
-- may reach: read as plans are read, each rule that matches a state which they may reach can be followed
-- there, and they are a solution; they are one as they are run; all rules that count in a state make the
-- same move; and no rule is hidden by those before it
pub record AreGoodUnlisted (class : Class) (sys : System) (rules : List PlanRule) : Type 0 where
  pub followed : (s : Vector) (rule : PlanRule) → IsReached sys (denoted sys rules) s
      → Contains rules rule → matches rule.cube s ≡ true → Exec sys s rule.action
  pub solve : IsSolution class sys (denoted sys rules)
  pub run_solve : IsSolution class sys (run_table sys rules)
  pub one_move : HasOneMove sys (table class rules)
  pub no_hidden_rule : HasNoHiddenRule sys (table class rules)
