-- The command `drill`: a problem is made from a number, and a plan of each class is looked for and
-- judged.
use Rattle.std.specs.Prelude.{◌≡◌, ℕ, ◌⊎◌, List, ◌++◌, codes, decimal, length, true, None}
use Rattle.exec_graph.specs.Executions.{ReachesMoreThan}
use Rattle.pddl_ast.specs.Trees.{DomainTree, ProblemTree}
use Rattle.domain_read.specs.Domains.{SpellsDomain}
use Rattle.pddl_system.specs.Sizes.{first_passed}
use Rattle.pddl_system.specs.Systems.{system}
use Rattle.plan_check.specs.Verdicts.{IsVerdict}
use Rattle.plan_check.specs.declared.verdicts.Verdict.{Verdict}
use Rattle.plan_rules.specs.Denoted.{denoted}
use Rattle.plan_rules.specs.Rules.{PlanRule, table}
use Rattle.plan_rules.specs.Texts.{class_word, line_feed}
use Rattle.task_core.specs.Solutions.{HasNoSolution, IsSolution}
use Rattle.task_core.specs.Systems.{System}
use Rattle.task_core.specs.Tables.{IsTable}
use Rattle.task_core.specs.declared.classes.Class.{Class}
use Rattle.task_core.specs.declared.classes.Class.TheVariants.{Weak, Strong, Cyclic}
use Rattle.task_gen.specs.Corridors.{corridor_domain, corridor_problem}
use Rattle.task_gen.specs.Roads.{tyres_domain, tyres_problem}
use Rattle.command_base.specs.Answers.{Answer, Refusal, affirmed, full, refused, text_of}
use Rattle.check_command.specs.CheckCommand.{ExploreThen, verdict_answer}
use Rattle.command_base.specs.Following.{HasTooManyStates, most_followed}
use Rattle.plan_command.specs.Enough.{IsTightPlan}
use Rattle.command_base.specs.CountLines.{count_line}
use Rattle.command_base.specs.Grounding.{GoalThen, GroundThen, has_goal_for}
use Rattle.command_base.specs.PddlTexts.{IsFaultyDomain, IsFaultyProblem, SpellsProblemOf}
use Rattle.plan_theory.specs.PrintedRules.{ArePrintedRules}
use Rattle.command_base.specs.Words.{Bytes, DrillKind, DrillWords, corridors, default_nodes}
use Rattle.command_base.specs.Words.{drill_word, of_class, roads}

-- the texts of the domain and of the problem of a size
abbrev pub drill_domain : DrillKind → Bytes
drill_domain corridors = corridor_domain
drill_domain roads = tyres_domain

abbrev pub drill_problem : DrillKind → ℕ → Bytes
drill_problem corridors size = corridor_problem size
drill_problem roads size = tyres_problem size

-- the names in place of those of files
abbrev pub domain_name : Bytes
domain_name = codes "domain"

abbrev pub problem_name : Bytes
problem_name = codes "problem"

-- the text under this name spells no tree, and is refused as a file is; or it spells one, and then
-- comes what Then says
abbrev pub TextThen : {X : Type 0} → Bytes → Bytes → (Bytes → X → Type 0)
    → (Bytes → Bytes → Refusal → Type 0) → (X → Answer → Type 0) → Answer → Type 0
TextThen {X} name text Spells Wrong Then answer =
    ((refusal : Refusal) × (answer ≡ refused refusal) × Wrong name text refusal)
    ⊎ ((tree : X) × Spells text tree × Then tree answer)

-- the text of the domain is read, and then that of the problem, and then comes what Then says of
-- both
abbrev pub TextsThen : DrillWords → (DomainTree → ProblemTree → Answer → Type 0) → Answer → Type 0
TextsThen asked Then =
    TextThen domain_name (drill_domain asked.kind) SpellsDomain IsFaultyDomain (λ domain.
    TextThen problem_name (drill_problem asked.kind asked.size) (SpellsProblemOf domain)
    (IsFaultyProblem domain) (λ problem. Then domain problem))

-- the two texts spell the domain and the problem of it
pub record SpellBoth (asked : DrillWords) (domain : DomainTree) (problem : ProblemTree)
    : Type 0 where
  pub spells_domain : SpellsDomain (drill_domain asked.kind) domain
  pub spells_problem : SpellsProblemOf domain (drill_problem asked.kind asked.size) problem

-- the rules are those that are printed for the class, and what they denote is a solution of it
pub record SolvePrinted (class : Class) (sys : System) (rules : List PlanRule) : Type 0 where
  pub printed : ArePrintedRules class sys rules
  pub table : IsTable sys (denoted sys rules)
  pub solves : IsSolution class sys (denoted sys rules)

-- the line of a class, as: strong no plan; or as: strong rules 38 yes bound 38
abbrev pub no_plan_line : Class → Bytes
no_plan_line class = class_word class ++ codes " no plan" ++ line_feed

abbrev pub rules_line : Class → ℕ → Verdict → Bytes
rules_line class count verdict =
    class_word class ++ codes " rules " ++ decimal count ++ codes " "
    ++ text_of (verdict_answer verdict)

-- the rules are followed, since there are neither too many initial states (`TooMany`) nor too many
-- configurations, and the line has their number and the verdict on them
pub record IsJudgedLine (TooMany : Type 0) (class : Class) (sys : System) (rules : List PlanRule)
    (line : Bytes) : Type 0 where
  pub few_initial : TooMany → ⊥
  pub few : ReachesMoreThan sys (table class rules) most_followed → ⊥
  pub verdict : Verdict
  pub judged : IsVerdict sys rules class verdict
  pub written : line ≡ rules_line class (length rules) verdict

-- the line of a class: no table is a solution of it, and the line says that there is no plan; or it
-- is that of the rules that are printed
abbrev pub IsClassLine : Type 0 → Class → System → Bytes → Type 0
IsClassLine TooMany class sys line =
    (HasNoSolution class sys × (line ≡ no_plan_line class))
    ⊎ ((rules : List PlanRule) × SolvePrinted class sys rules
    × IsJudgedLine TooMany class sys rules line)

-- the rules that are printed for a class are not followed, for their limits
abbrev pub IsNotFollowed : Type 0 → Class → System → Answer → Type 0
IsNotFollowed TooMany class sys answer =
    (rules : List PlanRule) × SolvePrinted class sys rules
    × ExploreThen TooMany sys (table class rules) (λ a. ⊥) answer

-- a plan of the class isn't followed, and that is the answer; or the class has its line, and then
-- comes what Then says of it
abbrev pub LineThen : Type 0 → Class → System → (Bytes → Answer → Type 0) → Answer → Type 0
LineThen TooMany class sys Then answer =
    IsNotFollowed TooMany class sys answer
    ⊎ ((line : Bytes) × IsClassLine TooMany class sys line × Then line answer)

-- what is shown before the lines of the classes: what was asked, and how many fluents and actions
-- there are
abbrev pub asked_text : DrillWords → Bytes
asked_text asked =
    codes "drill " ++ drill_word asked.kind ++ codes " " ++ decimal asked.size ++ line_feed

abbrev pub count_lines : System → Bytes
count_lines sys =
    count_line (codes "fluents") sys.fluents ++ count_line (codes "actions") sys.actions

abbrev pub drill_head : DrillWords → System → Bytes
drill_head asked sys = asked_text asked ++ count_lines sys

abbrev pub drill_text : DrillWords → System → Bytes → Bytes → Bytes → Bytes
drill_text asked sys weak strong cyclic = drill_head asked sys ++ weak ++ strong ++ cyclic

-- the answer for a system: the lines of the three classes
abbrev pub IsDrilled : DrillWords → Type 0 → System → Answer → Type 0
IsDrilled asked TooMany sys =
    LineThen TooMany Weak sys (λ weak. LineThen TooMany Strong sys (λ strong.
    LineThen TooMany Cyclic sys (λ cyclic answer.
    answer ≡ affirmed (drill_text asked sys weak strong cyclic))))

-- what follows once both are read: there is a goal, the limits are kept, and plans are looked for
abbrev pub DrillThen : DrillWords → DomainTree → ProblemTree → Answer → Type 0
DrillThen asked domain problem =
    GoalThen (of_class Weak) problem_name problem
    (GroundThen domain problem
    (IsDrilled asked (HasTooManyStates domain problem) (system domain problem)))

-- plans are looked for of this domain and problem, and for that of one class the nodes may be too few
pub record IsTightDrill (domain : DomainTree) (problem : ProblemTree) : Type 0 where
  pub goal : has_goal_for (of_class Weak) problem ≡ true
  pub within : first_passed domain problem ≡ None
  pub class : Class
  pub tight : IsTightPlan (of_class class) default_nodes domain problem

-- the same of what the two texts spell
pub record MayDrillRunOut (asked : DrillWords) : Type 0 where
  pub domain : DomainTree
  pub problem : ProblemTree
  pub both : SpellBoth asked domain problem
  pub few : IsTightDrill domain problem

-- the answer of the command: that the table of nodes is full, where it may be; or what follows the
-- reading of both texts
abbrev pub IsDrillAnswer : DrillWords → Answer → Type 0
IsDrillAnswer asked answer =
    (MayDrillRunOut asked × (answer ≡ refused (full default_nodes)))
    ⊎ TextsThen asked (DrillThen asked) answer
