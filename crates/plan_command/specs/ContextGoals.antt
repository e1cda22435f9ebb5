-- Goals in computation tree logic that plans with contexts are looked for (Pistore, Traverso 2001:
-- extended goals): chains of stages, each to be met at last, one after another, with or without a
-- guard until it is met, and then a condition to keep; and patrols, visits to be made again and again.
use Rattle.std.specs.Prelude.{◌≡◌, ◌<◌, ◌≤◌, ◌⊎◌, ℕ, false, length, Option, None, Some, codes}
use Rattle.std.specs.Prelude.{nat_le, Bool}
use Rattle.std.specs.Option.{option_and_then, option_map_or}
use Rattle.ctl_syntax.specs.ContextGoals.{PlainGoal, plain_goal, plain_patrol, plain_until}
use Rattle.ctl_syntax.specs.GoalSizes.{most_stages, most_visits}
use Rattle.pddl_ast.specs.Trees.{FormulaTree, ProblemTree}
use Rattle.pddl_system.specs.CtlGoals.{ctl_tree}
use Rattle.sexpr_text.specs.declared.faults.FaultKind.TheVariants.{NotChain}
use Rattle.command_base.specs.Answers.{Answer, refused, over_limit, text_fault}
use Rattle.command_base.specs.Words.{Bytes}

-- the parts of the problem's goal, where plans with contexts are looked for it
abbrev pub context_goal : ProblemTree → Option (PlainGoal FormulaTree)
context_goal problem = option_and_then (λ goal. plain_goal (ctl_tree goal)) problem.ctl

-- how many stages a goal has, or how many visits
abbrev pub part_count : {P : Type 0} → PlainGoal P → ℕ
part_count (plain_until chain) = length chain.stages
part_count (plain_patrol visits) = length visits

abbrev pub most_parts : {P : Type 0} → PlainGoal P → ℕ
most_parts (plain_until chain) = most_stages
most_parts (plain_patrol visits) = most_visits

-- the name of that limit
abbrev pub part_limit : {P : Type 0} → PlainGoal P → Bytes
part_limit (plain_until chain) = codes "stages"
part_limit (plain_patrol visits) = codes "patrol"

-- how many stages or visits the problem's goal has; none where no plan with contexts is looked for it
abbrev pub stage_count : ProblemTree → ℕ
stage_count problem = option_map_or part_count (context_goal problem) 0

-- plans with contexts are looked for the problem's goal: it is an until-chain or a patrol goal, of no
-- more stages or visits than may be
abbrev pub is_short_goal : ProblemTree → Bool
is_short_goal problem =
    option_map_or (λ goal. nat_le (part_count goal) (most_parts goal)) (context_goal problem) false

-- the goal of the problem in the file of this name is no until-chain and no patrol goal, which is a
-- fault at its place; or it is one with too many stages or visits; or with fewer, and then comes what
-- Then says of it
abbrev pub ContextGoalThen : Bytes → ProblemTree → (PlainGoal FormulaTree → Answer → Type 0)
    → Answer → Type 0
ContextGoalThen name problem Then answer =
    ((context_goal problem ≡ None)
    × (answer ≡ refused (text_fault name (record { kind = NotChain; place = problem.ctl_place }))))
    ⊎ ((goal : PlainGoal FormulaTree) × (context_goal problem ≡ Some goal)
    × (((most_parts goal < part_count goal) × (answer ≡ refused (over_limit (part_limit goal))))
    ⊎ ((part_count goal ≤ most_parts goal) × Then goal answer)))
