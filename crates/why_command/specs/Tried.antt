-- Private: what was said of one class that was tried.
use Rattle.std.specs.Prelude.{◌≡◌, ◌++◌, ◌∷◌, Bool, true, false, List}
use Rattle.command_base.specs.Answers.{denied}
use Rattle.command_base.specs.Words.{Bytes, PlanWords, of_class}
use Rattle.pddl_ast.specs.Trees.{DomainTree, ProblemTree}
use Rattle.plan_command.specs.PlanCommand.{PlanThen}
use Rattle.task_core.specs.declared.classes.Class.{Class}
use Rattle.why_command.specs.Whys.{IsSaidOf, asked_for, none_line}

-- the next class is to be tried, since there is no plan of this one; or all is said
abbrev pub IsTried : PlanWords → DomainTree → ProblemTree → Class → Bytes → Bool → Type 0
IsTried asked domain problem class added true =
    (text : Bytes) × PlanThen (asked_for asked class) domain problem (denied text)
    × (added ≡ none_line (of_class class))
IsTried asked domain problem class added false =
    (more : List Class) → IsSaidOf asked domain problem (class ∷ more) added

-- that was added to a text
abbrev pub HasTried : PlanWords → DomainTree → ProblemTree → Class → Bytes → Bytes → Bool → Type 0
HasTried asked domain problem class before after more =
    (added : Bytes) × (after ≡ before ++ added) × IsTried asked domain problem class added more

-- what was said of several classes was added to a text
abbrev pub HasSaid : PlanWords → DomainTree → ProblemTree → List Class → Bytes → Bytes → Type 0
HasSaid asked domain problem classes before after =
    (added : Bytes) × (after ≡ before ++ added) × IsSaidOf asked domain problem classes added
