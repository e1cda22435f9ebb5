-- What is told after the lines that there is no plan.
use Rattle.std.specs.Prelude.{◌≡◌, ◌⊎◌, ◌++◌, List}
use Rattle.command_base.specs.Answers.{Answer, affirmed, denied, refused}
use Rattle.command_base.specs.Words.{Bytes, PlanKind, of_class, with_contexts}
use Rattle.dead_ends.specs.ToldRuns.{IsRunTold}
use Rattle.task_core.specs.Names.{Name}
use Rattle.task_core.specs.Systems.{System}
use Rattle.task_core.specs.declared.classes.Class.{Class}
use Rattle.task_core.specs.declared.classes.Class.TheVariants.{Cyclic, Strong, Weak}

-- what may be told for a class: a run, where a plan asks for more than a weak one
abbrev pub IsToldOf : Class → System → List Name → List Name → Bytes → Type 0
IsToldOf Weak sys fluents actions = λ text. ⊥
IsToldOf Strong sys fluents actions = IsRunTold Strong sys fluents actions
IsToldOf Cyclic sys fluents actions = IsRunTold Cyclic sys fluents actions

-- what may be told for a kind: a run for a class, and nothing for contexts
abbrev pub IsToldFor : PlanKind → System → List Name → List Name → Bytes → Type 0
IsToldFor (of_class class) sys fluents actions = IsToldOf class sys fluents actions
IsToldFor with_contexts sys fluents actions = λ text. ⊥

-- a text as it was, or with more of a kind after it
abbrev pub HasMore : (Bytes → Type 0) → Bytes → Bytes → Type 0
HasMore IsMore before after =
    (after ≡ before) ⊎ ((more : Bytes) × IsMore more × (after ≡ before ++ more))

-- an answer as it was, or, where it denies, with what is told after it
abbrev pub HasRunAfter : PlanKind → System → List Name → List Name → Answer → Answer → Type 0
HasRunAfter kind sys fluents actions (affirmed text) answer = answer ≡ affirmed text
HasRunAfter kind sys fluents actions (denied text) answer =
    (after : Bytes) × HasMore (IsToldFor kind sys fluents actions) text after
    × (answer ≡ denied after)
HasRunAfter kind sys fluents actions (refused refusal) answer = answer ≡ refused refusal
