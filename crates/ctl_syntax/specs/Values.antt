-- The plain trees that the type `Ctl` stands for: a `Vec` is the list of its items.
use Rattle.std.specs.Prelude.{◌≡◌, ◌≤◌, ℕ, true}
use Rattle.task_core.specs.Conditions.{depth, ids_below}
use Rattle.task_core.specs.declared.conditions.Cond.{Cond}
use Rattle.ctl_syntax.specs.Goals.{CtlTree, EachPlain, plain, negation, all, any, implication, ax}
use Rattle.ctl_syntax.specs.Goals.{ex, af, ef, ag, eg, au, eu, aw, ew, goal_row}
use Rattle.ctl_syntax.specs.declared.goals.Ctl.{Ctl}
use Rattle.ctl_syntax.specs.declared.goals.Ctl.TheOpen as Open
use Rattle.ctl_syntax.specs.declared.goals.Ctl.TheOpen.{Ctl-F}
use Rattle.ctl_syntax.specs.declared.goals.Ctl.TheFolds.{fold-Ctl}

-- one layer of a goal, with the trees of its parts in their place
abbrev pub ctl_step : Ctl-F (CtlTree Cond) → CtlTree Cond
ctl_step (Open.Plain cond) = plain cond
ctl_step (Open.Not part) = negation part.value
ctl_step (Open.All parts) = all (goal_row parts.items)
ctl_step (Open.Any parts) = any (goal_row parts.items)
ctl_step (Open.Imply left right) = implication left.value right.value
ctl_step (Open.Ax part) = ax part.value
ctl_step (Open.Ex part) = ex part.value
ctl_step (Open.Af part) = af part.value
ctl_step (Open.Ef part) = ef part.value
ctl_step (Open.Ag part) = ag part.value
ctl_step (Open.Eg part) = eg part.value
ctl_step (Open.Au left right) = au left.value right.value
ctl_step (Open.Eu left right) = eu left.value right.value
ctl_step (Open.Aw left right) = aw left.value right.value
ctl_step (Open.Ew left right) = ew left.value right.value

abbrev pub ctl_value : Ctl → CtlTree Cond
ctl_value = fold-Ctl (CtlTree Cond) ctl_step

-- each condition of the goal names fluents below n alone
abbrev pub NamesBelow : ℕ → CtlTree Cond → Type 0
NamesBelow n goal = EachPlain (λ (cond : Cond). ids_below n cond ≡ true) goal

-- each condition of the goal is at most n deep
abbrev pub IsAtMostDeep : ℕ → CtlTree Cond → Type 0
IsAtMostDeep n goal = EachPlain (λ (cond : Cond). depth cond ≤ n) goal
