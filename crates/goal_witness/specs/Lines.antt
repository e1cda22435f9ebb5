-- Which goals are false after which steps of a run.
use Rattle.std.specs.Prelude.{ℕ, ◌+◌, List, [], ◌∷◌, ◌++◌, None, Option, Some}
use Rattle.ctl_syntax.specs.Goals.{CtlTree, af, au, aw}
use Rattle.ctl_syntax.specs.Values.{ctl_value}
use Rattle.task_core.specs.declared.conditions.Cond.{Cond}
use Rattle.goal_witness.specs.Failures.{PlainLink}
use Rattle.goal_witness.specs.Links.{step_count}
use Rattle.goal_witness.specs.declared.lines.Line.{Line}

-- a goal that is false in the states after so many steps up to so many
pub record PlainLine : Type 0 where
  pub from : ℕ
  pub last : ℕ
  pub goal : CtlTree Cond

-- what a Line says
abbrev pub line_value : Line → PlainLine
line_value line = record { from = line.from; last = line.last; goal = ctl_value line.goal.now }

-- the part that is false all along the steps by which a goal fails, where one is
abbrev pub false_along : CtlTree Cond → Option (CtlTree Cond)
false_along (af g) = Some g
false_along (au g h) = Some h
false_along (aw g h) = Some h
false_along goal = None

abbrev pub along_lines : ℕ → ℕ → Option (CtlTree Cond) → List PlainLine
along_lines from more None = []
along_lines from more (Some goal) = (record { from = from; last = from + more; goal = goal }) ∷ []

-- what the parts of a witness say, of which the first is judged after so many steps
abbrev pub lines_from : ℕ → List PlainLink → List PlainLine
lines_from from [] = []
lines_from from (link ∷ links) =
    ((record { from = from; last = from; goal = link.part })
    ∷ along_lines from (step_count link.how) (false_along link.part))
    ++ lines_from (from + step_count link.how) links
