-- The text of goals, and of where they are false on a run: what is printed, byte for byte.
use Rattle.std.specs.Prelude.{ℕ, ◌==◌, List, [], ◌++◌, codes, decimal, if◌then◌else◌}
use Rattle.std.specs.List.{flat_map}
use Rattle.ctl_syntax.specs.Goals.{CtlTree, CtlTrees, plain, negation, all, any, implication, ax}
use Rattle.ctl_syntax.specs.Goals.{ex, af, ef, ag, eg, au, eu, aw, ew, no_goal, goal_then}
use Rattle.plan_rules.specs.Texts.{line_feed}
use Rattle.state_text.specs.Texts.{after_space, condition_text}
use Rattle.task_core.specs.Names.{Name}
use Rattle.task_core.specs.declared.conditions.Cond.{Cond}
use Rattle.goal_witness.specs.Lines.{PlainLine}

-- a form with one part, as (af (at a)), and with two, as (au (up) (at a))
abbrev pub one_part : List ℕ → List ℕ → List ℕ
one_part word part = word ++ part ++ codes ")"

abbrev pub first_part : List ℕ → List ℕ → List ℕ
first_part word left = word ++ left ++ codes " "

abbrev pub two_parts : List ℕ → List ℕ → List ℕ → List ℕ
two_parts word left right = first_part word left ++ right ++ codes ")"

abbrev mutual
  -- a goal, as it stands in a problem
  pub goal_text : List Name → CtlTree Cond → List ℕ
  goal_text fluents (plain cond) = condition_text fluents cond
  goal_text fluents (negation g) = one_part (codes "(not ") (goal_text fluents g)
  goal_text fluents (all gs) = codes "(and" ++ parts_text fluents gs ++ codes ")"
  goal_text fluents (any gs) = codes "(or" ++ parts_text fluents gs ++ codes ")"
  goal_text fluents (implication g h) =
      two_parts (codes "(imply ") (goal_text fluents g) (goal_text fluents h)
  goal_text fluents (ax g) = one_part (codes "(ax ") (goal_text fluents g)
  goal_text fluents (ex g) = one_part (codes "(ex ") (goal_text fluents g)
  goal_text fluents (af g) = one_part (codes "(af ") (goal_text fluents g)
  goal_text fluents (ef g) = one_part (codes "(ef ") (goal_text fluents g)
  goal_text fluents (ag g) = one_part (codes "(ag ") (goal_text fluents g)
  goal_text fluents (eg g) = one_part (codes "(eg ") (goal_text fluents g)
  goal_text fluents (au g h) = two_parts (codes "(au ") (goal_text fluents g) (goal_text fluents h)
  goal_text fluents (eu g h) = two_parts (codes "(eu ") (goal_text fluents g) (goal_text fluents h)
  goal_text fluents (aw g h) = two_parts (codes "(aw ") (goal_text fluents g) (goal_text fluents h)
  goal_text fluents (ew g h) = two_parts (codes "(ew ") (goal_text fluents g) (goal_text fluents h)

  -- goals, each after a space
  pub parts_text : List Name → CtlTrees Cond → List ℕ
  parts_text fluents no_goal = []
  parts_text fluents (goal_then g gs) = after_space (goal_text fluents g) ++ parts_text fluents gs

-- the states after some steps, as after step 3 or after steps 3 to 5; after step 0 is the initial one
abbrev pub states_text : ℕ → ℕ → List ℕ
states_text from last =
    if from == last then codes "after step " ++ decimal from
    else codes "after steps " ++ decimal from ++ codes " to " ++ decimal last

-- a new line, indented, that says that a goal is false in the states after so many steps up to so many
abbrev pub false_line : List Name → PlainLine → List ℕ
false_line fluents line =
    line_feed ++ codes "  " ++ states_text line.from line.last ++ codes ": " ++ goal_text fluents line.goal
    ++ codes " is false"

-- such lines
abbrev pub false_lines : List Name → List PlainLine → List ℕ
false_lines fluents = flat_map (false_line fluents)
